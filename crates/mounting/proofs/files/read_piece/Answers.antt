use Rattle.std.proofs.Common.{◌≡◌, ◌∙◌, ◌+◌, ◌++◌, ℕ, List, length, eqb, refl, ap}
use Rattle.model.specs.Operations.{part_of}
use Rattle.mounting.specs.Changes.{bytes_on}
use Rattle.mounting.proofs.ReadParts.{read_is}
use Rattle.mounting.proofs.files.read_piece.Given.{Over}
use Rattle.mounting.proofs.files.read_piece.Goals.{After-drop-bytes-inside-2}
use Rattle.mounting.proofs.files.read_piece.Goals as goal

module _ (g : Over) (c : After-drop-bytes-inside-2 g) where
  part : c.in_ok-bytes.bytes ≡ part_of (bytes_on g.D.Disk c.args.number c.args.tree.now.kernel) (c.args.offset + c.args.done) c.args.most
  part =
      read_is _ _ c.args.number c.in-Some.at c.args.most c.args.most c.in_ok-bytes.bytes refl c.requires.few c.in_ok-bytes.ensures.does
      ∙ ap (λ (at : ℕ). part_of (bytes_on g.D.Disk c.args.number c.args.tree.now.kernel) at c.args.most) c.in-Some.ensures.1

pub returns-clause-reads : goal.returns-clause-reads
returns-clause-reads g c = c.in_ok-extend_from_slice.ensures.items ∙ ap (λ (l : List ℕ). c.args.out.now.items ++ l) (c.as_slice.ensures ∙ part g (goal.at.returns-clause-reads g c).After-drop-bytes-inside-2)

pub returns-clause-whole : goal.returns-clause-whole
returns-clause-whole g c = ap (λ (n : ℕ). eqb n c.args.most) (c.len.ensures ∙ ap (λ (l : List ℕ). length l) (part g (goal.at.returns-clause-whole g c).After-drop-bytes-inside-2))
