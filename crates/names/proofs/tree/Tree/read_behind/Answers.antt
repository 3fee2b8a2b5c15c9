use Rattle.std.proofs.Common.{◌≡◌, ◌∙◌, ◌++◌, List, ℕ, refl, sym, ap}
use Rattle.model.specs.declared.types.operations.Reply.TheVariants.{Bytes}
use Rattle.model.specs.Operations.{part_of}
use Rattle.names.specs.Inside.{files_seen}
use Rattle.directories.specs.Trees.{directory_in}
use Rattle.names.proofs.Going.{ends_on}
use Rattle.names.proofs.SeenLooks.{read_brings}
use Rattle.names.proofs.tree.Tree.read_behind.Given.{Over}
use Rattle.names.proofs.tree.Tree.read_behind.Goals.{In-Bytes}
use Rattle.names.proofs.tree.Tree.read_behind.Goals as goal

same_bytes : (a b : List ℕ) → Bytes a ≡ Bytes b → a ≡ b
same_bytes a b e = cc

pub unreachable-requires : goal.unreachable-requires
unreachable-requires g c =
    c.in_default.not-Bytes _ (read_brings g.D.Disk c.args.self.now.kernel c.called.new.self.kernel c.args.number c.args.offset c.in_ok-piece.field-0
    c.in_ok-piece.ensures.answers c.requires.there).1

module _ (g : Over) (c : In-Bytes g) where
  brought : (files_seen g.D.Disk.image c.called.new.self.kernel ≡ files_seen g.D.Disk.image c.args.self.now.kernel)
      × (c.in_ok-piece.field-0 ≡ Bytes (part_of (directory_in (files_seen g.D.Disk.image c.args.self.now.kernel) c.args.number) c.args.offset 3072))
  brought =
      read_brings g.D.Disk c.args.self.now.kernel c.called.new.self.kernel c.args.number c.args.offset c.in_ok-piece.field-0 c.in_ok-piece.ensures.answers
      c.requires.there

  piece_is : c.in-Bytes.piece ≡ part_of (directory_in (files_seen g.D.Disk.image c.args.self.now.kernel) c.args.number) c.args.offset 3072
  piece_is = same_bytes c.in-Bytes.piece _ (sym c.in-Bytes.is ∙ brought.1)

pub returns-in-Ok-clause-same : goal.returns-in-Ok-clause-same
returns-in-Ok-clause-same g c = let at = (goal.at.returns-in-Ok-clause-same g c).In-Bytes in (brought g at).0

pub returns-in-Ok-clause-more : goal.returns-in-Ok-clause-more
returns-in-Ok-clause-more g c =
    let at = (goal.at.returns-in-Ok-clause-more g c).In-Bytes in
    c.in-Ok.ensures.items ∙ ap (λ (l : List ℕ). c.args.bytes.now.items ++ l) (c.as_slice.ensures ∙ piece_is g at)

pub returns-clause-goes : goal.returns-clause-goes
returns-clause-goes g c = record {
  on = tt;
  stays = c.called.ensures.goes.stays;
  ends = ends_on g.D.Disk c.args.self.now.kernel c.called.new.self.kernel c.called.new.self.kernel c.args.self.now.calls_left c.called.new.self.calls_left 0 _
      c.requires.way c.in_ok-piece.ensures.goes.on (record { none = refl; broken = record { image = refl; faults = refl } });
}
