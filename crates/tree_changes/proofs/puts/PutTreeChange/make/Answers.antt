use Rattle.std.proofs.Common.{ℕ, List, refl, subst}
use Rattle.std.specs.Prelude.{IfErr, IfOk}
use Rattle.calls.specs.Calls.{image_on}
use Rattle.model.specs.Files.{files_of}
use Rattle.names.specs.Inside.{form_seen}
use Rattle.tree_changes.specs.Puts.{IsUnputAt, Puts}
use Rattle.tree_changes.proofs.Pieces.{left_as_given}
use Rattle.tree_changes.proofs.puts.PutTreeChange.make.Goals as goal

pub returns-clause-makes : goal.returns-clause-makes
returns-clause-makes g c =
    let disk = g.D.Disk in
    let old = c.args.tree.now.kernel in
    let new = c.put_whole.new.tree.kernel in
    subst (λ (bytes : List ℕ). IfOk c.put_whole.result (λ told. Puts c.args.self.now.path.now bytes (form_seen disk.image old) told (files_of (image_on disk.image old)) (files_of (image_on disk.image new)))) c.as_slice.ensures.value c.put_whole.ensures.puts

pub returns-clause-undone : goal.returns-clause-undone
returns-clause-undone g c =
    subst (λ (bytes : List ℕ). IfErr c.put_whole.result (IsUnputAt g.D.Disk c.args.self.now.path.now bytes c.args.tree.now.kernel c.put_whole.new.tree.kernel)) c.as_slice.ensures.value c.put_whole.ensures.undone

pub returns-clause-leaves : goal.returns-clause-leaves
returns-clause-leaves g c =
    left_as_given g.D.Disk c.args.tree.now.kernel c.put_whole.new.tree.kernel (form_seen g.D.Disk.image c.args.tree.now.kernel) c.args.self.now.path.now _ c.as_slice.result.now _ refl c.as_slice.ensures.value c.put_whole.ensures.leaves
