use Rattle.names.specs.Lemmas.Midst.{leaves_any}
use Rattle.names.specs.Ready.{AnyOf, LeavesMidst}
use Rattle.std.proofs.Common.{List, ℕ, rules, subst}
use Rattle.model.specs.Files.{files_of}
use Rattle.calls.specs.Calls.{image_on}
use Rattle.directories.specs.Paths.{names_of}
use Rattle.names.specs.Renaming.{RenamesAt}
use Rattle.tree_changes.proofs.changes.RenameTreeChange.make.Goals as goal

pub returns-in-Ok-clause-leaves : goal.returns-in-Ok-clause-leaves
returns-in-Ok-clause-leaves g c =
    subst (λ (from : List ℕ). LeavesMidst g.D.Disk (AnyOf (RenamesAt (names_of from) (names_of c.args.self.now.to.now))) c.args.tree.now.kernel c.rename.new.self.kernel) c.as_bytes.ensures.value
    (subst (λ (to : List ℕ). LeavesMidst g.D.Disk (AnyOf (RenamesAt (names_of c.as_bytes.result.now) (names_of to))) c.args.tree.now.kernel c.rename.new.self.kernel) c.as_bytes-2.ensures.value
    (leaves_any g.D.Disk (RenamesAt (names_of c.as_bytes.result.now) (names_of c.as_bytes-2.result.now)) c.args.tree.now.kernel c.rename.new.self.kernel (c.rename.ensures.leaves c.requires.some)))

pub returns-in-Err-clause-leaves : goal.returns-in-Err-clause-leaves
returns-in-Err-clause-leaves g c =
    subst (λ (from : List ℕ). LeavesMidst g.D.Disk (AnyOf (RenamesAt (names_of from) (names_of c.args.self.now.to.now))) c.args.tree.now.kernel c.rename.new.self.kernel) c.as_bytes.ensures.value
    (subst (λ (to : List ℕ). LeavesMidst g.D.Disk (AnyOf (RenamesAt (names_of c.as_bytes.result.now) (names_of to))) c.args.tree.now.kernel c.rename.new.self.kernel) c.as_bytes-2.ensures.value
    (leaves_any g.D.Disk (RenamesAt (names_of c.as_bytes.result.now) (names_of c.as_bytes-2.result.now)) c.args.tree.now.kernel c.rename.new.self.kernel (c.rename.ensures.leaves c.requires.some)))

pub returns-in-Ok-clause-makes : goal.returns-in-Ok-clause-makes
returns-in-Ok-clause-makes g c =
    let old = files_of (image_on g.D.Disk.image c.args.tree.now.kernel) in
    let new = files_of (image_on g.D.Disk.image c.rename.new.self.kernel) in
    let there = subst (λ (to : List ℕ). RenamesAt (names_of c.as_bytes.result.now) (names_of to) tt old new) c.as_bytes-2.ensures.value c.in-Ok.ensures.renames in
    (search rules, subst (λ (from : List ℕ). RenamesAt (names_of from) (names_of c.args.self.now.to.now) tt old new) c.as_bytes.ensures.value there)
