use Rattle.names.specs.Lemmas.Midst.{leaves_any}
use Rattle.names.specs.Ready.{AnyOf, LeavesMidst}
use Rattle.std.proofs.Common.{List, ℕ, subst}
use Rattle.directories.specs.Paths.{names_of}
use Rattle.names.specs.Undirecting.{RemovesDirectoryAt}
use Rattle.tree_changes.proofs.changes.RemoveDirectoryTreeChange.make.Goals as goal

pub returns-in-Ok-clause-leaves : goal.returns-in-Ok-clause-leaves
returns-in-Ok-clause-leaves g c =
    subst (λ (path : List ℕ). LeavesMidst g.D.Disk (AnyOf (RemovesDirectoryAt (names_of path))) c.args.tree.now.kernel c.remove_directory.new.self.kernel) c.as_bytes.ensures.value
    (leaves_any g.D.Disk (RemovesDirectoryAt (names_of c.as_bytes.result.now)) c.args.tree.now.kernel c.remove_directory.new.self.kernel (c.remove_directory.ensures.leaves c.requires.some))

pub returns-in-Err-clause-leaves : goal.returns-in-Err-clause-leaves
returns-in-Err-clause-leaves g c =
    subst (λ (path : List ℕ). LeavesMidst g.D.Disk (AnyOf (RemovesDirectoryAt (names_of path))) c.args.tree.now.kernel c.remove_directory.new.self.kernel) c.as_bytes.ensures.value
    (leaves_any g.D.Disk (RemovesDirectoryAt (names_of c.as_bytes.result.now)) c.args.tree.now.kernel c.remove_directory.new.self.kernel (c.remove_directory.ensures.leaves c.requires.some))
