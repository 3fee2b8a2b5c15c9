use Rattle.std.proofs.Common.{ℕ, List, subst}
use Rattle.directories.specs.Paths.{names_of}
use Rattle.names.specs.Ready.{LeavesMidst}
use Rattle.tree_changes.specs.Removing.{IsUnremovedAll, RemovesPart}
use Rattle.tree_changes.proofs.removing.RemoveAllTreeChange.make.Goals as goal

pub returns-in-Ok-clause-leaves : goal.returns-in-Ok-clause-leaves
returns-in-Ok-clause-leaves g c =
    subst (λ (path : List ℕ). LeavesMidst g.D.Disk (RemovesPart (names_of path)) c.args.tree.now.kernel c.remove_all.new.tree.kernel) c.as_bytes.ensures.value c.remove_all.ensures.leaves

pub returns-in-Err-clause-leaves : goal.returns-in-Err-clause-leaves
returns-in-Err-clause-leaves g c =
    subst (λ (path : List ℕ). LeavesMidst g.D.Disk (RemovesPart (names_of path)) c.args.tree.now.kernel c.remove_all.new.tree.kernel) c.as_bytes.ensures.value c.remove_all.ensures.leaves

pub returns-in-Err-clause-undone : goal.returns-in-Err-clause-undone
returns-in-Err-clause-undone g c = subst (λ (path : List ℕ). IsUnremovedAll g.D.Disk path c.args.tree.now.kernel c.remove_all.new.tree.kernel c.in-Err.refusal) c.as_bytes.ensures.value c.in-Err.ensures.undone
