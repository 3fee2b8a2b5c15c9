use Rattle.std.proofs.Common.{inr, refl}
use Rattle.directories.specs.Paths.{names_of}
use Rattle.names.specs.Undirecting.{RemovesDirectoryAt}
use Rattle.tree_changes.specs.Lemmas.Lefts.{call_leaves}
use Rattle.tree_changes.proofs.removing.remove_emptied.Goals as goal

pub returns-in-Ok-clause-leaves : goal.returns-in-Ok-clause-leaves
returns-in-Ok-clause-leaves g c =
    inr (call_leaves g.D.Disk (RemovesDirectoryAt (names_of c.args.path.now)) (RemovesDirectoryAt (names_of c.args.path.now) tt) c.args.tree.now.kernel c.remove_directory.new.self.kernel (λ made z is. is) (c.remove_directory.ensures.leaves (c.if-not-may_call.ensures.0 refl)))

pub returns-in-Err-clause-leaves : goal.returns-in-Err-clause-leaves
returns-in-Err-clause-leaves g c =
    inr (call_leaves g.D.Disk (RemovesDirectoryAt (names_of c.args.path.now)) (RemovesDirectoryAt (names_of c.args.path.now) tt) c.args.tree.now.kernel c.remove_directory.new.self.kernel (λ made z is. is) (c.remove_directory.ensures.leaves (c.if-not-may_call.ensures.0 refl)))
