use Rattle.std.proofs.Common.{inr, refl}
use Rattle.names.specs.Undirecting.{RemovesDirectoryIn}
use Rattle.tree_changes.specs.Lemmas.Lefts.{call_leaves}
use Rattle.tree_changes.proofs.removing.remove_empty.Goals as goal

pub returns-in-Ok-clause-leaves : goal.returns-in-Ok-clause-leaves
returns-in-Ok-clause-leaves g c =
    inr (call_leaves g.D.Disk (RemovesDirectoryIn c.args.one.now.from c.args.one.now.name) (RemovesDirectoryIn c.args.one.now.from c.args.one.now.name tt) c.args.tree.now.kernel c.remove_directory_in.new.self.kernel (λ made z is. is) (c.remove_directory_in.ensures.leaves (c.if-not-may_call.ensures.0 refl)))

pub returns-in-Err-clause-leaves : goal.returns-in-Err-clause-leaves
returns-in-Err-clause-leaves g c =
    inr (call_leaves g.D.Disk (RemovesDirectoryIn c.args.one.now.from c.args.one.now.name) (RemovesDirectoryIn c.args.one.now.from c.args.one.now.name tt) c.args.tree.now.kernel c.remove_directory_in.new.self.kernel (λ made z is. is) (c.remove_directory_in.ensures.leaves (c.if-not-may_call.ensures.0 refl)))
