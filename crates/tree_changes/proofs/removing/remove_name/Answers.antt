use Rattle.std.proofs.Common.{inr, refl}
use Rattle.directories.specs.Paths.{names_of}
use Rattle.names.specs.Removing.{RemovesAt}
use Rattle.tree_changes.specs.Lemmas.Lefts.{call_leaves}
use Rattle.tree_changes.proofs.removing.remove_name.Goals as goal

pub returns-in-Ok-clause-leaves : goal.returns-in-Ok-clause-leaves
returns-in-Ok-clause-leaves g c =
    inr (call_leaves g.D.Disk (RemovesAt (names_of c.args.path.now)) (RemovesAt (names_of c.args.path.now) tt) c.args.tree.now.kernel c.remove.new.self.kernel (λ made z is. is) (c.remove.ensures.leaves (c.if-not-may_call.ensures.0 refl)))

pub returns-in-Err-clause-leaves : goal.returns-in-Err-clause-leaves
returns-in-Err-clause-leaves g c =
    inr (call_leaves g.D.Disk (RemovesAt (names_of c.args.path.now)) (RemovesAt (names_of c.args.path.now) tt) c.args.tree.now.kernel c.remove.new.self.kernel (λ made z is. is) (c.remove.ensures.leaves (c.if-not-may_call.ensures.0 refl)))
