use Rattle.std.proofs.Common.{inl, inr, refl}
use Rattle.std.proofs.lemmas.Result.{IfErr-weaker}
use Rattle.tree_changes.proofs.removing.remove_tree.Goals as goal

pub returns-in-Ok-clause-undone : goal.returns-in-Ok-clause-undone
returns-in-Ok-clause-undone g c = λ ready. IfErr-weaker c.remove_below.result _ _ (λ r why. inr (c.in-Ok.ensures.down, why)) (c.remove_below.ensures.undone ready)

pub returns-in-Err-clause-undone : goal.returns-in-Err-clause-undone
returns-in-Err-clause-undone g c = λ ready. inl (refl, c.in-Err.ensures.bad)
