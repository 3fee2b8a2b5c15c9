use Rattle.std.proofs.Common.{◌∙◌}
use Rattle.std.proofs.lemmas.Result.{IfErr-weaker}
use Rattle.tree_changes.proofs.Removals.{bad_last}
use Rattle.tree_changes.proofs.removing.judge_last.Goals as goal

pub returns-in-Ok-clause-bad : goal.returns-in-Ok-clause-bad
returns-in-Ok-clause-bad c = IfErr-weaker c.last_down.result _ _ (λ fault bad. bad_last c.args.path.now c.as_slice.result.now fault (c.as_slice.ensures.value ∙ c.in-Ok.ensures.names) bad) c.last_down.ensures.bad
