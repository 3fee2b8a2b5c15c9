use Rattle.model.specs.Lemmas.OutsideLog.{same_outside_log}
use Rattle.model.proofs.laws.same_outside_log.Goals as goal

pub returns : goal.returns
returns c = same_outside_log
