use Rattle.model.specs.Lemmas.OutsideLog.{same_when_recovered}
use Rattle.model.proofs.laws.same_when_recovered.Goals as goal

pub returns : goal.returns
returns c = same_when_recovered
