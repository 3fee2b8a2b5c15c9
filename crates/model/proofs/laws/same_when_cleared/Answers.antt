use Rattle.model.specs.Lemmas.OutsideLog.{same_when_cleared}
use Rattle.model.proofs.laws.same_when_cleared.Goals as goal

pub returns : goal.returns
returns c = same_when_cleared
