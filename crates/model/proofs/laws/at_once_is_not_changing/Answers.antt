use Rattle.model.specs.Lemmas.Runs.{at_once_is_not_changing}
use Rattle.model.proofs.laws.at_once_is_not_changing.Goals as goal

pub returns : goal.returns
returns c = at_once_is_not_changing
