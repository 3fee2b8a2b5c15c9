use Rattle.model.specs.Lemmas.Runs.{at_once_is_refused}
use Rattle.model.proofs.laws.at_once_is_refused.Goals as goal

pub returns : goal.returns
returns c = at_once_is_refused
