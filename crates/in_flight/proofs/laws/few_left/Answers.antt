use Rattle.in_flight.specs.Lemmas.FewLeft.{few_left}
use Rattle.in_flight.proofs.laws.few_left.Goals as goal

pub returns : goal.returns
returns c = few_left
