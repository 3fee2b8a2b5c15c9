use Rattle.in_flight.specs.Lemmas.Looks.{used_is_fit}
use Rattle.in_flight.proofs.laws.used_is_fit.Goals as goal

pub returns : goal.returns
returns c = used_is_fit
