use Rattle.in_flight.specs.Lemmas.GivenUp.{direct_given_up}
use Rattle.in_flight.proofs.laws.direct_given_up.Goals as goal

pub returns : goal.returns
returns c = direct_given_up
