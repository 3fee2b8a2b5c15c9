use Rattle.in_flight.specs.Lemmas.Placing.{address_placed}
use Rattle.in_flight.proofs.laws.address_placed.Goals as goal

pub returns : goal.returns
returns c = address_placed
