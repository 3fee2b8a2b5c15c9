use Rattle.in_flight.specs.Lemmas.BlocksTaken.{turn_grows}
use Rattle.in_flight.proofs.laws.turn_grows.Goals as goal

pub returns : goal.returns
returns c = turn_grows
