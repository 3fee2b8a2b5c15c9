use Rattle.in_flight.specs.Lemmas.Turns.{turn_holds}
use Rattle.in_flight.proofs.laws.turn_holds.Goals as goal

pub returns : goal.returns
returns c = turn_holds
