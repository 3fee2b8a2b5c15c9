use Rattle.in_flight.specs.Lemmas.BlocksTaken.{taken_zeroed}
use Rattle.in_flight.proofs.laws.taken_zeroed.Goals as goal

pub returns : goal.returns
returns c = taken_zeroed
