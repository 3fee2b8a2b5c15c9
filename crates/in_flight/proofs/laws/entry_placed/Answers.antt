use Rattle.in_flight.specs.Lemmas.Placing.{entry_placed}
use Rattle.in_flight.proofs.laws.entry_placed.Goals as goal

pub returns : goal.returns
returns c = entry_placed
