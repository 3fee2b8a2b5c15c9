use Rattle.in_flight.specs.Lemmas.BlocksTaken.{block_taken}
use Rattle.in_flight.proofs.laws.block_taken.Goals as goal

pub returns : goal.returns
returns c = block_taken
