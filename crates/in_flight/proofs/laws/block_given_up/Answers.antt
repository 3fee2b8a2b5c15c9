use Rattle.in_flight.specs.Lemmas.GivenUp.{block_given_up}
use Rattle.in_flight.proofs.laws.block_given_up.Goals as goal

pub returns : goal.returns
returns c = block_given_up
