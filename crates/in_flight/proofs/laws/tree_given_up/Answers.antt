use Rattle.in_flight.specs.Lemmas.GivenUp.{tree_given_up}
use Rattle.in_flight.proofs.laws.tree_given_up.Goals as goal

pub returns : goal.returns
returns c = tree_given_up
