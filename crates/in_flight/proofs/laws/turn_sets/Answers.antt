use Rattle.in_flight.specs.Lemmas.Attributes.{turn_sets}
use Rattle.in_flight.proofs.laws.turn_sets.Goals as goal

pub returns : goal.returns
returns c = turn_sets
