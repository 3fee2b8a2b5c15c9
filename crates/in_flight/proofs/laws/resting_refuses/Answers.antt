use Rattle.in_flight.specs.Lemmas.GrowthEnds.{resting_refuses}
use Rattle.in_flight.proofs.laws.resting_refuses.Goals as goal

pub returns : goal.returns
returns c = resting_refuses
