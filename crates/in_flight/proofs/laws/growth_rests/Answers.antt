use Rattle.in_flight.specs.Lemmas.GrowthEnds.{growth_rests}
use Rattle.in_flight.proofs.laws.growth_rests.Goals as goal

pub returns : goal.returns
returns c = growth_rests
