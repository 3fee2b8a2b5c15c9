use Rattle.in_flight.specs.Lemmas.GrowthEnds.{growth_answers}
use Rattle.in_flight.proofs.laws.growth_answers.Goals as goal

pub returns : goal.returns
returns c = growth_answers
