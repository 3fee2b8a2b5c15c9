use Rattle.in_flight.specs.Lemmas.HeldMarks.{growth_keeps}
use Rattle.in_flight.proofs.laws.growth_keeps.Goals as goal

pub returns : goal.returns
returns c = growth_keeps
