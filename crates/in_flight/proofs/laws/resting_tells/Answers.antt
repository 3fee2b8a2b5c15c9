use Rattle.in_flight.specs.Lemmas.HeldLooks.{resting_tells}
use Rattle.in_flight.proofs.laws.resting_tells.Goals as goal

pub returns : goal.returns
returns c = resting_tells
