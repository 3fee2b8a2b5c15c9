use Rattle.in_flight.specs.Lemmas.HeldLooks.{free_tells}
use Rattle.in_flight.proofs.laws.free_tells.Goals as goal

pub returns : goal.returns
returns c = free_tells
