use Rattle.in_flight.specs.Lemmas.HeldOutsideLog.{held_outside}
use Rattle.in_flight.proofs.laws.held_outside.Goals as goal

pub returns : goal.returns
returns c = held_outside
