use Rattle.in_flight.specs.Lemmas.HeldLooks.{held_has_blocks}
use Rattle.in_flight.proofs.laws.held_has_blocks.Goals as goal

pub returns : goal.returns
returns c = held_has_blocks
