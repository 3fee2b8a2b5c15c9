use Rattle.in_flight.specs.Lemmas.HeldMarks.{set_bit_keeps}
use Rattle.in_flight.proofs.laws.set_bit_keeps.Goals as goal

pub returns : goal.returns
returns c = set_bit_keeps
