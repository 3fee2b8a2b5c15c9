use Rattle.in_flight.specs.Lemmas.HeldMarks.{cleared_bit_keeps}
use Rattle.in_flight.proofs.laws.cleared_bit_keeps.Goals as goal

pub returns : goal.returns
returns c = cleared_bit_keeps
