use Rattle.in_flight.specs.Lemmas.HeldMarks.{write_back_keeps}
use Rattle.in_flight.proofs.laws.write_back_keeps.Goals as goal

pub returns : goal.returns
returns c = write_back_keeps
