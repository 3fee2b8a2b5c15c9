use Rattle.in_flight.specs.Lemmas.HeldMarks.{data_keeps}
use Rattle.in_flight.proofs.laws.data_keeps.Goals as goal

pub returns : goal.returns
returns c = data_keeps
