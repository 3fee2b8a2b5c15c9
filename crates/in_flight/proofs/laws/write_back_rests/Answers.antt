use Rattle.in_flight.specs.Lemmas.WriteBacks.{write_back_rests}
use Rattle.in_flight.proofs.laws.write_back_rests.Goals as goal

pub returns : goal.returns
returns c = write_back_rests
