use Rattle.in_flight.specs.Lemmas.BytesWritten.{bytes_written}
use Rattle.in_flight.proofs.laws.bytes_written.Goals as goal

pub returns : goal.returns
returns c = bytes_written
