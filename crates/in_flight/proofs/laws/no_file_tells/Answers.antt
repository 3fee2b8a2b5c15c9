use Rattle.in_flight.specs.Lemmas.Looks.{no_file_tells}
use Rattle.in_flight.proofs.laws.no_file_tells.Goals as goal

pub returns : goal.returns
returns c = no_file_tells
