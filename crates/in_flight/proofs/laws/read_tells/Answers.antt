use Rattle.in_flight.specs.Lemmas.Looks.{read_tells}
use Rattle.in_flight.proofs.laws.read_tells.Goals as goal

pub returns : goal.returns
returns c = read_tells
