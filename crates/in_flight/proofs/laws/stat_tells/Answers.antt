use Rattle.in_flight.specs.Lemmas.Looks.{stat_tells}
use Rattle.in_flight.proofs.laws.stat_tells.Goals as goal

pub returns : goal.returns
returns c = stat_tells
