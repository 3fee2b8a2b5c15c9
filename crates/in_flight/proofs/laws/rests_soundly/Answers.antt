use Rattle.in_flight.specs.Lemmas.AtRest.{rests_soundly}
use Rattle.in_flight.proofs.laws.rests_soundly.Goals as goal

pub returns : goal.returns
returns c = rests_soundly
