use Rattle.in_flight.specs.Lemmas.Attributes.{set_rests}
use Rattle.in_flight.proofs.laws.set_rests.Goals as goal

pub returns : goal.returns
returns c = set_rests
