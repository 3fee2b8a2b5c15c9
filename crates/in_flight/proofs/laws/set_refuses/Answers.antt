use Rattle.in_flight.specs.Lemmas.Attributes.{set_refuses}
use Rattle.in_flight.proofs.laws.set_refuses.Goals as goal

pub returns : goal.returns
returns c = set_refuses
