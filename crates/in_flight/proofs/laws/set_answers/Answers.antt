use Rattle.in_flight.specs.Lemmas.Attributes.{set_answers}
use Rattle.in_flight.proofs.laws.set_answers.Goals as goal

pub returns : goal.returns
returns c = set_answers
