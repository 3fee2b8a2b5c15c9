use Rattle.in_flight.specs.Lemmas.Attributes.{addition_answers}
use Rattle.in_flight.proofs.laws.addition_answers.Goals as goal

pub returns : goal.returns
returns c = addition_answers
