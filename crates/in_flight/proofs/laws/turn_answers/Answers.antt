use Rattle.in_flight.specs.Lemmas.Turns.{turn_answers}
use Rattle.in_flight.proofs.laws.turn_answers.Goals as goal

pub returns : goal.returns
returns c = turn_answers
