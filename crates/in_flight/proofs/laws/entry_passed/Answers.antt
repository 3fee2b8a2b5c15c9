use Rattle.in_flight.specs.Lemmas.Turns.{entry_passed}
use Rattle.in_flight.proofs.laws.entry_passed.Goals as goal

pub returns : goal.returns
returns c = entry_passed
