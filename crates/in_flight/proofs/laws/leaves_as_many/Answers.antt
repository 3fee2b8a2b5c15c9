use Rattle.in_flight.specs.Lemmas.GivenUp.{leaves_as_many}
use Rattle.in_flight.proofs.laws.leaves_as_many.Goals as goal

pub returns : goal.returns
returns c = leaves_as_many
