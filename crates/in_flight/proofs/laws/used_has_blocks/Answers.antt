use Rattle.in_flight.specs.Lemmas.Looks.{used_has_blocks}
use Rattle.in_flight.proofs.laws.used_has_blocks.Goals as goal

pub returns : goal.returns
returns c = used_has_blocks
