use Rattle.rings.proofs.Steps.{none_asked}
use Rattle.rings.proofs.laws.none_asked.Goals as goal

pub returns : goal.returns
returns c = none_asked
