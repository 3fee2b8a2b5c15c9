use Rattle.rings.proofs.Steps.{some_asked}
use Rattle.rings.proofs.laws.some_asked.Goals as goal

pub returns : goal.returns
returns c = some_asked
