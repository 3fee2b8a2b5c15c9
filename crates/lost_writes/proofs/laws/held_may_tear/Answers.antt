use Rattle.lost_writes.proofs.Writes.{held_is_torn}
use Rattle.lost_writes.proofs.laws.held_may_tear.Goals as goal

pub returns : goal.returns
returns c = held_is_torn
