use Rattle.lost_writes.proofs.Stale.{stale_is_recovered}
use Rattle.lost_writes.proofs.laws.stale_is_recovered.Goals as goal

pub returns : goal.returns
returns c = stale_is_recovered
