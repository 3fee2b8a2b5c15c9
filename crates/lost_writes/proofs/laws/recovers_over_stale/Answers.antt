use Rattle.lost_writes.proofs.Recovery.{recovers_over_stale, recovery_writes}
use Rattle.lost_writes.proofs.laws.recovers_over_stale.Goals as goal

pub returns : goal.returns
returns c = record { writes = recovery_writes; ends = recovers_over_stale }
