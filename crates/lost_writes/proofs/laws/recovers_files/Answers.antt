use Rattle.lost_writes.proofs.Stale.{recovers_files}
use Rattle.lost_writes.proofs.laws.recovers_files.Goals as goal

pub returns : goal.returns
returns c = recovers_files
