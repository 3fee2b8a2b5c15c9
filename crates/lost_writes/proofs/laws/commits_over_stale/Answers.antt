use Rattle.lost_writes.proofs.Commit.{commits_over_stale, committed_over_stale}
use Rattle.lost_writes.proofs.laws.commits_over_stale.Goals as goal

pub returns : goal.returns
returns c = record { ends = commits_over_stale; committed = committed_over_stale }
