use Rattle.lost_writes.proofs.Runs.{commits_turn_by_turn, runs_over_stale}
use Rattle.lost_writes.proofs.laws.runs_over_stale.Goals as goal

pub returns : goal.returns
returns c = record { run = runs_over_stale; later = commits_turn_by_turn }
