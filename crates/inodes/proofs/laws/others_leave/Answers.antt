use Rattle.inodes.specs.Lemmas.Runs.{steps_leave_others, commits_leave_all, bounds_leave_others}
use Rattle.inodes.proofs.laws.others_leave.Goals as goal

pub returns : goal.returns
returns g c = record { steps = steps_leave_others g.D.Disk; commits = commits_leave_all g.D.Disk; bounds = bounds_leave_others }
