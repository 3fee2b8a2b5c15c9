use Rattle.lost_writes.proofs.Carrying.{carried_endures, commit_carries, rest_is_carried}
use Rattle.lost_writes.proofs.laws.commits_are_carried.Goals as goal

pub returns : goal.returns
returns g c = record { begins = rest_is_carried; steps = commit_carries g.D.Disk; stops = carried_endures }
