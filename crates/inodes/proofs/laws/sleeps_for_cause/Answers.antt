use Rattle.inodes.proofs.Sleeping.{waits_with_cause}
use Rattle.inodes.proofs.laws.sleeps_for_cause.Goals as goal

pub returns-clause-waits : goal.returns-clause-waits
returns-clause-waits g c = waits_with_cause g.D.Disk
