use Rattle.kernel.proofs.Recovered.{recovers_disks}
use Rattle.kernel.proofs.laws.recovered_disks.Goals as goal

pub returns : goal.returns
returns g c = recovers_disks g.row.I.Denot g.row.H.Denot g.D.Disk g.E.Disk
