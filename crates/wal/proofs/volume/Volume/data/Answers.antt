use Rattle.wal.proofs.HeldLemmas.{data_now}
use Rattle.wal.proofs.VolumeLemmas.{joint_here}
use Rattle.wal.proofs.volume.Volume.data.Goals as goal

pub returns-clause-current : goal.returns-clause-current
returns-clause-current g c = data_now g.D.Disk.image _ _ c.args.slot _ c.self.view_is (λ none. joint_here g.D.Disk _ _ c.self.view_is none c.self.invariant) c.data.ensures.bytes
