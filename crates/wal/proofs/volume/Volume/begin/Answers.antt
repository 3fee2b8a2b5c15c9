use Rattle.std.proofs.Common.{rules}
use Rattle.wal.proofs.StepLemmas.{joint_after_begin}
use Rattle.wal.proofs.VolumeLemmas.{begin_afloat, floats_at, if_whole, joint_here, blocks_here}
use Rattle.wal.proofs.volume.Volume.begin.Goals as goal

pub invariant_of-self : goal.invariant_of-self
invariant_of-self g c = if_whole _ (joint_after_begin _ _ c.args.pid (joint_here g.D.Disk _ _ c.self.view_is c.requires.fault c.self.invariant) c.requires.pid (search rules) c.begin.ensures.log) (blocks_here g.D.Disk _ _ c.self.view_is c.requires.fault c.self.invariant)
    (begin_afloat (g.D.Disk.image c.self.inside.disk) (g.D.Disk.leaves c.self.inside.disk (g.D.Disk.moment c.self.inside.disk)) _ _ c.args.pid (floats_at g.D.Disk _ _ c.self.view_is c.requires.fault c.self.invariant) c.begin.ensures.log)
