use Rattle.std.proofs.Common.{rules}
use Rattle.wal.proofs.StepLemmas.{joint_after_end}
use Rattle.wal.proofs.VolumeLemmas.{end_afloat, floats_at, if_whole, joint_here, blocks_here}
use Rattle.wal.proofs.volume.Volume.end.Goals as goal

pub invariant_of-self : goal.invariant_of-self
invariant_of-self g c = if_whole _ (joint_after_end _ _ c.args.pid (joint_here g.D.Disk _ _ c.self.view_is c.requires.fault c.self.invariant) c.requires.pid (search rules) c.end.ensures.log) (blocks_here g.D.Disk _ _ c.self.view_is c.requires.fault c.self.invariant)
    (end_afloat _ c.end.new.self c.args.pid (joint_here g.D.Disk _ _ c.self.view_is c.requires.fault c.self.invariant) c.requires.pid (search rules) (floats_at g.D.Disk _ _ c.self.view_is c.requires.fault c.self.invariant) c.end.ensures.log)
