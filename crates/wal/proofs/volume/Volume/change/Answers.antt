use Rattle.std.proofs.Common.{◌≡◌, rules, subst}
use Rattle.std.specs.Prelude.{slice_set}
use Rattle.wal.specs.Common.{block_or_zero, buffer, Holds, LeavesLocks, overwritten, seen}
use Rattle.wal.proofs.BlocksLemmas.{blocks_changed}
use Rattle.wal.proofs.HeldLemmas.{leaves_changed}
use Rattle.wal.proofs.StepLemmas.{joint_put, block_behind}
use Rattle.wal.proofs.VolumeLemmas.{floats_at, if_whole, joint_here, blocks_here, put_holds, room_afloat}
use Rattle.wal.proofs.volume.Volume.change.Goals as goal

pub log_write-requires-clause-behind : goal.log_write-requires-clause-behind
log_write-requires-clause-behind g c = (block_behind _ c.args.slot (joint_here g.D.Disk _ _ c.self.view_is c.requires.fault c.self.invariant) (search rules)).0

pub log_write-requires-clause-within : goal.log_write-requires-clause-within
log_write-requires-clause-within g c = (block_behind _ c.args.slot (joint_here g.D.Disk _ _ c.self.view_is c.requires.fault c.self.invariant) (search rules)).1

pub invariant_of-self : goal.invariant_of-self
invariant_of-self g c =
    let joint = joint_here g.D.Disk _ _ c.self.view_is c.requires.fault c.self.invariant in
    if_whole _ (joint_put _ _ _ _ _ c.args.pid c.args.slot c.args.at c.args.bytes.now joint c.requires.may.logs.pid (search rules) c.requires.may.has.slot (search rules) (search rules) c.log_write.ensures.log c.log_write.ensures.cache c.put.ensures.cache).0
    (blocks_changed c.self.inside.log c.self.inside.cache c.log_write.new.cache c.put.new.self c.args.slot _ _ joint.cache c.requires.may.has.slot (blocks_here g.D.Disk _ _ c.self.view_is c.requires.fault c.self.invariant) c.put.ensures.block c.log_write.ensures.cache c.put.ensures.cache)
    (room_afloat _ c.log_write.new.self c.args.pid _ joint c.requires.may.logs.pid (search rules) (floats_at g.D.Disk _ _ c.self.view_is c.requires.fault c.self.invariant) c.log_write.ensures.log)

pub returns-clause-current : goal.returns-clause-current
returns-clause-current g c =
    let x = g.D.Disk.image c.self.inside.disk in
    let d = c.put.new.self in
    subst (λ s. seen x d ≡ slice_set (seen (g.D.Disk.image s.device) s.buffers) (block_or_zero (buffer s.buffers c.args.slot).block) (overwritten (buffer s.buffers c.args.slot).bytes c.args.at c.args.bytes.now)) c.self.view_is
    (joint_put _ _ _ _ _ c.args.pid c.args.slot c.args.at c.args.bytes.now (joint_here g.D.Disk _ _ c.self.view_is c.requires.fault c.self.invariant) c.requires.may.logs.pid (search rules) c.requires.may.has.slot (search rules) (search rules) c.log_write.ensures.log c.log_write.ensures.cache c.put.ensures.cache).1

pub returns-clause-holds : goal.returns-clause-holds
returns-clause-holds g c =
    let x = g.D.Disk.image c.self.inside.disk in
    let d = c.put.new.self in
    let joint = joint_here g.D.Disk _ _ c.self.view_is c.requires.fault c.self.invariant in
    subst (λ s. Holds (seen x d) d c.args.pid (block_or_zero (buffer s.buffers c.args.slot).block) c.args.slot) c.self.view_is
    (put_holds c.self.inside.cache c.log_write.new.cache d c.self.inside.log c.log_write.new.self c.args.pid c.args.slot _ (joint_put _ _ _ _ _ c.args.pid c.args.slot c.args.at c.args.bytes.now (joint_here g.D.Disk _ _ c.self.view_is c.requires.fault c.self.invariant) c.requires.may.logs.pid (search rules) c.requires.may.has.slot (search rules) (search rules) c.log_write.ensures.log c.log_write.ensures.cache c.put.ensures.cache).0 joint.cache c.requires.may.has.slot (search rules) (search rules) (search rules) c.log_write.ensures.cache c.put.ensures.cache)

pub returns-clause-locks : goal.returns-clause-locks
returns-clause-locks g c =
    let joint = joint_here g.D.Disk _ _ c.self.view_is c.requires.fault c.self.invariant in
    subst (λ s. LeavesLocks s.buffers c.put.new.self) c.self.view_is
    (leaves_changed c.self.inside.log c.self.inside.cache c.log_write.new.cache c.put.new.self c.args.slot _ _ joint.cache c.requires.may.has.slot c.log_write.ensures.cache c.put.ensures.cache)
