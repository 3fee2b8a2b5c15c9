use Rattle.std.proofs.Common.{Option, Some, None, subst}
use Rattle.std.specs.Prelude.{IfNone}
use Rattle.blocks.specs.Disk.{Image}
use Rattle.bcache.specs.Buffers.{Buffers}
use Rattle.inodes.specs.Waiting.{AloneGetsBuffers}
use Rattle.kernel.specs.Common.{DeviceFault, Joint, LogState, State}
use Rattle.wal.specs.Machine.{IsLog}
use Rattle.kernel.specs.Progress.{IsJoint}
use Rattle.kernel.proofs.stepping.Kernel.room_known.Goals as goal

log_of : (o : Option DeviceFault) (x : Image) (b : Buffers) (l : LogState) → IfNone o (Joint x b l) → IfNone o (IsLog l)
log_of None x b l joint = joint.log
log_of (Some fault) x b l none = tt

pub returns-clause-log : goal.returns-clause-log
returns-clause-log g c =
    let k = c.self.inside in
    subst (λ (o : State _ _ _). IfNone o.store.volume.fault (IsLog o.store.volume.log)) c.self.view_is
    (log_of k.store.volume.fault (g.D.Disk.image k.store.volume.device) k.store.volume.buffers k.store.volume.log c.known.ensures.volume)

pub returns-clause-alone : goal.returns-clause-alone
returns-clause-alone g c =
    subst (λ (o : State _ _ _). IfNone o.store.volume.fault (AloneGetsBuffers o.store)) c.self.view_is c.known.ensures.alone

pub returns-clause-joint : goal.returns-clause-joint
returns-clause-joint g c = subst (λ (o : State _ _ _). IsJoint g.D.Disk.image o) c.self.view_is c.known.ensures.volume
