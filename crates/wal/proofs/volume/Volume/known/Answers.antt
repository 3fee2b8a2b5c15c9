use Rattle.std.proofs.Common.{◌≡◌, false, subst}
use Rattle.std.specs.Prelude.{IfNone}
use Rattle.wal.specs.Common.{Image, is_syncing, Joint, UnlessHolds}
use Rattle.wal.specs.Floats.{Survives}
use Rattle.wal.proofs.VolumeLemmas.{if_joint, if_plain, if_survives}
use Rattle.wal.proofs.volume.Volume.known.Goals as goal

pub returns-clause-joint : goal.returns-clause-joint
returns-clause-joint g c = subst (λ s. IfNone s.fault (Joint (g.D.Disk.image s.device) s.buffers s.log)) c.self.view_is (if_joint (g.D.Disk.holding (g.D.Disk.name c.self.inside.disk)) _ _ _ _ _ c.self.invariant)

pub returns-clause-survives : goal.returns-clause-survives
returns-clause-survives g c = subst (λ s. IfNone s.fault ((z : Image) → g.D.Disk.leaves s.device (g.D.Disk.moment s.device) z → Survives s.log.commit (g.D.Disk.image s.device) z)) c.self.view_is (if_survives (g.D.Disk.holding (g.D.Disk.name c.self.inside.disk)) _ _ _ _ _ c.self.invariant)

pub returns-clause-plain : goal.returns-clause-plain
returns-clause-plain g c = subst (λ s. IfNone s.fault (UnlessHolds g.D.Disk s.device (is_syncing s.log.commit ≡ false))) c.self.view_is (if_plain (g.D.Disk.holding (g.D.Disk.name c.self.inside.disk)) _ _ _ _ _ c.self.invariant)
