use Rattle.std.proofs.Common.{subst}
use Rattle.std.specs.Prelude.{IfNone}
use Rattle.wal.specs.Common.{IsImage, seen}
use Rattle.wal.proofs.BlocksLemmas.{image_known}
use Rattle.wal.proofs.volume.Volume.image_known.Goals as goal

pub returns : goal.returns
returns g c = subst (λ s. IfNone s.fault (IsImage (seen (g.D.Disk.image s.device) s.buffers))) c.self.view_is (image_known (g.D.Disk.holding (g.D.Disk.name c.self.inside.disk)) _ _ _ _ _ (g.met.D.Disk.is_image c.self.inside.disk) c.self.invariant)
