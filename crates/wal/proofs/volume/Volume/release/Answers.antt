use Rattle.std.proofs.Common.{◌≡◌, ◌∙◌, ap, rules, subst}
use Rattle.wal.specs.Common.{counts_keep_current, GivesUpLock, seen}
use Rattle.wal.proofs.BlocksLemmas.{blocks_released}
use Rattle.wal.proofs.HeldLemmas.{gives_up}
use Rattle.wal.proofs.CacheCallLemmas.{joint_released}
use Rattle.wal.proofs.VolumeLemmas.{floats_at, if_whole, joint_here, blocks_here}
use Rattle.wal.proofs.volume.Volume.release.Goals as goal

pub invariant_of-self : goal.invariant_of-self
invariant_of-self g c =
    let joint = joint_here g.D.Disk _ _ c.self.view_is c.requires.fault c.self.invariant in
    if_whole _ (joint_released _ _ c.args.slot joint c.requires.slot c.release.ensures)
    (blocks_released c.self.inside.cache c.release.new.self c.args.slot joint.cache c.requires.slot (blocks_here g.D.Disk _ _ c.self.view_is c.requires.fault c.self.invariant) c.release.ensures)
    (floats_at g.D.Disk _ _ c.self.view_is c.requires.fault c.self.invariant)

pub returns-clause-current : goal.returns-clause-current
returns-clause-current g c =
    let x = g.D.Disk.image c.self.inside.disk in
    subst (λ s. seen x c.release.new.self ≡ seen (g.D.Disk.image s.device) s.buffers) c.self.view_is
    (ap (seen x) c.release.ensures ∙ (counts_keep_current x c.self.inside.cache c.args.pid c.args.slot).release)

pub returns-clause-locks : goal.returns-clause-locks
returns-clause-locks g c =
    let joint = joint_here g.D.Disk _ _ c.self.view_is c.requires.fault c.self.invariant in
    subst (λ s. GivesUpLock s.buffers c.release.new.self c.args.pid c.args.slot) c.self.view_is
    (gives_up c.self.inside.cache c.release.new.self c.args.pid c.args.slot joint.cache c.requires.slot (search rules) c.release.ensures)
