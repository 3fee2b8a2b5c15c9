use Rattle.std.proofs.Common.{◌≡◌, ◌∙◌, subst}
use Rattle.blocks.specs.Disk.{Image}
use Rattle.kernel.specs.Theorem.{IsExact}
use Rattle.sysring.proofs.shared.Shared.recovers.Goals as goal

pub returns-clause-now : goal.returns-clause-now
returns-clause-now g c =
    subst (λ k. (x : Image) → g.D.Disk.leaves k.store.volume.device (g.D.Disk.moment k.store.volume.device) x → IsExact (g.D.Disk.image k.opening) k x)
    (c.kernel.ensures.same ∙ c.deref.ensures) c.recovers.ensures.now
