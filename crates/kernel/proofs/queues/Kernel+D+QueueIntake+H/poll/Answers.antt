use Rattle.std.proofs.Common.{refl}
use Rattle.kernel.specs.Common.{ghosts}
use Rattle.kernel.proofs.Around.{inv_around}
use Rattle.kernel.proofs.Ports.{ports_stay}
use Rattle.kernel.proofs.queues.Kernel+D+QueueIntake+H.poll.Goals as goal

pub invariant_of-self : goal.invariant_of-self
invariant_of-self g c =
    let k = c.self.inside in
    let ports = c.self.invariant.ports in
    inv_around g.D.Disk ghosts g.H.Herald _ _ _ _ _ _ _ c.self.invariant
    (ports_stay ghosts g.H.Herald k.intake c.poll.new.self k.herald k.herald k.store.volume.log.committed k.store.volume.log.committed k.processes k.processes ports c.poll.ensures.rest.processes refl refl
    (λ p busy. c.poll.ensures.rest.room p (ports.room p busy)) c.poll.ensures.rest.fits ports.told)
