use Rattle.std.proofs.Common.{refl, ◌∙◌}
use Rattle.kernel.proofs.Around.{inv_around}
use Rattle.kernel.proofs.Ports.{ports_stay}
use Rattle.kernel.proofs.stepping.Kernel.consult.Goals as goal

pub invariant_of-self : goal.invariant_of-self
invariant_of-self g c =
    let k = c.self.inside in
    let ports = c.self.invariant.ports in
    inv_around g.D.Disk g.I.Intake g.H.Herald _ _ _ _ _ _ _ c.self.invariant
    (ports_stay g.I.Intake g.H.Herald k.intake k.intake k.herald c.consult.new.herald k.store.volume.log.committed k.store.volume.log.committed k.processes k.processes ports refl refl refl
    ports.room (λ p h fits. fits) (c.consult.ensures.same.count ∙ ports.told))
