use Rattle.std.proofs.Common.{true, refl, subst, sym}
use Rattle.kernel.specs.Common.{Inv, World}
use Rattle.kernel.proofs.Beginnings.{right_shut}
use Rattle.kernel.proofs.Ports.{ports_stay}
use Rattle.kernel.proofs.stepping.Kernel.shut.Goals as goal

pub invariant_of-self : goal.invariant_of-self
invariant_of-self g c =
    let k = c.self.inside in
    subst (λ (w : World). Inv g.D.Disk g.I.Intake g.H.Herald (record { store = k.store; opening = k.opening.value; intake = k.intake; herald = k.herald; world = w })) (sym c.shut.ensures) (record {
      right = right_shut g.D.Disk k.opening.value k.store k.processes true c.self.invariant.right;
      since = c.self.invariant.since;
      ports = ports_stay g.I.Intake g.H.Herald k.intake k.intake k.herald k.herald _ _ k.processes _ c.self.invariant.ports refl refl refl c.self.invariant.ports.room (λ p h fits. fits) c.self.invariant.ports.told;
    })
