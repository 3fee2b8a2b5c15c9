use Rattle.std.proofs.Common.{refl}
use Rattle.kernel.proofs.Ports.{ports_stay}
use Rattle.kernel.proofs.stepping.Kernel.visit_with.Goals as goal

pub invariant_of-self : goal.invariant_of-self
invariant_of-self g c =
    let k = c.self.inside in
    let ports = c.self.invariant.ports in
    let seen = c.visit_with.ensures in
    record {
      right = c.self.invariant.right;
      since = c.self.invariant.since;
      ports = ports_stay g.I.Intake g.H.Herald k.intake c.visit_with.new.intake k.herald k.herald k.store.volume.log.committed k.store.volume.log.committed k.processes k.processes ports seen.processes refl refl
          (λ p busy. seen.room p (ports.room p busy)) seen.fits ports.told;
    }
