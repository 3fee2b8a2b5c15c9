use Rattle.std.proofs.Common.{rules, refl}
use Rattle.kernel.proofs.Around.{inv_around}
use Rattle.kernel.proofs.Ports.{ports_asked}
use Rattle.kernel.proofs.stepping.Kernel.waiting.Goals as goal

pub invariant_of-self : goal.invariant_of-self
invariant_of-self g c =
    let k = c.self.inside in
    inv_around g.D.Disk g.I.Intake g.H.Herald _ _ _ _ _ _ _ c.self.invariant
    (ports_asked g.I.Intake g.H.Herald k.intake _ k.herald k.store.volume.log.committed k.processes k.processes c.args.pid c.self.invariant.ports
    (search rules) refl refl (search rules) (search rules) (search rules))

pub invariant_of-self-2 : goal.invariant_of-self-2
invariant_of-self-2 g c =
    let k = c.self.inside in
    inv_around g.D.Disk g.I.Intake g.H.Herald _ _ _ _ _ _ _ c.self.invariant
    (ports_asked g.I.Intake g.H.Herald k.intake _ k.herald k.store.volume.log.committed k.processes k.processes c.args.pid c.self.invariant.ports
    (search rules) refl refl (search rules) (search rules) (search rules))
