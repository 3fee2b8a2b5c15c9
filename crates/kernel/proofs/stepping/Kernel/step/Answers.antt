use Rattle.std.proofs.Common.{subst}
use Rattle.kernel.specs.Common.{Inv, IsStore}
use Rattle.kernel.specs.Progress.{IsJoint}
use Rattle.kernel.proofs.Promising.{makes_step}
use Rattle.kernel.proofs.stepping.Kernel.step.Goals as goal

pub returns : goal.returns
returns g c =
    let made = makes_step g.D.Disk g.I.Intake g.H.Herald c.args.pid c.go_on-answer.result c.args.self.now c.go_on-answer.new.self
    (subst (λ k. Inv g.D.Disk g.I.Intake g.H.Herald k) c.self.view_is c.self.invariant)
    (subst (λ k. IsStore g.D.Disk.image k.store) c.self.view_is c.known-2.ensures.store)
    c.requires.pid c.known.ensures.stop.keeps c.go_on-answer.ensures c.known-3.ensures.stop.keeps c.known-3.ensures.awake (subst (λ k. IsJoint g.D.Disk.image k) c.self-2.view_is c.known-4.ensures.volume) in
    record { acts = made.acts; progress = made.progress; stop = made.stop }
