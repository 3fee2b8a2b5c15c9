use Rattle.std.proofs.Common.{refl, subst}
use Rattle.ports.specs.contracts.queues.QueueIntakeIntake.TheImpl.{ghosts}
use Rattle.kernel.specs.Steps.{MakesStep}
use Rattle.example_programs.proofs.knowing.hand_in_between.Goals as goal

pub returns : goal.returns
returns g c =
    let k = c.args.kernel.now in
    let a = c.step-first.new.self in
    let m = c.step-second.new.self in
    let first = c.step-first.ensures in
    let second = c.step-second.ensures in (
      a,
      (k.intake, k.herald, (c.step-first.result, record { acts = first.acts; progress = first.progress; stop = first.stop })),
      (
        m,
        (
          c.submit.new.self.intake,
          a.herald,
          (
            c.step-second.result,
            subst (λ o. MakesStep g.D.Disk ghosts g.H.Herald 0 c.step-second.result o m) c.submit.ensures.same
                (record { acts = second.acts; progress = second.progress; stop = second.stop }),
          ),
        ),
        (m.intake, m.herald, refl),
      ),
    )
