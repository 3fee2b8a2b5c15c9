use Rattle.std.proofs.Common.{sym, subst}
use Rattle.kernel.specs.Common.{RunsOn}
use Rattle.kernel.specs.Lemmas.Turns.{runs_on_shut, runs_on_step}
use Rattle.kernel.proofs.stepping.Kernel.make.Goals as goal

pub returns-in-Proc-clause-keeps : goal.returns-in-Proc-clause-keeps
returns-in-Proc-clause-keeps g c = runs_on_step g.D.Disk g.I.Intake g.H.Herald _ _ c.args.self.now c.step-answer.new.self
    (record { acts = c.step-answer.ensures.acts; progress = c.step-answer.ensures.progress; stop = c.step-answer.ensures.stop })

pub returns-in-Shut-clause-keeps : goal.returns-in-Shut-clause-keeps
returns-in-Shut-clause-keeps g c =
    subst (λ k. RunsOn g.D.Disk c.args.self.now k) (sym c.shut.ensures) (runs_on_shut g.D.Disk g.I.Intake g.H.Herald c.args.self.now c.known.ensures.stop.keeps)
