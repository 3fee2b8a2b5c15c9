use Rattle.std.proofs.Common.{◌∙◌, refl, sym, subst, arith, ℕ}
use Rattle.kernel.specs.Common.{MakesStep, Step}
use Rattle.kernel.specs.Lemmas.Turns.{runs_on_none, runs_on_step, runs_on_then}
use Rattle.kernel.proofs.Flushed.{HaveWaited, all_over, halted_goes, more_taken, none_waited, not_asleep, not_halted, one_asleep, one_idle, one_more}
use Rattle.kernel.proofs.stepping.Kernel.go_on_somewhere.Goals as goal

pub loop-pid-init : goal.loop-pid-init
loop-pid-init g c = record {
  waited = none_waited g.D.Disk g.I.Intake g.H.Herald c.args.self.now;
  count = c.processes-pid-end.ensures;
  keeps = runs_on_none g.D.Disk g.I.Intake g.H.Herald c.args.self.now c.known.ensures.stop.keeps;
  board = refl;
}

pub loop-pid-preserved-then-not-is_under_way : goal.loop-pid-preserved-then-not-is_under_way
loop-pid-preserved-then-not-is_under_way g c = record {
  waited = one_idle g.D.Disk g.I.Intake g.H.Herald c.loop-pid.pid c.args.self.now c.loop-pid.self c.loop-pid.invariant.waited (sym c.is_under_way.ensures ∙ c.if-not-is_under_way.true);
  count = c.loop-pid.invariant.count;
  keeps = c.loop-pid.invariant.keeps;
  board = c.loop-pid.invariant.board;
}

pub loop-pid-preserved : goal.loop-pid-preserved
loop-pid-preserved g c =
    let made = subst (λ (r : Step). MakesStep g.D.Disk g.I.Intake g.H.Herald c.loop-pid.pid r c.loop-pid.self c.step.new.self) c.in-Sleeping.is
    (record { acts = c.step.ensures.acts; progress = c.step.ensures.progress; stop = c.step.ensures.stop }) in
    record {
      waited = one_asleep g.D.Disk g.I.Intake g.H.Herald c.sleeps_for_cause.ensures.cause c.loop-pid.pid c.in-Sleeping.field-0 c.args.self.now c.loop-pid.self c.step.new.self c.loop-pid.invariant.waited made
          (sym c.is_under_way.ensures ∙ c.if-not-is_under_way.false);
      count = c.loop-pid.invariant.count;
      keeps = runs_on_then g.D.Disk g.I.Intake g.H.Herald c.args.self.now c.loop-pid.self c.step.new.self c.loop-pid.invariant.keeps
          (runs_on_step g.D.Disk g.I.Intake g.H.Herald c.loop-pid.pid _ c.loop-pid.self c.step.new.self made);
      board = c.step.ensures.acts.ports.board ∙ c.loop-pid.invariant.board;
    }

pub returns-in-Halted : goal.returns-in-Halted
returns-in-Halted g c =
    let made = subst (λ (r : Step). MakesStep g.D.Disk g.I.Intake g.H.Herald c.loop-pid.pid r c.loop-pid.self c.step.new.self) c.in-Halted.is
    (record { acts = c.step.ensures.acts; progress = c.step.ensures.progress; stop = c.step.ensures.stop }) in
    record {
      ends = one_more g.D.Disk g.I.Intake g.H.Herald c.sleeps_for_cause.ensures.cause c.loop-pid.pid Step.Halted c.args.self.now c.loop-pid.self c.step.new.self c.loop-pid.invariant.waited made
          (sym c.is_under_way.ensures ∙ c.if-not-is_under_way.false) (omega (arith, c.loop-pid-test.true, c.processes-pid-end.ensures));
      goes = halted_goes g.D.Disk g.I.Intake g.H.Herald c.args.self.now c.step.new.self c.loop-pid.pid c.loop-pid.self made;
      keeps = runs_on_then g.D.Disk g.I.Intake g.H.Herald c.args.self.now c.loop-pid.self c.step.new.self c.loop-pid.invariant.keeps
          (runs_on_step g.D.Disk g.I.Intake g.H.Herald c.loop-pid.pid _ c.loop-pid.self c.step.new.self made);
      board = c.step.ensures.acts.ports.board ∙ c.loop-pid.invariant.board;
    }

pub returns-in-Moved : goal.returns-in-Moved
returns-in-Moved g c =
    let made : MakesStep g.D.Disk g.I.Intake g.H.Herald c.loop-pid.pid c.step.result c.loop-pid.self c.step.new.self =
    record { acts = c.step.ensures.acts; progress = c.step.ensures.progress; stop = c.step.ensures.stop } in
    let busy = sym c.is_under_way.ensures ∙ c.if-not-is_under_way.false in
    record {
      ends = one_more g.D.Disk g.I.Intake g.H.Herald c.sleeps_for_cause.ensures.cause c.loop-pid.pid c.step.result c.args.self.now c.loop-pid.self c.step.new.self c.loop-pid.invariant.waited made
          busy (omega (arith, c.loop-pid-test.true, c.processes-pid-end.ensures));
      goes = record {
        falls = λ is. more_taken g.D.Disk g.I.Intake g.H.Herald c.sleeps_for_cause.ensures.cause c.sleeps_for_cause.ensures.waits c.loop-pid.pid c.step.result c.args.self.now c.loop-pid.self c.step.new.self
            c.loop-pid.invariant.waited made c.known-in-loop-pid.ensures busy
            (not_halted g.D.Disk g.I.Intake g.H.Herald c.step.result c.in-Moved.is) (not_asleep g.D.Disk g.I.Intake g.H.Herald c.step.result c.in-Moved.is);
        over = λ is. absurd (cc is);
      };
      keeps = runs_on_then g.D.Disk g.I.Intake g.H.Herald c.args.self.now c.loop-pid.self c.step.new.self c.loop-pid.invariant.keeps
          (runs_on_step g.D.Disk g.I.Intake g.H.Herald c.loop-pid.pid c.step.result c.loop-pid.self c.step.new.self made);
      board = c.step.ensures.acts.ports.board ∙ c.loop-pid.invariant.board;
    }

pub returns-clause-goes : goal.returns-clause-goes
returns-clause-goes g c = record {
  falls = λ is. absurd (cc is);
  over = λ is. all_over g.D.Disk g.I.Intake g.H.Herald c.sleeps_for_cause.ensures.cause c.args.self.now c.loop-pid.self
      (subst (λ (i : ℕ). HaveWaited g.D.Disk g.I.Intake g.H.Herald i c.args.self.now c.loop-pid.self) (omega (arith, c.loop-pid-test.false, c.loop-pid.auto.pid-end, c.processes-pid-end.ensures)) c.loop-pid.invariant.waited)
      c.known.ensures;
}
