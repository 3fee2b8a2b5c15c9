use Rattle.std.proofs.Common.{◌≡◌, ◌∙◌, rules, subst, arith}
use Rattle.model.specs.Layout.{form_of}
use Rattle.kernel.specs.Steps.{MakesStep}
use Rattle.model.specs.declared.types.operations.Step.TheVariants as step
use Rattle.kernel.specs.Lemmas.Moves.{most_bound, moves_few, one_moved, stops}
use Rattle.stepping.proofs.stepping.make_steps.Goals as goal

pub loop-step-preserved : goal.loop-step-preserved
loop-step-preserved g c =
    let steps = MakesStep g.D.Disk g.I.Intake g.H.Herald c.args.pid in
    let was = c.loop-step.kernel in
    let now = c.step-step.new.self in
    let moved : c.step-step.result ≡ step.Moved = search rules in
    let made = subst (λ r. MakesStep g.D.Disk g.I.Intake g.H.Herald c.args.pid r was now) moved
    (record { acts = c.step-step.ensures.acts; progress = c.step-step.ensures.progress; stop = c.step-step.ensures.stop }) in
    record {
      moves = one_moved steps c.loop-step._step c.args.kernel.now was now c.loop-step.invariant.moves made;
      processes = c.step-step.ensures.progress.many ∙ c.loop-step.invariant.processes;
      names = λ p. c.step-step.ensures.acts.ports.sides.names p ∙ c.loop-step.invariant.names p;
    }

pub returns-then-ne-clause-makes : goal.returns-then-ne-clause-makes
returns-then-ne-clause-makes g c =
    stops g.D.Disk g.I.Intake g.H.Herald c.args.pid c.loop-step._step c.step-step.result c.args.kernel.now c.loop-step.kernel c.step-step.new.self c.loop-step.invariant.moves
    (record { acts = c.step-step.ensures.acts; progress = c.step-step.ensures.progress; stop = c.step-step.ensures.stop })
    (search rules)

pub unreachable-requires : goal.unreachable-requires
unreachable-requires g c =
    let few = moves_few g.D.Disk g.I.Intake g.H.Herald c.args.pid c.loop-step._step c.args.kernel.now c.loop-step.kernel c.loop-step.invariant.moves in
    let all = c.loop-step-test.false in
    let most = most_bound (form_of (g.D.Disk.image c.args.kernel.now.opening)) in
    omega (arith, few, all, most)
