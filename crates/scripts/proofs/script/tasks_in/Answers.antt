use Rattle.std.proofs.Common.{ℕ, ◌==◌, inl, inr, Bool, length, Some, rules, tests, arith, ap, sym, ◌∙◌}
use Rattle.std.proofs.lemmas.Bool.{cases_Bool}
use Rattle.std.proofs.lemmas.List.{length_push}
use Rattle.std.proofs.lemmas.Iterator.Consumers.{YieldsList-at, YieldsList-end, YieldsList-turn}
use Rattle.std.proofs.lemmas.Iterator.Splits.{YieldsList-from_slice_split}
use Rattle.std.proofs.lemmas.Result.{err_from_is_err_and}
use Rattle.scripts.proofs.LineLemmas.{bad-untold, good-skipped, fault_at-few, fault_at-many, good-told, task_at-skipped, task_at-told}
use Rattle.scripts.proofs.Walk.{HasRead-end, HasRead-more, HasRead-pass, HasRead-take, NoneBad-end, NoneBad-next, NoneBad-stop, at_number}
use Rattle.scripts.specs.Script.{fault_at, is_bad, lines_of, task_at, tasks_of}
use Rattle.scripts.proofs.script.tasks_in.Goals as goal

abbrev ends_line : ℕ → Bool
ends_line byte = byte == 10

pub loop-line-preserved-then-is_skipped : goal.loop-line-preserved-then-is_skipped
loop-line-preserved-then-is_skipped c =
    let here = at_number (lines_of c.args.text.now) c.in-Some.line.now c.loop-line.number _ c.loop-line.invariant.counted (YieldsList-turn (YieldsList-at c.into_iter-line-iterator.ensures.into_iter_gives (YieldsList-from_slice_split _ ends_line c.args.text.now c.split-line-items.ensures.rest c.split-line-items.ensures.done c.split-line-items.ensures.closure (λ x b q k. search (rules, tests)))) c.loop-line.yielded _ c.loop-line.yielded_by _ _ c.in-Some.line c.in-Some.is c.next.ensures.steps) in
    let skipped = sym c.is_skipped.ensures ∙ c.if-is_skipped.true in
    record {
      counted = omega (arith, length_push c.loop-line.yielded c.in-Some.line);
      few = c.loop-line.invariant.few;
      read = λ kept. HasRead-pass task_at (lines_of c.args.text.now) c.loop-line.number c.loop-line.tasks.items c.in-Some.line.now (c.loop-line.invariant.read kept) here.0 here.1 (task_at-skipped _ c.in-Some.line.now skipped);
      many = c.loop-line.invariant.many;
      none_bad = NoneBad-next is_bad (lines_of c.args.text.now) c.loop-line.number c.in-Some.line.now c.loop-line.invariant.none_bad here.0 here.1 (good-skipped c.in-Some.line.now skipped);
    }

pub returns-in_err-task-clause-fault : goal.returns-in_err-task-clause-fault
returns-in_err-task-clause-fault c =
    let here = at_number (lines_of c.args.text.now) c.in-Some.line.now c.loop-line.number _ c.loop-line.invariant.counted (YieldsList-turn (YieldsList-at c.into_iter-line-iterator.ensures.into_iter_gives (YieldsList-from_slice_split _ ends_line c.args.text.now c.split-line-items.ensures.rest c.split-line-items.ensures.done c.split-line-items.ensures.closure (λ x b q k. search (rules, tests)))) c.loop-line.yielded _ c.loop-line.yielded_by _ _ c.in-Some.line c.in-Some.is c.next.ensures.steps) in
    let read = sym c.is_skipped.ensures ∙ c.if-is_skipped.false in
    let exit = err_from_is_err_and c.from_residual.result c.from_residual.ensures.1 in
    rw (exit.1, exit.2) (
    elim c.in_err-task.ensures.fault [
      | inl memory ↦ inl memory
      | inr bad ↦
          inr (ap (λ place. fault_at place (length (tasks_of c.args.text.now))) (NoneBad-stop is_bad (lines_of c.args.text.now) c.loop-line.number c.in-Some.line.now c.loop-line.invariant.none_bad here.0 here.1 (bad-untold c.in-Some.line.now read bad.1)) ∙ ap Some (sym bad.0))
    ]
    )

pub loop-line-preserved-then-not-added : goal.loop-line-preserved-then-not-added
loop-line-preserved-then-not-added c =
    let here = at_number (lines_of c.args.text.now) c.in-Some.line.now c.loop-line.number _ c.loop-line.invariant.counted (YieldsList-turn (YieldsList-at c.into_iter-line-iterator.ensures.into_iter_gives (YieldsList-from_slice_split _ ends_line c.args.text.now c.split-line-items.ensures.rest c.split-line-items.ensures.done c.split-line-items.ensures.closure (λ x b q k. search (rules, tests)))) c.loop-line.yielded _ c.loop-line.yielded_by _ _ c.in-Some.line c.in-Some.is c.next.ensures.steps) in
    let read = sym c.is_skipped.ensures ∙ c.if-is_skipped.false in
    let told = c.in_ok-task.ensures.ok in
    let same = c.in_ok-added.ensures.same c.if-not-added.true in
    let full = c.in_ok-added.ensures.full c.if-not-added.true in
    record {
      counted = omega (arith, length_push c.loop-line.yielded c.in-Some.line);
      few = rw same c.loop-line.invariant.few;
      read = λ kept. cc;
      many = λ more. elim (cases_Bool c.loop-line.surplus) [
        | inl surplus ↦ c.loop-line.invariant.many surplus
        | inr kept ↦
            let one_more = HasRead-more task_at (lines_of c.args.text.now) c.loop-line.number c.loop-line.tasks.items c.in-Some.line.now c.in_ok-task.task (c.loop-line.invariant.read kept) here.0 here.1 (task_at-told _ c.in-Some.line.now c.in_ok-task.task read told) in
            omega (arith, one_more, full)
      ];
      none_bad = NoneBad-next is_bad (lines_of c.args.text.now) c.loop-line.number c.in-Some.line.now c.loop-line.invariant.none_bad here.0 here.1 (good-told _ c.in-Some.line.now c.in_ok-task.task read told);
    }

pub loop-line-preserved : goal.loop-line-preserved
loop-line-preserved c =
    let here = at_number (lines_of c.args.text.now) c.in-Some.line.now c.loop-line.number _ c.loop-line.invariant.counted (YieldsList-turn (YieldsList-at c.into_iter-line-iterator.ensures.into_iter_gives (YieldsList-from_slice_split _ ends_line c.args.text.now c.split-line-items.ensures.rest c.split-line-items.ensures.done c.split-line-items.ensures.closure (λ x b q k. search (rules, tests)))) c.loop-line.yielded _ c.loop-line.yielded_by _ _ c.in-Some.line c.in-Some.is c.next.ensures.steps) in
    let read = sym c.is_skipped.ensures ∙ c.if-is_skipped.false in
    let told = c.in_ok-task.ensures.ok in
    let added = c.in_ok-added.ensures.added c.if-not-added.false in
    let room = c.in_ok-added.ensures.room c.if-not-added.false in
    record {
      counted = omega (arith, length_push c.loop-line.yielded c.in-Some.line);
      few = rw added (omega (arith, room, length_push c.loop-line.tasks.items c.in_ok-task.task));
      read = λ kept. rw added (HasRead-take task_at (lines_of c.args.text.now) c.loop-line.number c.loop-line.tasks.items c.in-Some.line.now c.in_ok-task.task (c.loop-line.invariant.read kept) here.0 here.1 (task_at-told _ c.in-Some.line.now c.in_ok-task.task read told));
      many = c.loop-line.invariant.many;
      none_bad = NoneBad-next is_bad (lines_of c.args.text.now) c.loop-line.number c.in-Some.line.now c.loop-line.invariant.none_bad here.0 here.1 (good-told _ c.in-Some.line.now c.in_ok-task.task read told);
    }

pub returns-then-surplus-clause-fault : goal.returns-then-surplus-clause-fault
returns-then-surplus-clause-fault c =
    let over = YieldsList-end (YieldsList-at c.into_iter-line-iterator.ensures.into_iter_gives (YieldsList-from_slice_split _ ends_line c.args.text.now c.split-line-items.ensures.rest c.split-line-items.ensures.done c.split-line-items.ensures.closure (λ x b q k. search (rules, tests)))) c.loop-line.yielded _ c.loop-line.yielded_by _ _ c.in-None.is c.next.ensures.steps in
    let good = NoneBad-end is_bad (lines_of c.args.text.now) c.loop-line.number c.loop-line.invariant.none_bad (omega (arith, over.1)) in
    let many = c.loop-line.invariant.many c.if-surplus.true in
    inr (ap (λ place. fault_at place (length (tasks_of c.args.text.now))) good ∙ fault_at-many _ many)

pub returns-clause-tasks : goal.returns-clause-tasks
returns-clause-tasks c =
    let over = YieldsList-end (YieldsList-at c.into_iter-line-iterator.ensures.into_iter_gives (YieldsList-from_slice_split _ ends_line c.args.text.now c.split-line-items.ensures.rest c.split-line-items.ensures.done c.split-line-items.ensures.closure (λ x b q k. search (rules, tests)))) c.loop-line.yielded _ c.loop-line.yielded_by _ _ c.in-None.is c.next.ensures.steps in
    HasRead-end task_at (lines_of c.args.text.now) c.loop-line.number c.loop-line.tasks.items (c.loop-line.invariant.read c.if-surplus.false) (omega (arith, over.1))

pub returns-clause-sound : goal.returns-clause-sound
returns-clause-sound c =
    let over = YieldsList-end (YieldsList-at c.into_iter-line-iterator.ensures.into_iter_gives (YieldsList-from_slice_split _ ends_line c.args.text.now c.split-line-items.ensures.rest c.split-line-items.ensures.done c.split-line-items.ensures.closure (λ x b q k. search (rules, tests)))) c.loop-line.yielded _ c.loop-line.yielded_by _ _ c.in-None.is c.next.ensures.steps in
    let good = NoneBad-end is_bad (lines_of c.args.text.now) c.loop-line.number c.loop-line.invariant.none_bad (omega (arith, over.1)) in
    let all = HasRead-end task_at (lines_of c.args.text.now) c.loop-line.number c.loop-line.tasks.items (c.loop-line.invariant.read c.if-surplus.false) (omega (arith, over.1)) in
    ap (λ place. fault_at place (length (tasks_of c.args.text.now))) good ∙ fault_at-few _ (omega (arith, ap length all, c.loop-line.invariant.few))
