use Rattle.std.proofs.Common.{◌∙◌, ◌<◌, ◌≤◌, Bool, List, true, ap, arith, length, subst}
use Rattle.std.specs.Prelude.{slice_set}
use Rattle.crash_check.specs.Choices.{HasDue, beginning}
use Rattle.crash_check.proofs.ChoiceLemmas.{each_beginning, one_more_kept}
use Rattle.crash_check.specs.Lemmas.Counting.{one_more_passed}
use Rattle.crash_check.proofs.choices.try_beginnings.Goals as goal

pub loop-kept-preserved : goal.loop-kept-preserved
loop-kept-preserved c =
    let d = c.args.disk.now in
    let due = c.args.due.now in
    let n = length c.args.keep.now in
    let kept = c.loop-kept.kept in
    let choice = c.loop-kept.invariant.choice in
    let below : kept < n = omega (arith, c.loop-kept-test.true) in
    record {
      choice = ap (λ (keep : List Bool). slice_set keep kept true) choice ∙ one_more_kept n kept below;
      each = one_more_passed (λ k. HasDue d due (beginning n k)) kept c.loop-kept.invariant.each (subst (HasDue d due) choice c.in_ok-try_choice.ensures.has);
    }

pub returns-clause-all : goal.returns-clause-all
returns-clause-all c =
    let d = c.args.disk.now in
    let due = c.args.due.now in
    let n = length c.args.keep.now in
    let kept = c.loop-kept.kept in
    let most : n ≤ kept = omega (arith, c.loop-kept-test.false) in
    each_beginning d due n kept most c.loop-kept.invariant.each (subst (HasDue d due) c.loop-kept.invariant.choice c.in_ok-try_choice-2.ensures.has)
