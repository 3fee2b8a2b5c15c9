use Rattle.std.proofs.Common.{◌≡◌, ◌∙◌, ◌++◌, ◌∷◌, [], List, ap, arith, inl, inr, subst, sym}
use Rattle.crash_check.specs.Lemmas.Counting.{one_more_passed}
use Rattle.crash_check.specs.declared.mismatch.Stop.TheVariants.{End}
use Rattle.model.specs.Lemmas.Steps.{mapped_more}
use Rattle.pictures.specs.declared.stops.Column.{Column}
use Rattle.stops.specs.Tried.{tried_at}
use Rattle.stops.specs.Trials.{Passes, tried_before, tried_writes}
use Rattle.crash_check.specs.Lemmas.Faults.{OnMismatch-weaker, passed_on}
use Rattle.stops.proofs.stopping.try_stops.Goals as goal

pub loop-before-init : goal.loop-before-init
loop-before-init g c = record {
  passed = λ before low. absurd (omega (arith, low));
  told = c.in_ok-add.ensures ∙ ap (λ (l : List Column). l ++ tried_at End 1 ∷ []) c.requires.none;
}

pub loop-before-preserved : goal.loop-before-preserved
loop-before-preserved g c = record {
  passed = one_more_passed (Passes c.args.tasks.now c.args.processes c.args.words.now) c.loop-before.before c.loop-before.invariant.passed c.in_ok-try_behind.ensures.passes;
  told = c.in_ok-add-2.ensures
      ∙ ap (λ (l : List Column). l ++ tried_before c.loop-before.before ∷ []) c.loop-before.invariant.told
      ∙ ap (λ (l : List Column). tried_at End 1 ∷ l) (sym (mapped_more tried_before c.loop-before.before));
}

pub returns-clause-all : goal.returns-clause-all
returns-clause-all g c =
    let all = c.loop-before-test.false in
    record {
      writes = c.in_ok-writes.writes;
      whole = c.in_ok-writes.ensures.tried;
      each = λ before below. c.loop-before.invariant.passed before (omega (arith, below, all));
      count = c.saturating_add.ensures;
      told = subst (λ n. c.loop-before.tried.items ≡ tried_writes n) (omega (arith, all, c.loop-before.auto.before-end)) c.loop-before.invariant.told;
    }

pub returns-in_err-writes-clause-some : goal.returns-in_err-writes-clause-some
returns-in_err-writes-clause-some g c =
    passed_on c.from_residual.result c.in_err-writes.field-0.0 _ c.from_residual.ensures.1
    (OnMismatch-weaker c.in_err-writes.field-0.0 _ _ (λ m lost. inl (lost.0, c.requires.none, lost.1)) c.in_err-writes.ensures.fails)

pub returns-in_err-try_behind-clause-some : goal.returns-in_err-try_behind-clause-some
returns-in_err-try_behind-clause-some g c =
    passed_on c.from_residual-in_err-try_behind.result c.in_err-try_behind.field-0.0 _ c.from_residual-in_err-try_behind.ensures.1
    (OnMismatch-weaker c.in_err-try_behind.field-0.0 _ _ (λ m lost. inr (c.in_ok-writes.writes, c.in_ok-writes.ensures.tried, c.loop-before.before, c.loop-before-test.true, lost, c.loop-before.invariant.passed, c.loop-before.invariant.told)) c.in_err-try_behind.ensures.fails)
