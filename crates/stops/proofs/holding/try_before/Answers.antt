use Rattle.std.proofs.Common.{◌≡◌, ◌∙◌, ◌+◌, ◌++◌, ◌∷◌, [], ℕ, List, suc, ap, append-nil, append_assoc, arith, refl, subst, sym}
use Rattle.crash_check.specs.Lemmas.Faults.{OnMismatch-weaker, passed_on}
use Rattle.pictures.specs.declared.stops.Column.{Column}
use Rattle.stops.specs.Holding.{PassEach, stop_behind}
use Rattle.stops.specs.Tried.{tried_at}
use Rattle.stops.proofs.holding.try_before.Goals as goal

pub loop-before-init : goal.loop-before-init
loop-before-init g c = ([], sym (append-nil c.args.tried.now.items), (refl, refl))

pub loop-before-preserved : goal.loop-before-preserved
loop-before-preserved g c =
    let before = c.loop-before.invariant in
    let k = c.loop-before.before in
    let one = tried_at (stop_behind c.args.calls k) c.in_ok-left.left in (
      before.0 ++ one ∷ [],
      c.in_ok-add.ensures
          ∙ ap (λ stop. c.loop-before.tried.items ++ tried_at stop c.in_ok-left.left ∷ []) c.stop_behind.ensures
          ∙ ap (λ (l : List Column). l ++ one ∷ []) before.1 ∙ append_assoc c.args.tried.now.items before.0 (one ∷ []),
      subst (λ (n : ℕ). PassEach c.args.tasks.now c.args.processes c.args.words.now c.args.calls n c.saturating_add-images.result (before.0 ++ one ∷ [])) (next k)
          (c.loop-before.images, c.in_ok-left.left, before.0, before.2, c.in_ok-left.ensures.passes, c.saturating_add-images.ensures, refl),
    )
  where
    next : (k : ℕ) → suc k ≡ k + 1
    next k = omega arith

pub returns-in_err-left-clause-some : goal.returns-in_err-left-clause-some
returns-in_err-left-clause-some g c =
    let before = c.loop-before.invariant in
    passed_on c.from_residual.result c.in_err-left.field-0.0 _ c.from_residual.ensures.1
    (OnMismatch-weaker c.in_err-left.field-0.0 _ _ (λ m lost. (before.0, before.1, (c.loop-before.before, c.loop-before-test.true, lost, c.loop-before.images, before.2))) c.in_err-left.ensures.fails)
