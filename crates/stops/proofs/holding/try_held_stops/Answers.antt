use Rattle.std.proofs.Common.{◌≡◌, ◌∙◌, ◌++◌, ◌∷◌, [], ℕ, List, ap, inl, inr, refl, subst}
use Rattle.crash_check.specs.declared.mismatch.Stop.TheVariants.{End}
use Rattle.pictures.specs.declared.stops.Column.{Column}
use Rattle.stops.specs.Holding.{FirstFails, PassEach, limited_sum}
use Rattle.stops.specs.Tried.{tried_at}
use Rattle.stops.specs.declared.held_trial.Calls.TheVariants.{Writes, Syncs}
use Rattle.crash_check.specs.Lemmas.Faults.{OnMismatch-weaker, passed_on}
use Rattle.stops.proofs.holding.try_held_stops.Goals as goal

-- behind the whole run, which was the first that was tried, others were
behind : (old mid new more : List Column) (one : Column) → old ≡ [] → mid ≡ old ++ one ∷ [] → new ≡ mid ++ more → new ≡ one ∷ more
behind old mid new more one none first then_ =
    then_ ∙ ap (λ (l : List Column). l ++ more) (first ∙ ap (λ (l : List Column). l ++ one ∷ []) none)

behind_both : (one : Column) (mid new writes syncs : List Column) → mid ≡ one ∷ writes → new ≡ mid ++ syncs → new ≡ one ∷ writes ++ syncs
behind_both one mid new writes syncs first then_ = then_ ∙ ap (λ (l : List Column). l ++ syncs) first

pub returns-in_err-whole-clause-some : goal.returns-in_err-whole-clause-some
returns-in_err-whole-clause-some g c =
    passed_on c.from_residual.result c.in_err-whole.field-0.0 _ c.from_residual.ensures.1
    (OnMismatch-weaker c.in_err-whole.field-0.0 _ _ (λ m lost. inl (lost.0, c.requires.none, lost.1)) c.in_err-whole.ensures.fails)

pub returns-in_err-at_syncs-clause-some : goal.returns-in_err-at_syncs-clause-some
returns-in_err-at_syncs-clause-some g c =
    let writes = c.in_ok-at_writes.ensures.all in
    let one = tried_at End c.in_ok-whole.whole.images in
    passed_on c.from_residual-in_err-at_syncs.result c.in_err-at_syncs.field-0.0 _ c.from_residual-in_err-at_syncs.ensures.1
    (OnMismatch-weaker c.in_err-at_syncs.field-0.0 _ _ (λ m lost. inr (
      c.in_ok-whole.whole,
      c.in_ok-whole.ensures.tried,
      writes.0 ++ lost.0,
      behind_both one _ _ writes.0 lost.0 (behind _ _ _ writes.0 one c.requires.none c.in_ok-add.ensures writes.1) lost.1,
      inr (
        c.in_ok-at_writes.at_writes,
        writes.0,
        lost.0,
        refl,
        subst (λ (n : ℕ). PassEach c.args.tasks.now c.args.processes c.args.words.now Writes n c.in_ok-at_writes.at_writes writes.0) c.made_by-writes.ensures writes.2,
        subst (λ (n : ℕ). FirstFails c.args.tasks.now c.args.processes c.args.words.now Syncs n m lost.0) c.made_by-syncs.ensures lost.2,
      ),
    )) c.in_err-at_syncs.ensures.some)

pub returns-in_err-at_writes-clause-some : goal.returns-in_err-at_writes-clause-some
returns-in_err-at_writes-clause-some g c =
    let one = tried_at End c.in_ok-whole.whole.images in
    passed_on c.from_residual-in_err-at_writes.result c.in_err-at_writes.field-0.0 _ c.from_residual-in_err-at_writes.ensures.1
    (OnMismatch-weaker c.in_err-at_writes.field-0.0 _ _ (λ m lost. inr (
      c.in_ok-whole.whole,
      c.in_ok-whole.ensures.tried,
      lost.0,
      behind _ _ _ lost.0 one c.requires.none c.in_ok-add.ensures lost.1,
      inl (subst (λ (n : ℕ). FirstFails c.args.tasks.now c.args.processes c.args.words.now Writes n m lost.0) c.made_by-writes.ensures lost.2),
    )) c.in_err-at_writes.ensures.some)

pub returns-clause-all : goal.returns-clause-all
returns-clause-all g c =
    let writes = c.in_ok-at_writes.ensures.all in
    let syncs = c.in_ok-at_syncs.ensures.all in
    let one = tried_at End c.in_ok-whole.whole.images in
    record {
      run = c.in_ok-whole.whole;
      whole = c.in_ok-whole.ensures.tried;
      before_writes = c.in_ok-at_writes.at_writes;
      at_writes = writes.0;
      writes = subst (λ (n : ℕ). PassEach c.args.tasks.now c.args.processes c.args.words.now Writes n c.in_ok-at_writes.at_writes writes.0) c.made_by-writes.ensures writes.2;
      before_syncs = c.in_ok-at_syncs.at_syncs;
      at_syncs = syncs.0;
      syncs = subst (λ (n : ℕ). PassEach c.args.tasks.now c.args.processes c.args.words.now Syncs n c.in_ok-at_syncs.at_syncs syncs.0) c.made_by-syncs.ensures syncs.2;
      count = c.saturating_add-2.ensures ∙ ap (λ (n : ℕ). limited_sum n c.in_ok-at_syncs.at_syncs) c.saturating_add.ensures;
      told = behind_both one _ _ writes.0 syncs.0 (behind _ _ _ writes.0 one c.requires.none c.in_ok-add.ensures writes.1) syncs.1;
    }
