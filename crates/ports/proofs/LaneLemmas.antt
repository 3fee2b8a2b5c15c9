-- One lane changes, and the others stay.
use Rattle.std.proofs.Common.{◌≡◌, ◌≢◌, ℕ, zero, suc, ◌<◌, ◌≤◌, ◌+◌, ◌-◌, ◌^◌, min, List, [], ◌∷◌, ◌++◌, length, set, Some, None, inl, inr, append-nil, length-append, length-set, sym, ap, ◌∙◌, subst, arith, append_assoc}
use Rattle.std.proofs.lemmas.Bool.{cases_eq, ltb-true, lt-ltb}
use native.Mathlib.Decide.{ℕ_discrete}
use mathlib.Core.Logic.{dite}
use Rattle.std.specs.Prelude.{Option, slice_get, All, nat_lt, option_to_list}
use Rattle.ports.specs.Common.{Lane}
use Rattle.model.specs.declared.types.operations.Answer.{Answer}
use Rattle.ports.specs.declared.queues.QueueIntake.{QueueIntake}
use Rattle.ports.specs.History.{History, FitWith, AllFit, gives, nothing_yet}
use Rattle.ports.specs.Lanes.{IsEmptyLane, SameWaiting, polled_after}
use Rattle.ports.specs.Queues.{FitsAt, FitsLane, LeavesRest, waiting_at, answers_at, polled_at}
use Rattle.ports.specs.Lemmas.Lanes.{slice_get-set_here, slice_get-set_other}

-- a change of one lane that takes each history of it to another
pub fits_with : (lanes : List Lane) (pid : ℕ) (l n : Lane) (f : History → History) → slice_get lanes pid ≡ Some l → pid < length lanes
    → ((h : History) → FitsLane l h → FitsLane n (f h)) → FitWith (λ p h. FitsAt (slice_get lanes p) h) (λ p h. FitsAt (slice_get (set lanes pid n) p) h) pid f
fits_with lanes pid l n f at here moves = record {
  own = λ h old. subst (λ o. FitsAt o (f h)) (sym (slice_get-set_here lanes pid n here)) (moves h (subst (λ o. FitsAt o h) at old));
  others = λ p h other old. subst (λ o. FitsAt o h) (sym (slice_get-set_other lanes pid p n other)) old;
}

-- one that keeps what is told of it
pub stays_so : {A : Type 0} (told : Option Lane → A) (lanes : List Lane) (pid : ℕ) (l n : Lane) → slice_get lanes pid ≡ Some l → pid < length lanes → told (Some n) ≡ told (Some l)
    → (p : ℕ) → told (slice_get (set lanes pid n) p) ≡ told (slice_get lanes p)
stays_so told lanes pid l n at here same p = dite (ℕ_discrete p pid)
    (λ mine. ap (λ q. told (slice_get (set lanes pid n) q)) mine ∙ ap told (slice_get-set_here lanes pid n here) ∙ same ∙ ap told (sym at) ∙ ap (λ q. told (slice_get lanes q)) (sym mine))
    (λ apart. ap told (slice_get-set_other lanes pid p n apart))

-- one that keeps them
all_fit : (lanes : List Lane) (pid : ℕ) (l n : Lane) → slice_get lanes pid ≡ Some l → pid < length lanes
    → ((h : History) → FitsLane l h → FitsLane n h) → AllFit (λ p h. FitsAt (slice_get lanes p) h) (λ p h. FitsAt (slice_get (set lanes pid n) p) h)
all_fit lanes pid l n at here moves p h old =
    let w = fits_with lanes pid l n (λ x. x) at here moves in
    dite (ℕ_discrete p pid)
    (λ same. subst (λ q. FitsAt (slice_get (set lanes pid n) q) h) (sym same) (w.own h (subst (λ q. FitsAt (slice_get lanes q) h) same old)))
    (λ apart. w.others p h apart old)

-- what such a change of one process's lane leaves, where no place is taken
pub leaves_rest : (q new : QueueIntake) (pid : ℕ) (l n : Lane) → new.lanes.items ≡ set q.lanes.items pid n → slice_get q.lanes.items pid ≡ Some l → pid < length q.lanes.items
    → length n.answers.items ≤ length l.answers.items → ((h : History) → FitsLane l h → FitsLane n h) → LeavesRest q new pid
leaves_rest q new pid l n changed at here few moves = record {
  others = λ p other. (ap waiting_at (stays p other), ap answers_at (stays p other), ap polled_at (stays p other));
  processes = ap length changed ∙ length-set q.lanes.items pid n;
  room = λ p kept. elim (cases_eq p pid) [
    | inl mine ↦
        let was : length (answers_at (slice_get q.lanes.items p)) < 16 = ltb-true _ _ kept in
        let old : slice_get q.lanes.items p ≡ Some l = ap (slice_get q.lanes.items) mine ∙ at in
        let now : slice_get new.lanes.items p ≡ Some n = ap (slice_get new.lanes.items) mine ∙ ap (λ (ls : List Lane). slice_get ls pid) changed ∙ slice_get-set_here q.lanes.items pid n here in
        lt-ltb _ _ (omega (arith, was, few, ap (λ o. length (answers_at o)) old, ap (λ o. length (answers_at o)) now))
    | inr other ↦ ap (λ o. nat_lt (length (answers_at o)) 16) (stays p other) ∙ kept
  ];
  fits = λ p h old. subst (λ (ls : List Lane). FitsAt (slice_get ls p) h) (sym changed) (all_fit q.lanes.items pid l n at here moves p h old);
}
  where
    stays : (p : ℕ) → p ≢ pid → slice_get new.lanes.items p ≡ slice_get q.lanes.items p
    stays p other = ap (λ (ls : List Lane). slice_get ls p) changed ∙ slice_get-set_other q.lanes.items pid p n other

pub gives_lane : (l n : Lane) (a : Answer) → n.answers.items ≡ l.answers.items ++ a ∷ [] → n.polled ≡ l.polled → SameWaiting l n → (h : History) → FitsLane l h → FitsLane n (gives a h)
gives_lane l n a more polls same h fits = record {
  submitted = same.submitted ∙ fits.submitted ∙ ap (λ w. length h.taken + length w) (sym same.waiting);
  given = (fits.given.0, ap (λ g. g ++ a ∷ []) fits.given.1 ∙ append_assoc fits.given.0 l.answers.items (a ∷ []) ∙ ap (λ m. fits.given.0 ++ m) (sym more), polls ∙ fits.given.2);
}

-- the count of those that were polled
polls_more : (before : List Answer) (r : Option Answer) (old : ℕ) → old ≡ min (length before) (2 ^ 64 - 1) → polled_after r old ≡ min (length (before ++ option_to_list r)) (2 ^ 64 - 1)
polls_more before None old is = is ∙ ap (λ (l : List Answer). min (length l) (2 ^ 64 - 1)) (sym (append-nil before))
polls_more before (Some a) old is = let more = length-append before (a ∷ []) in omega (arith, is, more)

pub polls_lane : (l n : Lane) (r : Option Answer) → l.answers.items ≡ option_to_list r ++ n.answers.items → n.polled ≡ polled_after r l.polled → SameWaiting l n → (h : History) → FitsLane l h → FitsLane n h
polls_lane l n r less polls same h fits = record {
  submitted = same.submitted ∙ fits.submitted ∙ ap (λ w. length h.taken + length w) (sym same.waiting);
  given = (fits.given.0 ++ option_to_list r, fits.given.1 ∙ ap (λ m. fits.given.0 ++ m) less ∙ sym (append_assoc fits.given.0 (option_to_list r) n.answers.items), polls ∙ polls_more fits.given.0 r l.polled fits.given.2);
}

pub all_fresh : (lanes : List Lane) → All IsEmptyLane lanes → (p : ℕ) → FitsAt (slice_get lanes p) nothing_yet
all_fresh [] all p = tt
all_fresh (l ∷ ls) all zero = let z = all 0 l (omega arith) in let w = ap length z.waiting in record { submitted = omega (arith, z.submitted, w); given = ([], sym z.answers, z.polled) }
all_fresh (l ∷ ls) all (suc p) = all_fresh ls (λ k d h. all (suc k) d (omega arith)) p
