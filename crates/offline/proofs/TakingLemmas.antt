-- Pointers that are taken, piece by piece.
use Rattle.std.proofs.Common.{◌≡◌, ◌∙◌, ℕ, List, [], ◌∷◌, ◌++◌, Result, Ok, Err, inl, inr, sym, ap, subst}
use Rattle.offline.specs.Common.{append-nil, append_assoc, CheckFault, Pointer, Rose}
use Rattle.offline.specs.Taking.{HasTaken, TakesAll}

module _ {T : Type 0} (takes : T → ℕ → List Pointer → T → Result (Unit {0}) CheckFault → Type 0)
    (more : (a b c : T) (i : ℕ) (front back : List Pointer) (answer : Result (Unit {0}) CheckFault) → takes a i front b (Ok tt) → takes b i back c answer → takes a i (front ++ back) c answer)
    (early : (a b : T) (i : ℕ) (front back : List Pointer) (fault : CheckFault) → takes a i front b (Err fault) → takes a i (front ++ back) b (Err fault))
    (i : ℕ) (whole rest here next : List Pointer) (old now new : T) (had : HasTaken takes i whole rest old now) (cut : rest ≡ here ++ next) where
  split : whole ≡ (had.front ++ here) ++ next
  split = had.split ∙ ap (λ r. had.front ++ r) cut ∙ sym (append_assoc had.front here next)

  -- the next of them are taken
  pub taken_next : takes now i here new (Ok tt) → HasTaken takes i whole next old new
  taken_next then = record { front = had.front ++ here; split = split; taken = more old now new i had.front here (Ok tt) had.taken then }

  -- the walk ends among them, at a count of the disk's faults that was the same before
  pub taken_fails : (before mid after : ℕ) (fault : CheckFault) → mid ≡ before → TakesAll takes i here mid after now new (Err fault) → TakesAll takes i whole before after old new (Err fault)
  taken_fails before mid after fault same (inl then) = inl (
    subst (λ (ps : List Pointer). takes old i ps new (Err fault)) (sym split) (early old new i (had.front ++ here) next fault (more old now new i had.front here (Err fault) had.taken then.0)),
    then.1 ∙ same,
  )
  taken_fails before mid after fault same (inr then) = inr (
    (then.0.0, part),
    subst (λ (n : ℕ). Rose n after) same then.1,
  )
    where
      part : (left : List Pointer) × HasTaken takes i whole left old new
      part =
          let inner = then.0.1.1 in (
            then.0.1.0 ++ next,
            record {
              front = had.front ++ inner.front;
              split = had.split ∙ ap (λ r. had.front ++ r) (cut ∙ ap (λ r. r ++ next) inner.split ∙ append_assoc inner.front then.0.1.0 next) ∙ sym (append_assoc had.front inner.front (then.0.1.0 ++ next));
              taken = more old now new i had.front inner.front (Ok tt) had.taken inner.taken;
            },
          )

module _ {T : Type 0} (takes : T → ℕ → List Pointer → T → Result (Unit {0}) CheckFault → Type 0) where
  -- the first was taken
  pub taken_first : (i : ℕ) (p q : Pointer) (whole rest : List Pointer) (old new : T) → takes old i (q ∷ []) new (Ok tt) → q ≡ p → whole ≡ (p ∷ []) ++ rest → HasTaken takes i whole rest old new
  taken_first i p q whole rest old new taken same split = record {
    front = p ∷ [];
    split = split;
    taken = subst (λ (one : Pointer). takes old i (one ∷ []) new (Ok tt)) same taken;
  }

  -- all of them were
  pub taken_whole : (i : ℕ) (whole : List Pointer) (before after : ℕ) (old new : T) → TakesAll takes i whole before after old new (Ok tt) → takes old i whole new (Ok tt) × (after ≡ before)
  taken_whole i whole before after old new (inl taken) = taken
  taken_whole i whole before after old new (inr ended) = absurd (cc ended.0.0)

  pub taken_all : (i : ℕ) (whole rest : List Pointer) (before after : ℕ) (old new : T) → HasTaken takes i whole rest old new → rest ≡ [] → after ≡ before → TakesAll takes i whole before after old new (Ok tt)
  taken_all i whole rest before after old new had none same =
      inl (subst (λ (ps : List Pointer). takes old i ps new (Ok tt)) (sym (had.split ∙ ap (λ r. had.front ++ r) none ∙ append-nil had.front)) had.taken, same)
