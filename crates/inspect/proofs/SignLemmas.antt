-- The signs of the blocks that files own, written one after the other.
use Rattle.std.proofs.Common.{◌≡◌, ◌≢◌, ◌∙◌, ℕ, zero, suc, ◌+◌, ◌<◌, ◌≤◌, List, [], ◌∷◌, ◌++◌, length, get_or, set, take, map, Option, Some, None, refl, sym, ap, ⊎_elim, arith}
use Rattle.std.specs.Prelude.{◌==◌}
use Rattle.std.specs.Option.{option_or}
use Rattle.std.proofs.lemmas.Bool.{ne_eqb, eq-eqb, cases_eq}
use Rattle.std.proofs.lemmas.List.{take_more, get_or-set_same, get_or-set_other, length-set}
use Rattle.std.proofs.lemmas.List.Folds.{find-append}
use Rattle.model.specs.Soundness.{count_of}
use Rattle.inspect.specs.declared.owned.Owned.{Owned}
use Rattle.inspect.specs.Signs.{owned_sign, owner_among, owner_sign}

-- the numbers of the blocks
abbrev pub numbers_in : List Owned → List ℕ
numbers_in owned = map (λ o. o.block) owned

-- a block that stands nowhere among the owned ones has no owner there
owner_none : (b : ℕ) (owned : List Owned) → count_of b (numbers_in owned) ≡ 0 → owner_among owned b ≡ None
owner_none b [] none = refl
owner_none b (o ∷ owned) none =
    ⊎_elim
    (λ (e : o.block ≡ b). absurd (let more : 1 + count_of b (numbers_in owned) ≡ 0 = rw (eq-eqb o.block b e) at none in omega (arith, more)))
    (λ (ne : o.block ≢ b). let no = ne_eqb o.block b ne in rw no (owner_none b owned (let rest : 0 + count_of b (numbers_in owned) ≡ 0 = rw no at none in omega (arith, rest))))
    (cases_eq o.block b)

-- one that stands once has none before its place
count_before : (owned : List Owned) (k : ℕ) (d o : Owned) (b : ℕ) → k < length owned → get_or owned k d ≡ o → o.block ≡ b →
    count_of b (numbers_in owned) ≤ 1 → count_of b (numbers_in (take k owned)) ≡ 0
count_before [] k d o b low at here once = absurd (omega (arith, low))
count_before (p ∷ owned) zero d o b low at here once = refl
count_before (p ∷ owned) (suc k) d o b low at here once =
    ⊎_elim
    (λ (e : p.block ≡ b).
    let yes = eq-eqb p.block b e in
    let whole : 1 + count_of b (numbers_in owned) ≤ 1 = rw yes at once in
    let later = counted owned k d o b (omega (arith, low)) at here in
    absurd (omega (arith, whole, later)))
    (λ (ne : p.block ≢ b).
    let no = ne_eqb p.block b ne in
    let rest = count_before owned k d o b (omega (arith, low)) at here (let r : 0 + count_of b (numbers_in owned) ≤ 1 = rw no at once in omega (arith, r)) in
    rw no (omega (arith, rest)))
    (cases_eq p.block b)
  where
    counted : (owned : List Owned) (k : ℕ) (d o : Owned) (b : ℕ) → k < length owned → get_or owned k d ≡ o → o.block ≡ b → 1 ≤ count_of b (numbers_in owned)
    counted [] k d o b low at here = absurd (omega (arith, low))
    counted (p ∷ owned) zero d o b low at here =
        let e : p.block ≡ b = ap (λ (q : Owned). q.block) at ∙ here in
        rw (eq-eqb p.block b e) (omega arith)
    counted (p ∷ owned) (suc k) d o b low at here =
        let r = counted owned k d o b (omega (arith, low)) at here in
        omega (arith, r)

or_none : {X : Type 0} (o : Option X) → option_or o None ≡ o
or_none None = refl
or_none (Some x) = refl

-- one block more
module _ (owned : List Owned) (signs : List ℕ) (k : ℕ) (d o : Owned) (low : k < length owned) (at : get_or owned k d ≡ o)
    (inside : o.block < length signs) (once : (b : ℕ) → count_of b (numbers_in owned) ≤ 1)
    (before : (b : ℕ) → b < length signs → get_or signs b 0 ≡ owner_sign (owner_among (take k owned) b)) where
  split : (b : ℕ) → owner_among (take (k + 1) owned) b ≡ option_or (owner_among (take k owned) b) (owner_among (o ∷ []) b)
  split b =
      ap (λ l. owner_among l b) (take_more owned k d low ∙ ap (λ q. take k owned ++ q ∷ []) at)
      ∙ find-append (λ q. q.block == b) (take k owned) (o ∷ [])

  pub signed_more : (b : ℕ) → b < length (set signs o.block (owned_sign o)) →
      get_or (set signs o.block (owned_sign o)) b 0 ≡ owner_sign (owner_among (take (k + 1) owned) b)
  signed_more b within =
      ⊎_elim
      (λ (e : o.block ≡ b).
      let none = owner_none b (take k owned) (count_before owned k d o b low at e (once b)) in
      let here : owner_among (take (k + 1) owned) b ≡ Some o = rw (split b, none, eq-eqb o.block b e) refl in
      ap (λ q. get_or (set signs o.block (owned_sign o)) q 0) (sym e) ∙ get_or-set_same signs o.block (owned_sign o) 0 inside ∙ ap owner_sign (sym here))
      (λ (ne : o.block ≢ b).
      let same : owner_among (take (k + 1) owned) b ≡ owner_among (take k owned) b = rw (split b, ne_eqb o.block b ne) (or_none (owner_among (take k owned) b)) in
      get_or-set_other signs o.block b (owned_sign o) 0 (λ z. ne (sym z))
      ∙ before b (omega (arith, within, length-set signs o.block (owned_sign o))) ∙ ap owner_sign (sym same))
      (cases_eq o.block b)
