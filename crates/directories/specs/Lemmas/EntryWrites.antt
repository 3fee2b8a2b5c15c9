-- What a write makes of an entry: all of it, or nothing.
use Rattle.std.proofs.Common.{◌≡◌, ◌⊎◌, inl, inr, ℕ, ◌+◌, ◌*◌, ◌%◌, ◌<◌, ◌≤◌, true, ◌&&◌, ◌||◌, eqb, leb, List, ◌++◌, take, drop, ap, ◌∙◌, ⊎_elim, arith}
use Rattle.std.proofs.lemmas.Bool.{leb-true, eqb-true, cases_lt, and_parts, or_cases}
use Rattle.std.proofs.lemmas.List.{append-nil, take-append-drop}
use Rattle.blocks.specs.Block.{overwritten}
use Rattle.model.specs.Operations.{may_have_written}

pub nothing_written : (old : List ℕ) (at k : ℕ) (entry : List ℕ) → k ≡ 0 → overwritten old at (take k entry) ≡ old
nothing_written old at k entry none =
    let here : at + 0 ≡ at = omega arith in
    ap (λ (i : ℕ). overwritten old at (take i entry)) none
    ∙ ap (λ (l : List ℕ). l ++ drop (at + 0) old) (append-nil (take at old))
    ∙ ap (λ (i : ℕ). take at old ++ drop i old) here
    ∙ take-append-drop at old

none_or_all : (other k : ℕ) → k ≤ 16 → (16 * other + k) % 1024 ≡ 0 → (k ≡ 0) ⊎ (k ≡ 16)
none_or_all other k few whole =
    ⊎_elim (λ (low : k < 1). inl (omega arith))
    (λ (some : 1 ≤ k). ⊎_elim (λ (less : k < 16). absurd (omega arith)) (λ (all : 16 ≤ k). inr (omega arith)) (cases_lt k 16)) (cases_lt k 1)

-- an entry is written whole, or nothing of it
pub whole_entry : (old other n k : ℕ) → n ≡ 16 → may_have_written old (16 * other) n k ≡ true → (k ≡ 0) ⊎ (k ≡ 16)
whole_entry old other n k size h =
    let parts = and_parts (leb k n) (eqb k n || (eqb ((16 * other + k) % 1024) 0 && leb old (16 * other + k))) h in
    let few : k ≤ n = leb-true k n parts.0 in
    ⊎_elim (λ (all : eqb k n ≡ true). inr (eqb-true k n all ∙ size))
    (λ (short : (eqb ((16 * other + k) % 1024) 0 && leb old (16 * other + k)) ≡ true).
    none_or_all other k (omega arith)
    (eqb-true ((16 * other + k) % 1024) 0 (and_parts (eqb ((16 * other + k) % 1024) 0) (leb old (16 * other + k)) short).0))
    (or_cases (eqb k n) (eqb ((16 * other + k) % 1024) 0 && leb old (16 * other + k)) parts.1)
