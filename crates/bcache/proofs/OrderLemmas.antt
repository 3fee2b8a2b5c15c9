-- The recency order: which slots stand in it, and its victim.
use Rattle.std.proofs.Common.{◌≡◌, ◌≢◌, inl, inr, ℕ, zero, suc, ◌+◌, ◌<◌, ◌≤◌, ◌==◌, not, Bool, true, false, cond, eqb, List, [], ◌∷◌, ◌++◌, length, map, get_or, drop, refl, sym, ◌∙◌, ap, subst, arith, Option, Some, None}
use Rattle.std.specs.Prelude.{reverse}
use Rattle.std.specs.List.{filter}
use Rattle.std.proofs.Math.Seq.{drop-cons}
use Rattle.bcache.specs.Common.{Buffer, cases_Bool, cases_eq, count_of, count_of-get_or, eq-eqb, get_or-map, later_or, ne_eqb, references_of, reverse-append, victim_in}
use Rattle.bcache.specs.Lemmas.Order.{victim_none}

-- a number that stands nowhere is at no place
pub absent_at : (i k d : ℕ) (o : List ℕ) → k < length o → count_of i o ≡ 0 → get_or o k d ≢ i
absent_at i k d o lt none same = let some : 1 ≤ count_of (get_or o k d) o = count_of-get_or o k d lt in let here : count_of (get_or o k d) o ≡ 0 = ap (λ (j : ℕ). count_of j o) same ∙ none in omega arith

pub others_absent : (i : ℕ) (o : List ℕ) → count_of i o ≡ 0 → filter (λ s. not (s == i)) o ≡ o
others_absent i [] none = refl
others_absent i (a ∷ o) none = elim (cases_eq a i) [
  | inl same ↦ absurd (let one : 1 + count_of i o ≡ 0 = rw (eq-eqb a i same) at none in omega arith)
  | inr ne ↦ let rest : 0 + count_of i o ≡ 0 = rw (ne_eqb a i ne) at none in rw (ne_eqb a i ne) (ap (λ (l : List ℕ). a ∷ l) (others_absent i o (omega arith)))
]

-- the victim, by a walk from the last
abbrev pub first_unused : List ℕ → List ℕ → Option ℕ
first_unused references [] = None
first_unused references (slot ∷ rest) = cond (eqb (get_or references slot 0) 0) (Some slot) (first_unused references rest)

first_unused-append : (references front : List ℕ) (slot : ℕ) → first_unused references (front ++ slot ∷ []) ≡ later_or (first_unused references front) (eqb (get_or references slot 0) 0) slot
first_unused-append references [] slot = by (eqb (get_or references slot 0) 0)
  where
    by : (free : Bool) → cond free (Some slot) None ≡ later_or None free slot
    by true = refl
    by false = refl
first_unused-append references (a ∷ front) slot = elim (cases_Bool (eqb (get_or references a 0) 0)) [
  | inl free ↦ rw free refl
  | inr used ↦ rw used (first_unused-append references front slot)
]

pub victim_back : (references order : List ℕ) → first_unused references (reverse order) ≡ victim_in references order
victim_back references [] = refl
victim_back references (slot ∷ order) =
    ap (first_unused references) (reverse-append (slot ∷ []) order) ∙ first_unused-append references (reverse order) slot
    ∙ ap (λ (v : Option ℕ). later_or v (eqb (get_or references slot 0) 0) slot) (victim_back references order)

-- a slot that has references is passed over
pub used_passed : (references rest : List ℕ) (k slot : ℕ) (found : Option ℕ) → k < length rest → slot ≡ get_or rest k 40 → eqb (get_or references slot 0) 0 ≡ false →
    first_unused references (drop k rest) ≡ found → first_unused references (drop (suc k) rest) ≡ found
used_passed references rest k slot found lt here used so_far =
    sym (ap (first_unused references) (drop-cons rest k 40 lt) ∙ rw (subst (λ (n : ℕ). eqb (get_or references n 0) 0 ≡ false) here used) refl) ∙ so_far

pub references_read : (buffers : List Buffer) (slot : ℕ) (buffer : Buffer) → slot < length buffers → buffer ≡ get_or buffers slot buffer →
    get_or (map references_of buffers) slot 0 ≡ references_of buffer
references_read buffers slot buffer lt is = get_or-map references_of buffers slot buffer 0 lt ∙ ap references_of (sym is)

-- a slot stands there, and each behind it has references
pub record IsLast (references order : List ℕ) (slot : ℕ) : Type 0 where
  pub place : ℕ
  pub at : get_or order place 0 ≡ slot
  pub behind : (k : ℕ) → place < k → k < length order → get_or references (get_or order k 0) 0 ≢ 0

pub victim_last : (references order : List ℕ) (slot : ℕ) → victim_in references order ≡ Some slot → IsLast references order slot
victim_last references [] slot e = absurd (cc e)
victim_last references (s ∷ order) slot e = by (victim_last references order slot) (victim_in references order) refl (eqb (get_or references s 0) 0) e
  where
    later : (f : IsLast references order slot) (k : ℕ) → suc f.place < k → k < suc (length order) → get_or references (get_or (s ∷ order) k 0) 0 ≢ 0
    later f zero past lt = absurd (omega arith)
    later f (suc k) past lt = f.behind k (omega (arith, past)) (omega (arith, lt))

    first : victim_in references order ≡ None → (k : ℕ) → 0 < k → k < suc (length order) → get_or references (get_or (s ∷ order) k 0) 0 ≢ 0
    first none zero past lt = absurd (omega arith)
    first none (suc k) past lt = victim_none references order none k (omega (arith, lt))

    by : (victim_in references order ≡ Some slot → IsLast references order slot) → (v : Option ℕ) → victim_in references order ≡ v → (free : Bool) → later_or v free s ≡ Some slot → IsLast references (s ∷ order) slot
    by rest (Some found) was free is = let f = rest (was ∙ is) in record { place = suc f.place; at = f.at; behind = later f }
    by rest None was true is = record { place = 0; at = cc is; behind = first was }
    by rest None was false is = absurd (cc is)
