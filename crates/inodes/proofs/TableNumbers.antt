-- The numbers beside the inodes in memory stay theirs.
use Rattle.std.proofs.Common.{◌≡◌, inl, inr, ℕ, zero, suc, ◌<◌, true, List, length, get_or, set, refl, sym, ◌∙◌, ap, subst, arith, Option, Some, None, replicate, position}
use Rattle.std.proofs.lemmas.List.{length-set}
use Rattle.std.specs.Prelude.{slice_index}
use Rattle.inodes.specs.Common.{cases_eq, entry_at, false≢true, get_or-set_other, get_or-set_same, HasNot, InMemory, is_of, IsNumbered, position-Some}

-- a place whose inode keeps its number, or that is free then
pub numbered_kept : (ns : List ℕ) (ps : List (Option InMemory)) (k : ℕ) (e : Option InMemory) → IsNumbered ns ps → ((j : ℕ) → is_of j e ≡ true → is_of j (entry_at ps k) ≡ true) → k < 50 → IsNumbered ns (set ps k e)
numbered_kept ns ps k e is same lt = record { size = length-set ps k e ∙ is.size; many = is.many; each = each }
  where
    each : (l j : ℕ) → is_of j (entry_at (set ps k e) l) ≡ true → slice_index ns l ≡ j
    each l j has = elim (cases_eq l k) [
      | inl here ↦
          subst (λ (m : ℕ). slice_index ns m ≡ j) (sym here)
          (is.each k j (same j (sym (ap (is_of j) (get_or-set_same ps k e None (omega (arith, lt, is.size)))) ∙ subst (λ (m : ℕ). is_of j (entry_at (set ps k e) m) ≡ true) here has)))
      | inr other ↦ is.each l j (sym (ap (is_of j) (get_or-set_other ps k l e None other)) ∙ has)
    ]

-- places that are all free may have any numbers
pub numbered_free : (ns : List ℕ) → length ns ≡ 50 → IsNumbered ns (replicate 50 None)
numbered_free ns many = record { size = refl; many = many; each = λ k i here. absurd (false≢true (sym (ap (is_of i) (free 50 k)) ∙ here)) }
  where
    free : (n k : ℕ) → get_or (let ps : List (Option InMemory) = replicate n None in ps) k None ≡ None
    free zero k = refl
    free (suc n) zero = refl
    free (suc n) (suc k) = free n k

-- an inode whose number is not there is not in memory
pub none_in : (ns : List ℕ) (ps : List (Option InMemory)) (i : ℕ) → IsNumbered ns ps → HasNot ns i 50 → position (is_of i) ps ≡ None
none_in ns ps i is has = by (position (is_of i) ps) refl
  where
    by : (at : Option ℕ) → position (is_of i) ps ≡ at → position (is_of i) ps ≡ None
    by None e = e
    by (Some k) e = let f = position-Some (is_of i) ps k None e in let low : k < 50 = omega (arith, f.0, is.size) in absurd (has k low (is.each k i f.1))
