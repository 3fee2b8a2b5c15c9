-- The lowest clear bit of a bitmap.
use Rattle.std.proofs.Common.{◌≡◌, sym, ap, subst, refl, arith, ⊎_elim, ℕ, zero, suc, ◌+◌, ◌<◌, ◌≤◌, Bool, true, false, not, cond, List, Option, Some, None}
use Rattle.std.specs.List.{find, range_with_len}
use Rattle.blockmap.specs.Common.{cases_eq, cases_lt, IsLowestClear, lowest_clear, LowestClear, not-false, not-true}
use Rattle.model.specs.Fields.{has_bit}

-- ---- the first number of a row that passes a test

abbrev IsFirst : (ℕ → Bool) → ℕ → ℕ → Option ℕ → Type 0
IsFirst test a n None = (k : ℕ) → a ≤ k → k < a + n → test k ≡ false
IsFirst test a n (Some b) =
    (a ≤ b) × (b < a + n) × (test b ≡ true) × ((k : ℕ) → a ≤ k → k < b → test k ≡ false)

-- a number from one on is that one, or behind it
from_next : (P : ℕ → Type 0) (a k : ℕ) → P a → (a + 1 ≤ k → P k) → a ≤ k → P k
from_next P a k here behind from =
    ⊎_elim (λ (e : k ≡ a). subst P (sym e) here) (λ ne. behind (omega (arith, from, ne)))
    (cases_eq k a)

-- where the row's own first doesn't pass, it is that of the rest
first_later : (test : ℕ → Bool) (a n : ℕ) (o : Option ℕ) → test a ≡ false →
    IsFirst test (a + 1) n o → IsFirst test a (suc n) o
first_later test a n None is rest = λ k from below.
    from_next (λ j. test j ≡ false) a k is (λ on. rest k on (omega (arith, below))) from
first_later test a n (Some b) is (low, high, passes, before) = (
  omega (arith, low),
  omega (arith, high),
  passes,
  λ k from below. from_next (λ j. test j ≡ false) a k is (λ on. before k on below) from,
)

first_by : (test : ℕ → Bool) (a n : ℕ) (t : Bool) (o : Option ℕ) → test a ≡ t →
    IsFirst test (a + 1) n o → IsFirst test a (suc n) (cond t (Some a) o)
first_by test a n true o is rest =
    (omega arith, omega arith, is, λ k from below. absurd (omega (arith, from, below)))
first_by test a n false o is rest = first_later test a n o is rest

first_found : (test : ℕ → Bool) (a n : ℕ) → IsFirst test a n (find test (range_with_len a n))
first_found test a zero = λ k low high. absurd (omega (arith, low, high))
first_found test a (suc n) =
    let rest = first_found test (a + 1) n in
    first_by test a n (test a) (find test (range_with_len (a + 1) n)) refl rest

-- ---- the lowest clear bit

first_clear : (bits : List ℕ) (size : ℕ) (o : Option ℕ) →
    IsFirst (λ k. not (has_bit bits k)) 0 size o → IsLowestClear bits size o
first_clear bits size None first =
    λ k below. not-false (has_bit bits k) (first k (omega arith) (omega (arith, below)))
first_clear bits size (Some b) (low, high, clear, before) = (
  omega (arith, high),
  not-true (has_bit bits b) clear,
  λ k below. not-false (has_bit bits k) (before k (omega arith) below),
)

pub lowest_clear_is_lowest : LowestClear
lowest_clear_is_lowest bits size =
    let first = first_found (λ k. not (has_bit bits k)) 0 size in
    first_clear bits size (lowest_clear bits size) first

-- there is one at most
lowest_unique : (bits : List ℕ) (size : ℕ) (o q : Option ℕ) →
    IsLowestClear bits size o → IsLowestClear bits size q → o ≡ q
lowest_unique bits size None None one other = refl
lowest_unique bits size None (Some c) one (low, clear, before) =
    let set = one c low in absurd (cc (set, clear))
lowest_unique bits size (Some b) None (low, clear, before) other =
    let set = other b low in absurd (cc (set, clear))
lowest_unique bits size (Some b) (Some c) (low, clear, before) (low', clear', before') =
    ⊎_elim
    (λ (less : b < c). let set = before' b less in absurd (cc (set, clear)))
    (λ (from : c ≤ b). ⊎_elim
    (λ (less : c < b). let set = before c less in absurd (cc (set, clear')))
    (λ (to : b ≤ c). let same : b ≡ c = omega (arith, from, to) in ap Some same)
    (cases_lt c b))
    (cases_lt b c)

-- what is the lowest is that which is found
pub lowest_clear_found : (bits : List ℕ) (size : ℕ) (o : Option ℕ) →
    IsLowestClear bits size o → lowest_clear bits size ≡ o
lowest_clear_found bits size o is =
    lowest_unique bits size (lowest_clear bits size) o (lowest_clear_is_lowest bits size) is

-- it lies below the size
pub lowest_clear_below : (bits : List ℕ) (size b : ℕ) → Some b ≡ lowest_clear bits size → b < size
lowest_clear_below bits size b found =
    let P : Option ℕ → Type 0 = λ o. IsLowestClear bits size o in
    let is : P (Some b) = subst P (sym found) (lowest_clear_is_lowest bits size) in
    is.0
