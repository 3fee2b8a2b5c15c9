-- The recency order: it stays one, and its victim is one of its slots, without references.
use Rattle.std.proofs.Common.{◌≡◌, ◌≢◌, inl, inr, ℕ, zero, suc, ◌+◌, ◌<◌, ◌≤◌, ◌==◌, not, Bool, true, false, cond, eqb, ltb, List, [], ◌∷◌, length, get_or, refl, sym, ◌∙◌, ap, zero-add, arith, Option, Some, None}
use Rattle.std.specs.Prelude.{position}
use Rattle.std.specs.List.{filter, position_or_len}
use Rattle.std.proofs.lemmas.Bool.Decides.{nat_tests}
use Rattle.std.proofs.lemmas.List.Sums.{fails_before_first}
use Rattle.bcache.specs.Common.{both_ways, cases_Bool, cases_eq, cases_lt, count_of, eq-eqb, eqb-true, first_order, IsOrder, later_or, le-ltb, lt-ltb, moved_to_front, ne_eqb, victim_in}

-- where no element passes a test, none does
pub none_passes : {X : Type 0} (p : X → Bool) (xs : List X) (j : ℕ) (d : X) → position p xs ≡ None → j < length xs → p (get_or xs j d) ≡ false
none_passes p xs j d none lt = fails_before_first p xs j d (elim (cases_lt (position_or_len p xs) (length xs)) [
  | inl some ↦ grind (arith, nat_tests, none, some)
  | inr far ↦ omega (arith, lt, far)
])

-- another number stands among the others as often as before
pub count_of-others : (b i : ℕ) (o : List ℕ) → b ≢ i → count_of b (filter (λ s. not (s == i)) o) ≡ count_of b o
count_of-others b i [] other = refl
count_of-others b i (a ∷ o) other = elim (cases_eq a i) [
  | inl same ↦ rw (eq-eqb a i same, ne_eqb a b (λ e. other (sym e ∙ same))) (count_of-others b i o other ∙ sym (zero-add (count_of b o)))
  | inr ne ↦ rw (ne_eqb a i ne) (ap (λ (n : ℕ). cond (eqb a b) 1 0 + n) (count_of-others b i o other))
]

pub count_of-without : (i : ℕ) (o : List ℕ) → count_of i (filter (λ s. not (s == i)) o) ≡ 0
count_of-without i [] = refl
count_of-without i (a ∷ o) = elim (cases_eq a i) [
  | inl same ↦ rw (eq-eqb a i same) (count_of-without i o)
  | inr ne ↦ rw (ne_eqb a i ne, ne_eqb a i ne) (zero-add _ ∙ count_of-without i o)
]

length-others : (i : ℕ) (o : List ℕ) → length (filter (λ s. not (s == i)) o) + count_of i o ≡ length o
length-others i [] = refl
length-others i (a ∷ o) = let rest = length-others i o in elim (cases_eq a i) [
  | inl same ↦ rw (eq-eqb a i same) (omega arith)
  | inr ne ↦ rw (ne_eqb a i ne) (omega arith)
]

-- a slot moved to the front
pub order_moved : (o : List ℕ) (i : ℕ) → IsOrder o → i < 40 → IsOrder (moved_to_front o i)
order_moved o i is lt = record {
  all = let l = length-others i o in let one = is.each i lt in omega (arith, is.all);
  each = λ b below. elim (cases_eq i b) [
    | inl same ↦ rw (eq-eqb i b same) (ap (λ (n : ℕ). 1 + n) (ap (λ (k : ℕ). count_of k (filter (λ s. not (s == i)) o)) (sym same) ∙ count_of-without i o))
    | inr other ↦ rw (ne_eqb i b other) (zero-add _ ∙ count_of-others b i o (λ e. other (sym e)) ∙ is.each b below)
  ];
}

-- how many numbers are below n
below_count : ℕ → List ℕ → ℕ
below_count n [] = 0
below_count n (a ∷ o) = cond (ltb a n) 1 0 + below_count n o

below_more : (n : ℕ) (o : List ℕ) → below_count (suc n) o ≡ below_count n o + count_of n o
unfolding below_count
below_more n [] = refl
below_more n (a ∷ o) = let rest = below_more n o in elim (cases_lt a n) [
  | inl lt ↦ rw (lt-ltb a (suc n) (omega arith), lt-ltb a n lt, ne_eqb a n (λ e. omega arith)) (omega arith)
  | inr ge ↦ elim (cases_eq a n) [
    | inl same ↦ rw (lt-ltb a (suc n) (omega arith), le-ltb a n ge, eq-eqb a n same) (omega arith)
    | inr ne ↦ rw (le-ltb a (suc n) (omega (arith, ne)), le-ltb a n ge, ne_eqb a n ne) (omega arith)
  ]
]

below_none : (o : List ℕ) → below_count 0 o ≡ 0
unfolding below_count
below_none [] = refl
below_none (a ∷ o) = rw (le-ltb a 0 (omega arith)) (zero-add _ ∙ below_none o)

below_each : (n : ℕ) (o : List ℕ) → ((b : ℕ) → b < n → count_of b o ≡ 1) → below_count n o ≡ n
below_each zero o each = below_none o
below_each (suc n) o each =
    let rest = below_each n o (λ b lt. each b (omega arith)) in
    let one = each n (omega arith) in
    let more = below_more n o in omega arith

below_length : (n : ℕ) (o : List ℕ) → below_count n o ≤ length o
unfolding below_count
below_length n [] = omega arith
below_length n (a ∷ o) = let rest = below_length n o in elim (cases_Bool (ltb a n)) [
  | inl under ↦ rw under (omega arith)
  | inr over ↦ rw over (omega arith)
]

-- where each number below n stands in a list, the list is at least so long
pub counted_below : (n : ℕ) (o : List ℕ) → ((b : ℕ) → b < n → count_of b o ≢ 0) → n ≤ length o
counted_below n o some = let le = below_length n o in let more = below_some n (omega arith) in omega arith
  where
    below_some : (k : ℕ) → k ≤ n → k ≤ below_count k o
    below_some zero le = omega arith
    below_some (suc k) le =
        let rest = below_some k (omega arith) in
        let more = below_more k o in
        let one = some k (omega arith) in omega arith

below_all : (n : ℕ) (o : List ℕ) (k : ℕ) → below_count n o ≡ length o → k < length o → get_or o k 0 < n
unfolding below_count
below_all n [] k all lt = absurd (omega arith)
below_all n (a ∷ o) k all lt = elim (cases_lt a n) [
  | inl below ↦
      let rest : 1 + below_count n o ≡ suc (length o) = rw (lt-ltb a n below) at all in by_place (λ j. below_all n o j (omega arith)) k below lt
  | inr past ↦ absurd (
      let rest : 0 + below_count n o ≡ suc (length o) = rw (le-ltb a n past) at all in
      let le = below_length n o in omega arith)
]
  where
    by_place : ((j : ℕ) → j < length o → get_or o j 0 < n) → (k : ℕ) → a < n → k < suc (length o) → get_or (a ∷ o) k 0 < n
    by_place others zero below inside = below
    by_place others (suc k) below inside = others k (omega arith)

-- what stands in it is a slot
pub slot_below : (o : List ℕ) (k : ℕ) → IsOrder o → k < 40 → get_or o k 0 < 40
slot_below o k is lt = below_all 40 o k (below_each 40 o is.each ∙ sym is.all) (omega (arith, is.all))

-- the order at the start
down : ℕ → List ℕ
down zero = []
down (suc n) = n ∷ down n

down_past : (n b : ℕ) → n ≤ b → count_of b (down n) ≡ 0
unfolding down
down_past zero b le = refl
down_past (suc n) b le = rw (ne_eqb n b (λ e. omega arith)) (zero-add _ ∙ down_past n b (omega arith))

down_each : (n b : ℕ) → b < n → count_of b (down n) ≡ 1
unfolding down
down_each zero b lt = absurd (omega arith)
down_each (suc n) b lt = elim (cases_eq n b) [
  | inl same ↦ rw (eq-eqb n b same) (ap (λ (m : ℕ). 1 + m) (down_past n b (omega arith)))
  | inr ne ↦ rw (ne_eqb n b ne) (zero-add _ ∙ down_each n b (omega (arith, ne)))
]

first_is : first_order ≡ down 40
unfolding down
first_is = refl

pub order_first : IsOrder first_order
order_first = record { all = refl; each = λ b lt. ap (count_of b) first_is ∙ down_each 40 b lt }

-- it has no references
pub victim_unused : (references order : List ℕ) (slot : ℕ) → victim_in references order ≡ Some slot → get_or references slot 0 ≡ 0
victim_unused references [] slot e = absurd (cc e)
victim_unused references (s ∷ order) slot e = by (victim_unused references order slot) (victim_in references order) refl (eqb (get_or references s 0) 0) refl e
  where
    by : (victim_in references order ≡ Some slot → get_or references slot 0 ≡ 0) → (v : Option ℕ) → victim_in references order ≡ v → (free : Bool) → eqb (get_or references s 0) 0 ≡ free → later_or v free s ≡ Some slot → get_or references slot 0 ≡ 0
    by rest (Some later) was free test is = rest (was ∙ is)
    by rest None was true test is = let same : s ≡ slot = cc is in ap (λ (k : ℕ). get_or references k 0) (sym same) ∙ eqb-true _ _ test
    by rest None was false test is = absurd (cc is)

-- it is a slot of the order
pub victim_below : (references order : List ℕ) (slot n : ℕ) → ((k : ℕ) → k < length order → get_or order k 0 < n) → victim_in references order ≡ Some slot → slot < n
victim_below references [] slot n below e = absurd (cc e)
victim_below references (s ∷ order) slot n below e = by (victim_below references order slot n (λ k lt. below (suc k) (omega arith))) (victim_in references order) refl (eqb (get_or references s 0) 0) e
  where
    by : (victim_in references order ≡ Some slot → slot < n) → (v : Option ℕ) → victim_in references order ≡ v → (free : Bool) → later_or v free s ≡ Some slot → slot < n
    by rest (Some later) was free is = rest (was ∙ is)
    by rest None was true is = let same : s ≡ slot = cc is in let first : s < n = below 0 (omega arith) in omega arith
    by rest None was false is = absurd (cc is)

-- each slot stands in it
pub absent : (i : ℕ) (o : List ℕ) → ((k : ℕ) → k < length o → eqb (get_or o k 0) i ≡ false) → count_of i o ≡ 0
absent i [] out = refl
absent i (a ∷ o) out = let here : eqb a i ≡ false = out 0 (omega arith) in rw here (zero-add _ ∙ absent i o (λ k lt. out (suc k) (omega arith)))

pub has_place : (o : List ℕ) (i : ℕ) → IsOrder o → i < 40 → position (λ s. s == i) o ≢ None
has_place o i is lt none = let zero : count_of i o ≡ 0 = absent i o (λ k below. none_passes (λ s. s == i) o k 0 none below) in let one = is.each i lt in omega arith

-- where there is none, each slot of the order has references
pub victim_none : (references order : List ℕ) → victim_in references order ≡ None → (k : ℕ) → k < length order → get_or references (get_or order k 0) 0 ≢ 0
victim_none references [] none k lt = absurd (omega arith)
victim_none references (s ∷ order) none k lt = let f = parts (victim_in references order) refl (eqb (get_or references s 0) 0) refl none in by (victim_none references order f.0) f.1 k lt
  where
    parts : (v : Option ℕ) → victim_in references order ≡ v → (free : Bool) → eqb (get_or references s 0) 0 ≡ free → later_or v free s ≡ None → (victim_in references order ≡ None) × (eqb (get_or references s 0) 0 ≡ false)
    parts (Some later) was free test is = absurd (cc is)
    parts None was true test is = absurd (cc is)
    parts None was false test is = (was, test)

    by : ((j : ℕ) → j < length order → get_or references (get_or order j 0) 0 ≢ 0) → eqb (get_or references s 0) 0 ≡ false → (j : ℕ) → j < suc (length order) → get_or references (get_or (s ∷ order) j 0) 0 ≢ 0
    by rest test zero inside = λ e. both_ways _ test (eq-eqb _ _ e)
    by rest test (suc j) inside = rest j (omega (arith, inside))
