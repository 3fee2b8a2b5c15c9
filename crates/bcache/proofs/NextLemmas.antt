-- The next slot of a slot: in an order, in the order reversed, and without one of its slots.
use Rattle.std.proofs.Common.{◌≡◌, ◌≢◌, inl, inr, ℕ, zero, suc, ◌+◌, ◌<◌, ◌≤◌, ◌==◌, not, cond, eqb, List, [], ◌∷◌, ◌++◌, length, get_or, refl, sym, ◌∙◌, ap, subst, zero-add, arith, append_assoc}
use Rattle.std.specs.Prelude.{reverse}
use Rattle.std.specs.List.{filter}
use Rattle.std.proofs.lemmas.List.Elements.{filter-append}
use Rattle.bcache.specs.Common.{append-nil, cases_eq, cases_lt, count_of, count_of-append, eq-eqb, first_of, IsOrder, length-reverse, ne_eqb, next_of, reverse-append, reverse-reverse}
use Rattle.bcache.specs.Lemmas.Order.{absent, slot_below}
use Rattle.bcache.proofs.OrderLemmas.{absent_at, others_absent}

-- slots, none of them twice
pub record IsSlots (o : List ℕ) : Type 0 where
  pub once : (b : ℕ) → count_of b o ≤ 1
  pub below : (b : ℕ) → 40 ≤ b → count_of b o ≡ 0

pub slots_of_order : (o : List ℕ) → IsOrder o → IsSlots o
slots_of_order o is = record {
  once = λ b. elim (cases_lt b 40) [
    | inl lt ↦ let one = is.each b lt in omega arith
    | inr high ↦ let none = past b high in omega arith
  ];
  below = past;
}
  where
    past : (b : ℕ) → 40 ≤ b → count_of b o ≡ 0
    past b high = absent b o (λ k lt. ne_eqb _ _ (λ e. let low = slot_below o k is (omega (arith, lt, is.all)) in omega (arith, low, e, high)))

slots_rest : (a : ℕ) (o : List ℕ) → IsSlots (a ∷ o) → IsSlots o
slots_rest a o is = record {
  once = λ b. let one = is.once b in omega arith;
  below = λ b high. let none = is.below b high in omega arith;
}

pub slots_apart : (a : ℕ) (o : List ℕ) → IsSlots (a ∷ o) → count_of a o ≡ 0
slots_apart a o is = let one : 1 + count_of a o ≤ 1 = rw (eq-eqb a a refl) at (is.once a) in omega arith

slots_head : (a : ℕ) (o : List ℕ) → IsSlots (a ∷ o) → a < 40
slots_head a o is = elim (cases_lt a 40) [
  | inl lt ↦ lt
  | inr high ↦ absurd (let none : 1 + count_of a o ≡ 0 = rw (eq-eqb a a refl) at (is.below a high) in omega arith)
]

pub reverse-cons : (a : ℕ) (o : List ℕ) → reverse (a ∷ o) ≡ reverse o ++ a ∷ []
reverse-cons a o = reverse-append (a ∷ []) o

pub count_of-reverse : (b : ℕ) (o : List ℕ) → count_of b (reverse o) ≡ count_of b o
count_of-reverse b [] = refl
count_of-reverse b (a ∷ o) =
    let rest = count_of-reverse b o in
    let both = count_of-append b (reverse o) (a ∷ []) in
    ap (count_of b) (reverse-cons a o) ∙ omega arith

pub slots_reverse : (o : List ℕ) → IsSlots o → IsSlots (reverse o)
slots_reverse o is = record {
  once = λ b. let one = is.once b in let same = count_of-reverse b o in omega arith;
  below = λ b high. let none = is.below b high in let same = count_of-reverse b o in omega arith;
}

pub order_reverse : (o : List ℕ) → IsOrder o → IsOrder (reverse o)
order_reverse o is = record {
  all = length-reverse o ∙ is.all;
  each = λ b lt. count_of-reverse b o ∙ is.each b lt;
}

pub filter-reverse : (s : ℕ) (o : List ℕ) → filter (λ a. not (a == s)) (reverse o) ≡ reverse (filter (λ a. not (a == s)) o)
filter-reverse s [] = refl
filter-reverse s (a ∷ o) =
    ap (filter (λ a. not (a == s))) (reverse-cons a o)
    ∙ filter-append (λ a. not (a == s)) (reverse o) (a ∷ [])
    ∙ ap (λ (l : List ℕ). l ++ filter (λ a. not (a == s)) (a ∷ [])) (filter-reverse s o)
    ∙ last
  where
    last : reverse (filter (λ a. not (a == s)) o) ++ filter (λ a. not (a == s)) (a ∷ []) ≡ reverse (filter (λ a. not (a == s)) (a ∷ o))
    last = elim (cases_eq a s) [
      | inl same ↦ rw (eq-eqb a s same) (append-nil (reverse (filter (λ n. not (n == s)) o)))
      | inr ne ↦ rw (ne_eqb a s ne) (sym (reverse-cons a (filter (λ n. not (n == s)) o)))
    ]

-- the first of a longer list
pub first_stays : (p q : List ℕ) → first_of p ≢ 40 → first_of (p ++ q) ≡ first_of p
first_stays [] q some = absurd (some refl)
first_stays (a ∷ p) q some = refl

-- a slot's next one is another slot of the list, or none
next_other : (o : List ℕ) (i s : ℕ) → s < 40 → count_of s o ≡ 0 → next_of o i ≢ s
next_other [] i s lt none = λ e. omega (arith, e, lt)
next_other (a ∷ o) i s lt none = elim (cases_eq a i) [
  | inl same ↦ rw (eq-eqb a i same) (first_other o (omega arith))
  | inr ne ↦ rw (ne_eqb a i ne) (next_other o i s lt (omega arith))
]
  where
    first_other : (o : List ℕ) → count_of s o ≡ 0 → first_of o ≢ s
    first_other [] none = λ e. omega (arith, e, lt)
    first_other (b ∷ o) none = λ e. let one : 1 + count_of s o ≡ 0 = rw (eq-eqb b s e) at none in omega arith

pub next_most : (o : List ℕ) (i : ℕ) → IsSlots o → next_of o i ≤ 40
next_most [] i is = omega arith
next_most (a ∷ o) i is = elim (cases_eq a i) [
  | inl same ↦ rw (eq-eqb a i same) (first_most o (slots_rest a o is))
  | inr ne ↦ rw (ne_eqb a i ne) (next_most o i (slots_rest a o is))
]
  where
    first_most : (o : List ℕ) → IsSlots o → first_of o ≤ 40
    first_most [] is = omega arith
    first_most (b ∷ o) is = let lt = slots_head b o is in omega arith

-- where it stands, the next one is the first behind
pub next_at : (p : List ℕ) (s : ℕ) (q : List ℕ) → count_of s p ≡ 0 → next_of (p ++ s ∷ q) s ≡ first_of q
next_at [] s q none = rw (eq-eqb s s refl) refl
next_at (a ∷ p) s q none = elim (cases_eq a s) [
  | inl same ↦ absurd (let one : 1 + count_of s p ≡ 0 = rw (eq-eqb a s same) at none in omega arith)
  | inr ne ↦ rw (ne_eqb a s ne) (next_at p s q (omega arith))
]

-- it stays where the list goes on
pub next_stays : (p q : List ℕ) (s : ℕ) → next_of p s ≢ 40 → next_of (p ++ q) s ≡ next_of p s
next_stays [] q s some = absurd (some refl)
next_stays (a ∷ p) q s some = elim (cases_eq a s) [
  | inl same ↦ rw (eq-eqb a s same) (first_stays p q (rw (eq-eqb a s same) at some))
  | inr ne ↦ rw (ne_eqb a s ne) (next_stays p q s (rw (ne_eqb a s ne) at some))
]

-- the last one has none, and then what is put behind it
pub next_end : (p : List ℕ) (s i : ℕ) → IsSlots p → count_of i p ≢ 0 → next_of p i ≡ 40 → next_of (p ++ s ∷ []) i ≡ s
next_end [] s i is some none = absurd (some refl)
next_end (a ∷ p) s i is some none = elim (cases_eq a i) [
  | inl same ↦ rw (eq-eqb a i same) (alone p (slots_rest a p is) (rw (eq-eqb a i same) at none))
  | inr ne ↦ rw (ne_eqb a i ne) (next_end p s i (slots_rest a p is) (λ e. some (rw (ne_eqb a i ne) (zero-add (count_of i p) ∙ e))) (rw (ne_eqb a i ne) at none))
]
  where
    alone : (p : List ℕ) → IsSlots p → first_of p ≡ 40 → first_of (p ++ s ∷ []) ≡ s
    alone [] is none = refl
    alone (b ∷ p) is none = absurd (let lt = slots_head b p is in omega arith)

-- the one that has none is the last one
pub none_next : (p : List ℕ) (i : ℕ) → IsSlots p → count_of i p ≢ 0 → next_of p i ≡ 40 → first_of (reverse p) ≡ i
none_next [] i is some none = absurd (some refl)
none_next (a ∷ p) i is some none = elim (cases_eq a i) [
  | inl same ↦ alone p (slots_rest a p is) (rw (eq-eqb a i same) at none) same
  | inr ne ↦
      let inner : count_of i p ≢ 0 = λ e. some (rw (ne_eqb a i ne) (zero-add (count_of i p) ∙ e)) in
      let last = none_next p i (slots_rest a p is) inner (rw (ne_eqb a i ne) at none) in
      ap first_of (reverse-cons a p) ∙ first_stays (reverse p) (a ∷ []) (λ e. inner ((slots_rest a p is).below i (omega (arith, last, e)))) ∙ last
]
  where
    alone : (p : List ℕ) → IsSlots p → first_of p ≡ 40 → a ≡ i → first_of (reverse (a ∷ p)) ≡ i
    alone [] is none same = same
    alone (b ∷ p) is none same = absurd (let lt = slots_head b p is in omega arith)

-- and the last one has none
pub last_next : (p : List ℕ) (s : ℕ) → IsSlots p → first_of (reverse p) ≡ s → s < 40 → next_of p s ≡ 40
last_next p s is last lt = by (reverse p) refl last
  where
    by : (r : List ℕ) → reverse p ≡ r → first_of r ≡ s → next_of p s ≡ 40
    by [] e first = absurd (omega (arith, first, lt))
    by (b ∷ r) e first =
        let made : p ≡ reverse r ++ b ∷ [] = sym (reverse-reverse p) ∙ ap reverse e ∙ reverse-cons b r in
        let apart : count_of b (reverse r) ≡ 0 = count_of-reverse b r ∙ slots_apart b r (subst IsSlots e (slots_reverse p is)) in
        subst (λ (n : ℕ). next_of p n ≡ 40) first (ap (λ (l : List ℕ). next_of l b) made ∙ next_at (reverse r) b [] apart)

-- read backwards, a slot's next one is the slot whose next one it is
pub next_back : (o : List ℕ) (i s : ℕ) → IsSlots o → i < 40 → s < 40 → next_of o i ≡ s → next_of (reverse o) s ≡ i
next_back [] i s is low lt next = absurd (omega (arith, next, lt))
next_back (a ∷ o) i s is low lt next = elim (cases_eq a i) [
  | inl same ↦ here o is (rw (eq-eqb a i same) at next) same
  | inr ne ↦
      let back = next_back o i s (slots_rest a o is) low lt (rw (ne_eqb a i ne) at next) in
      ap (λ (l : List ℕ). next_of l s) (reverse-cons a o) ∙ next_stays (reverse o) (a ∷ []) s (λ e. omega (arith, e, back, low)) ∙ back
]
  where
    here : (o : List ℕ) → IsSlots (a ∷ o) → first_of o ≡ s → a ≡ i → next_of (reverse (a ∷ o)) s ≡ i
    here [] is first same = absurd (omega (arith, first, lt))
    here (b ∷ o) is first same =
        let apart : count_of b (reverse o) ≡ 0 = count_of-reverse b o ∙ slots_apart b o (slots_rest a (b ∷ o) is) in
        let made : reverse (a ∷ b ∷ o) ≡ reverse o ++ (b ∷ a ∷ []) = reverse-cons a (b ∷ o) ∙ ap (λ (l : List ℕ). l ++ a ∷ []) (reverse-cons b o) ∙ append_assoc (reverse o) (b ∷ []) (a ∷ []) in
        subst (λ (n : ℕ). next_of (reverse (a ∷ b ∷ o)) n ≡ i) first (ap (λ (l : List ℕ). next_of l b) made ∙ next_at (reverse o) b (a ∷ []) apart ∙ same)

-- without a slot: who had it has what it had
pub first_without : (s : ℕ) (o : List ℕ) → s < 40 → IsSlots o → first_of (filter (λ a. not (a == s)) o) ≡ cond (eqb (first_of o) s) (next_of o s) (first_of o)
first_without s [] lt is = rw (ne_eqb 40 s (λ e. omega arith)) refl
first_without s (a ∷ o) lt is = elim (cases_eq a s) [
  | inl same ↦ rw (eq-eqb a s same) (ap first_of (others_absent s o (subst (λ (n : ℕ). count_of n o ≡ 0) same (slots_apart a o is))))
  | inr ne ↦ rw (ne_eqb a s ne) refl
]

pub next_without : (s i : ℕ) (o : List ℕ) → s < 40 → i ≢ s → IsSlots o → next_of (filter (λ a. not (a == s)) o) i ≡ cond (eqb (next_of o i) s) (next_of o s) (next_of o i)
next_without s i [] lt other is = rw (ne_eqb 40 s (λ e. omega arith)) refl
next_without s i (a ∷ o) lt other is = elim (cases_eq a s) [
  | inl same ↦
      let apart : count_of s o ≡ 0 = subst (λ (n : ℕ). count_of n o ≡ 0) same (slots_apart a o is) in
      rw (eq-eqb a s same, ne_eqb a i (λ e. other (sym e ∙ same)), ne_eqb (next_of o i) s (next_other o i s lt apart)) (ap (λ (l : List ℕ). next_of l i) (others_absent s o apart))
  | inr ne ↦ elim (cases_eq a i) [
    | inl here ↦ rw (ne_eqb a s ne, eq-eqb a i here) (first_without s o lt (slots_rest a o is))
    | inr off ↦ rw (ne_eqb a s ne, ne_eqb a i off) (next_without s i o lt other (slots_rest a o is))
  ]
]

-- the next one of the slot at a place is the one at the next place
pub next_placed : (o : List ℕ) (k : ℕ) → IsSlots o → k < length o → next_of o (get_or o k 40) ≡ get_or o (suc k) 40
next_placed [] k is lt = absurd (omega arith)
next_placed (a ∷ o) zero is lt = rw (eq-eqb a a refl) (first_placed o)
  where
    first_placed : (o : List ℕ) → first_of o ≡ get_or o 0 40
    first_placed [] = refl
    first_placed (b ∷ o) = refl
next_placed (a ∷ o) (suc k) is lt =
    let inside : k < length o = omega arith in
    rw (ne_eqb a (get_or o k 40) (λ e. absent_at a k 40 o inside (slots_apart a o is) (sym e))) (next_placed o k (slots_rest a o is) inside)
