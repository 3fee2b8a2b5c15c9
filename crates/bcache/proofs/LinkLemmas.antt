-- The links of an order: what a walk reads, and what a move to the front makes of them.
use Rattle.std.proofs.Common.{◌≡◌, ◌≢◌, inl, inr, ℕ, zero, suc, ◌+◌, ◌<◌, ◌≤◌, ◌==◌, not, Bool, true, false, cond, eqb, List, [], ◌∷◌, ◌++◌, replicate, length, get_or, set, drop, refl, sym, ◌∙◌, ap, subst, zero-add, arith, length-set}
use Rattle.std.specs.Prelude.{reverse}
use Rattle.std.specs.List.{filter}
use Rattle.std.proofs.Math.ListN.{drop_of_length-le}
use Rattle.std.proofs.Math.Seq.{drop-cons}
use Rattle.bcache.specs.Common.{cases_Bool, cases_eq, cases_lt, changed_entries, count_of, differences, eq-eqb, ext_get_or, first_of, first_order, get_or-map-range_with_len, get_or-set_other, get_or-set_same, get_or_default, get_or_past, IsLinks, IsOrder, length-map-range_with_len, linked_in_front, links_of, moved_to_front, ne_eqb, next_of, order_after_release, order_of, reverse-reverse, unlinked, walk}
use Rattle.bcache.specs.declared.links.Links.{Links}
use Rattle.bcache.specs.Links.{table_of, walk_of}
use Rattle.bcache.specs.Lemmas.Order.{slot_below, order_moved, count_of-others, count_of-without}
use Rattle.bcache.proofs.OrderLemmas.{others_absent}
use Rattle.bcache.proofs.NextLemmas.{IsSlots, slots_of_order, slots_reverse, slots_apart, order_reverse, reverse-cons, count_of-reverse, filter-reverse, first_stays, next_most, next_at, next_stays, next_end, none_next, last_next, next_back, first_without, next_without, next_placed}

-- a table's entries
pub length-table : (o : List ℕ) → length (table_of o) ≡ 40
unfolding table_of
length-table o = length-map-range_with_len (next_of o) 0 40

pub table_at : (o : List ℕ) (i : ℕ) → i < 40 → get_or (table_of o) i 0 ≡ next_of o i
unfolding table_of
table_at o i lt = get_or-map-range_with_len (next_of o) 0 40 i i 0 lt (zero-add i)

table_is : (t o : List ℕ) → length t ≡ 40 → ((i : ℕ) → i < 40 → get_or t i 0 ≡ next_of o i) → t ≡ table_of o
table_is t o size same = ext_get_or 0 t (table_of o) (size ∙ sym (length-table o)) (λ i lt. same i (omega (arith, lt, size)) ∙ sym (table_at o i (omega (arith, lt, size))))

-- what a walk reads
first_placed : (o : List ℕ) → first_of o ≡ get_or o 0 40
first_placed [] = refl
first_placed (a ∷ o) = refl

pub placed_low : (o : List ℕ) (k : ℕ) → IsOrder o → k < 40 → get_or o k 40 < 40
placed_low o k is lt = let low = slot_below o k is lt in let same = get_or_default o k 40 0 (omega (arith, lt, is.all)) in omega arith

first_low : (o : List ℕ) → IsOrder o → first_of o < 40
first_low o is = let low = placed_low o 0 is (omega arith) in let same = first_placed o in omega arith

walk_drop : (o : List ℕ) (n k : ℕ) → IsOrder o → length o ≤ k + n → walk_of n (table_of o) (get_or o k 40) ≡ drop k o
unfolding walk_of
walk_drop o zero k is le = sym (drop_of_length-le o {i = k} (omega arith))
walk_drop o (suc n) k is le = elim (cases_lt k (length o)) [
  | inl lt ↦
      let low = placed_low o k is (omega (arith, lt, is.all)) in
      rw (ne_eqb (get_or o k 40) 40 (λ e. omega (arith, e, low)))
      (ap (λ (l : List ℕ). get_or o k 40 ∷ l) (ap (walk_of n (table_of o)) (table_at o (get_or o k 40) low ∙ next_placed o k (slots_of_order o is) lt) ∙ walk_drop o n (suc k) is (omega (arith, le)))
      ∙ sym (drop-cons o k 40 lt))
  | inr past ↦ rw (get_or_past o k 40 past) (sym (drop_of_length-le o {i = k} past))
]

pub order_read : (o : List ℕ) → IsOrder o → walk (table_of o) (first_of o) ≡ o
order_read o is = ap (walk_of 41 (table_of o)) (first_placed o) ∙ walk_drop o 41 0 is (omega (arith, is.all))

pub links_made : (l : Links) (o : List ℕ) → IsOrder o → l ≡ links_of o → (order_of l ≡ o) × IsLinks l
links_made l o is same =
    let read : order_of l ≡ o = ap order_of same ∙ order_read o is in
    (read, record { order = subst IsOrder (sym read) is; same = same ∙ ap links_of (sym read) })

-- the slots that are left without one
slots_without : (s : ℕ) (o : List ℕ) → IsSlots o → IsSlots (filter (λ a. not (a == s)) o)
slots_without s o is = record {
  once = λ b. elim (cases_eq b s) [
    | inl same ↦ subst (λ (n : ℕ). count_of n (filter (λ a. not (a == s)) o) ≤ 1) (sym same) (let none = count_of-without s o in omega arith)
    | inr other ↦ let same = count_of-others b s o other in let one = is.once b in omega arith
  ];
  below = λ b high. elim (cases_eq b s) [
    | inl same ↦ subst (λ (n : ℕ). count_of n (filter (λ a. not (a == s)) o) ≡ 0) (sym same) (count_of-without s o)
    | inr other ↦ count_of-others b s o other ∙ is.below b high
  ];
}

-- the facts of a slot that stands behind another one
record IsBehind (o : List ℕ) (s a b : ℕ) : Type 0 where
  pub order : IsOrder o
  pub low : s < 40
  pub not_first : first_of o ≢ s
  pub after : a ≡ next_of o s
  pub before : b ≡ next_of (reverse o) s

module _ (o : List ℕ) (s a b : ℕ) (is : IsBehind o s a b) where
  abbrev r : List ℕ
  r = reverse o

  -- the others, from the front and from the end
  abbrev rest : List ℕ → List ℕ
  rest l = filter (λ n. not (n == s)) l

  slots : IsSlots o
  slots = slots_of_order o is.order

  back : IsSlots r
  back = slots_reverse o slots

  abbrev first : ℕ
  first = first_of o

  first_inside : first < 40
  first_inside = first_low o is.order

  stands : (i : ℕ) → i < 40 → count_of i o ≢ 0
  stands i lt = let one = is.order.each i lt in omega arith

  stands_back : (i : ℕ) → i < 40 → count_of i r ≢ 0
  stands_back i lt = let one = is.order.each i lt in let same = count_of-reverse i o in omega arith

  -- who has none before it is the first
  none_before : (i : ℕ) → i < 40 → next_of r i ≡ 40 → first ≡ i
  none_before i lt none = sym (ap first_of (reverse-reverse o)) ∙ none_next r i back (stands_back i lt) none

  has_before : next_of r s ≢ 40
  has_before = λ e. is.not_first (none_before s is.low e)

  before_inside : b < 40
  before_inside = let most = next_most r s back in let some = has_before in omega (arith, is.before)

  -- the slot before it is the one that it comes after
  after_before : next_of o b ≡ s
  after_before = ap (λ (l : List ℕ). next_of l b) (sym (reverse-reverse o)) ∙ next_back r s b back is.low before_inside (sym is.before)

  before_only : (i : ℕ) → i < 40 → next_of o i ≡ s → i ≡ b
  before_only i lt next = sym (next_back o i s slots lt is.low next) ∙ sym is.before

  after_only : (i : ℕ) → i < 40 → next_of r i ≡ s → i ≡ a
  after_only i lt next = sym (next_back r i s back lt is.low next) ∙ ap (λ (l : List ℕ). next_of l s) (reverse-reverse o) ∙ sym is.after

  before_after : a < 40 → next_of r a ≡ s
  before_after lt = next_back o s a slots is.low lt (sym is.after)

  first_rest : first_of (rest o) ≡ first
  first_rest = first_without s o is.low slots ∙ rw (ne_eqb first s is.not_first) refl

  -- the table of the slots after each slot
  after_at : (i : ℕ) → i < 40 → get_or (set (set (table_of o) b a) s first) i 0 ≡ next_of (moved_to_front o s) i
  after_at i lt = elim (cases_eq i s) [
    | inl here ↦ subst (λ (n : ℕ). get_or (set (set (table_of o) b a) s first) n 0 ≡ next_of (moved_to_front o s) n) (sym here) itself
    | inr other ↦ get_or-set_other (set (table_of o) b a) s i first 0 other ∙ others other ∙ sym (rw (ne_eqb s i (λ e. other (sym e))) refl)
  ]
    where
      itself : get_or (set (set (table_of o) b a) s first) s 0 ≡ next_of (moved_to_front o s) s
      itself =
          get_or-set_same (set (table_of o) b a) s first 0 (omega (arith, length-set (table_of o) b a, length-table o, is.low))
          ∙ sym first_rest ∙ sym (next_at [] s (rest o) refl)

      others : i ≢ s → get_or (set (table_of o) b a) i 0 ≡ next_of (rest o) i
      others other = elim (cases_eq i b) [
        | inl here ↦
            subst (λ (n : ℕ). get_or (set (table_of o) b a) n 0 ≡ next_of o s) (sym here) (get_or-set_same (table_of o) b a 0 (omega (arith, length-table o, before_inside)) ∙ is.after)
            ∙ sym (next_without s i o is.low other slots ∙ rw (eq-eqb (next_of o i) s (ap (next_of o) here ∙ after_before)) refl)
        | inr off ↦
            get_or-set_other (table_of o) b i a 0 off ∙ table_at o i lt
            ∙ sym (next_without s i o is.low other slots ∙ rw (ne_eqb (next_of o i) s (λ e. off (before_only i lt e))) refl)
      ]

  after_moved : set (set (table_of o) b a) s first ≡ table_of (moved_to_front o s)
  after_moved = table_is _ (moved_to_front o s) (length-set (set (table_of o) b a) s first ∙ length-set (table_of o) b a ∙ length-table o) after_at

  -- the order read from its end
  moved_back : reverse (moved_to_front o s) ≡ rest r ++ s ∷ []
  moved_back = reverse-cons s (rest o) ∙ ap (λ (l : List ℕ). l ++ s ∷ []) (sym (filter-reverse s o))

  -- the table of the slots before each slot, where the slot was taken out
  abbrev taken_out : List ℕ
  taken_out = cond (eqb a 40) (table_of r) (set (table_of r) a b)

  length-taken_out : length taken_out ≡ 40
  length-taken_out = elim (cases_Bool (eqb a 40)) [
    | inl none ↦ rw none (length-table r)
    | inr some ↦ rw some (length-set (table_of r) a b ∙ length-table r)
  ]

  taken_out_at : (i : ℕ) → i < 40 → i ≢ s → i ≢ first → (get_or taken_out i 0 ≡ next_of (rest r) i) × (next_of (rest r) i ≢ 40)
  taken_out_at i lt other behind = elim (cases_eq (next_of r i) s) [
    | inl neighbour ↦
        let here : i ≡ a = after_only i lt neighbour in
        let value : next_of (rest r) i ≡ next_of r s = next_without s i r is.low other back ∙ rw (eq-eqb (next_of r i) s neighbour) refl in
        (subst (λ (n : ℕ). get_or taken_out n 0 ≡ b) (sym here) (at_after (omega (arith, here, lt))) ∙ is.before ∙ sym value, λ e. has_before (sym value ∙ e))
    | inr off ↦
        let value : next_of (rest r) i ≡ next_of r i = next_without s i r is.low other back ∙ rw (ne_eqb (next_of r i) s off) refl in
        (off_after (λ e. off (ap (next_of r) e ∙ before_after (omega (arith, sym e, lt)))) ∙ sym value, λ e. behind (sym (none_before i lt (sym value ∙ e))))
  ]
    where
      at_after : a < 40 → get_or taken_out a 0 ≡ b
      at_after low = rw (ne_eqb a 40 (λ e. omega (arith, e, low))) (get_or-set_same (table_of r) a b 0 (omega (arith, length-table r, low)))

      off_after : i ≢ a → get_or taken_out i 0 ≡ next_of r i
      off_after off = elim (cases_Bool (eqb a 40)) [
        | inl none ↦ rw none (table_at r i lt)
        | inr some ↦ rw some (get_or-set_other (table_of r) a i b 0 off ∙ table_at r i lt)
      ]

  before_at : (i : ℕ) → i < 40 → get_or (set (set taken_out s 40) first s) i 0 ≡ next_of (rest r ++ s ∷ []) i
  before_at i lt = elim (cases_eq i first) [
    | inl here ↦ subst (λ (n : ℕ). get_or (set (set taken_out s 40) first s) n 0 ≡ next_of (rest r ++ s ∷ []) n) (sym here) at_first
    | inr behind ↦ get_or-set_other (set taken_out s 40) first i s 0 behind ∙ elim (cases_eq i s) [
      | inl here ↦ subst (λ (n : ℕ). get_or (set taken_out s 40) n 0 ≡ next_of (rest r ++ s ∷ []) n) (sym here) itself
      | inr other ↦
          let f = taken_out_at i lt other behind in
          get_or-set_other taken_out s i 40 0 other ∙ f.0 ∙ sym (next_stays (rest r) (s ∷ []) i f.1)
    ]
  ]
    where
      at_first : get_or (set (set taken_out s 40) first s) first 0 ≡ next_of (rest r ++ s ∷ []) first
      at_first =
          let none : next_of r first ≡ 40 = last_next r first back (ap first_of (reverse-reverse o)) first_inside in
          let still : next_of (rest r) first ≡ 40 = next_without s first r is.low is.not_first back ∙ rw (none, ne_eqb 40 s (λ e. omega (arith, e, is.low))) refl in
          get_or-set_same (set taken_out s 40) first s 0 (omega (arith, length-set taken_out s 40, length-taken_out, first_inside))
          ∙ sym (next_end (rest r) s first (slots_without s r back) (λ e. stands_back first first_inside (sym (count_of-others first s r is.not_first) ∙ e)) still)

      itself : get_or (set taken_out s 40) s 0 ≡ next_of (rest r ++ s ∷ []) s
      itself = get_or-set_same taken_out s 40 0 (omega (arith, length-taken_out, is.low)) ∙ sym (next_at (rest r) s [] (count_of-without s r))

  before_moved : set (set taken_out s 40) first s ≡ table_of (reverse (moved_to_front o s))
  before_moved =
      table_is _ (rest r ++ s ∷ []) (length-set (set taken_out s 40) first s ∙ length-set taken_out s 40 ∙ length-taken_out) before_at
      ∙ ap table_of (sym moved_back)

  -- the last slot
  last_moved : cond (eqb a 40) b (first_of r) ≡ first_of (reverse (moved_to_front o s))
  last_moved = elim (cases_eq (first_of r) s) [
    | inl last ↦
        let value : first_of (rest r) ≡ next_of r s = first_without s r is.low back ∙ rw (eq-eqb (first_of r) s last) refl in
        rw (eq-eqb a 40 (is.after ∙ last_next o s slots last is.low)) (is.before ∙ sym value ∙ kept (λ e. has_before (sym value ∙ e)))
    | inr other ↦
        let value : first_of (rest r) ≡ first_of r = first_without s r is.low back ∙ rw (ne_eqb (first_of r) s other) refl in
        let low = first_low r (order_reverse o is.order) in
        rw (ne_eqb a 40 (λ e. other (none_next o s slots (stands s is.low) (sym is.after ∙ e)))) (sym value ∙ kept (λ e. omega (arith, low, sym value ∙ e)))
  ]
    where
      kept : first_of (rest r) ≢ 40 → first_of (rest r) ≡ first_of (reverse (moved_to_front o s))
      kept some = sym (first_stays (rest r) (s ∷ []) some) ∙ ap first_of (sym moved_back)

links_by : (before before' after after' : List ℕ) (first last last' : ℕ) → before ≡ before' → after ≡ after' → last ≡ last' →
    let l : Links = record { before = before; after = after; first = first; last = last } in
    let m : Links = record { before = before'; after = after'; first = first; last = last' } in l ≡ m
links_by before before' after after' first last last' p q e = cc

-- a slot that is not the first, moved to the front
pub links_moved : (o : List ℕ) (s : ℕ) → IsOrder o → s < 40 → first_of o ≢ s → linked_in_front (unlinked (links_of o) s) s ≡ links_of (moved_to_front o s)
links_moved o s is lt behind =
    links_by _ _ _ _ s _ _
    (before_moved o s (get_or (table_of o) s 0) (get_or (table_of (reverse o)) s 0) it)
    (after_moved o s (get_or (table_of o) s 0) (get_or (table_of (reverse o)) s 0) it)
    (last_moved o s (get_or (table_of o) s 0) (get_or (table_of (reverse o)) s 0) it)
  where
    it : IsBehind o s (get_or (table_of o) s 0) (get_or (table_of (reverse o)) s 0)
    it = record { order = is; low = lt; not_first = behind; after = table_at o s lt; before = table_at (reverse o) s lt }

-- the first one stays
pub first_moved : (o : List ℕ) (s : ℕ) → IsOrder o → s < 40 → first_of o ≡ s → moved_to_front o s ≡ o
first_moved [] s is lt first = absurd (omega (arith, first, lt))
first_moved (a ∷ o) s is lt first =
    rw (eq-eqb a s first) (
    let apart : count_of s o ≡ 0 = subst (λ (n : ℕ). count_of n o ≡ 0) first (slots_apart a o (slots_of_order (a ∷ o) is)) in
    ap (λ (l : List ℕ). s ∷ l) (others_absent s o apart) ∙ ap (λ (n : ℕ). n ∷ o) (sym first))

-- what stands in the tables of an order
pub first_inside_of : (l : Links) → IsLinks l → l.first < 40
first_inside_of l is = let low = first_low (order_of l) is.order in let same = ap (λ (k : Links). k.first) is.same in omega arith

pub after_inside_of : (l : Links) (s : ℕ) → IsLinks l → s < 40 → get_or l.after s 0 ≤ 40
after_inside_of l s is lt =
    let same = ap (λ (k : Links). get_or k.after s 0) is.same ∙ table_at (order_of l) s lt in
    let most = next_most (order_of l) s (slots_of_order (order_of l) is.order) in omega arith

pub before_inside_of : (l : Links) (s : ℕ) → IsLinks l → s < 40 → l.first ≢ s → get_or l.before s 0 < 40
before_inside_of l s is lt behind =
    let o = order_of l in
    let same : get_or l.before s 0 ≡ get_or (table_of (reverse o)) s 0 = ap (λ (k : Links). get_or k.before s 0) is.same in
    let low = before_inside o s (get_or (table_of o) s 0) (get_or (table_of (reverse o)) s 0) (record {
      order = is.order;
      low = lt;
      not_first = λ e. behind (ap (λ (k : Links). k.first) is.same ∙ e);
      after = table_at o s lt;
      before = table_at (reverse o) s lt;
    }) in
    omega arith

-- a step of a walk
pub after_placed : (l : Links) (k : ℕ) → IsLinks l → k < 40 → get_or l.after (get_or (order_of l) k 40) 0 ≡ get_or (order_of l) (suc k) 40
after_placed l k is lt =
    let o = order_of l in
    ap (λ (m : Links). get_or m.after (get_or o k 40) 0) is.same ∙ table_at o (get_or o k 40) (placed_low o k is.order lt)
    ∙ next_placed o k (slots_of_order o is.order) (omega (arith, lt, is.order.all))

pub before_placed : (l : Links) (k : ℕ) → IsLinks l → k < 40 → get_or l.before (get_or (reverse (order_of l)) k 40) 0 ≡ get_or (reverse (order_of l)) (suc k) 40
before_placed l k is lt =
    let r = reverse (order_of l) in
    let back = order_reverse (order_of l) is.order in
    ap (λ (m : Links). get_or m.before (get_or r k 40) 0) is.same ∙ table_at r (get_or r k 40) (placed_low r k back lt)
    ∙ next_placed r k (slots_of_order r back) (omega (arith, lt, back.all))

pub last_is_placed : (l : Links) → IsLinks l → l.last ≡ get_or (reverse (order_of l)) 0 40
last_is_placed l is = ap (λ (m : Links). m.last) is.same ∙ first_placed (reverse (order_of l))

-- the tables at the start, after so many steps of a loop
abbrev pub before_made : ℕ → List ℕ
before_made zero = replicate 40 40
before_made (suc n) = set (before_made n) n (n + 1)

abbrev pub after_made : ℕ → List ℕ
after_made zero = replicate 40 40
after_made (suc n) = set (after_made n) (n + 1) n

before_first : before_made 39 ≡ table_of (reverse first_order)
unfolding table_of
before_first = refl

after_first : after_made 39 ≡ table_of first_order
unfolding table_of
after_first = refl

pub links_first : (before after : List ℕ) (n : ℕ) → before ≡ before_made n → after ≡ after_made n → 39 ≤ n → n ≤ 39 →
    let l : Links = record { before = before; after = after; first = 39; last = 0 } in l ≡ links_of first_order
links_first before after n b a low high =
    let all : n ≡ 39 = omega (arith, low, high) in
    links_by before (table_of (reverse first_order)) after (table_of first_order) 39 0 0
    (b ∙ ap before_made all ∙ before_first) (a ∙ ap after_made all ∙ after_first) refl

-- a write changes one entry at most
one_more : (xs ys : List ℕ) (i v : ℕ) → differences xs (set ys i v) ≤ 1 + differences xs ys
one_more [] ys i v = let same = length-set ys i v in omega arith
one_more (x ∷ xs) [] i v = omega arith
one_more (x ∷ xs) (y ∷ ys) zero v = let most = at_most (eqb x v) in omega arith
  where
    at_most : (same : Bool) → cond same 0 1 ≤ 1
    at_most true = omega arith
    at_most false = omega arith
one_more (x ∷ xs) (y ∷ ys) (suc i) v = let more = one_more xs ys i v in omega arith

none_more : (xs : List ℕ) → differences xs xs ≡ 0
none_more [] = refl
none_more (x ∷ xs) = rw (eq-eqb x x refl) (zero-add _ ∙ none_more xs)

pub nothing_changed : (l : Links) → changed_entries l l ≡ 0
nothing_changed l = let b = none_more l.before in let a = none_more l.after in omega arith

-- a move changes five entries at most: three of one table, and two of the other
pub few_changed : (l : Links) (s : ℕ) → changed_entries l (linked_in_front (unlinked l s) s) ≤ 5
few_changed l s =
    let out = cond (eqb after 40) l.before (set l.before after before) in
    let b1 = taken in
    let b2 = one_more l.before out s 40 in
    let b3 = one_more l.before (set out s 40) l.first s in
    let a0 = none_more l.after in
    let a1 = one_more l.after l.after before after in
    let a2 = one_more l.after (set l.after before after) s l.first in
    omega arith
  where
    before : ℕ
    before = get_or l.before s 0

    after : ℕ
    after = get_or l.after s 0

    taken : differences l.before (cond (eqb after 40) l.before (set l.before after before)) ≤ 1
    taken = let none = none_more l.before in elim (cases_Bool (eqb after 40)) [
      | inl end ↦ rw end (omega arith)
      | inr on ↦ rw on (let one = one_more l.before l.before after before in omega arith)
    ]

-- what the code makes
pub record IsMoved (l m : Links) (s : ℕ) : Type 0 where
  pub front : order_of m ≡ moved_to_front (order_of l) s
  pub linked : IsLinks m
  pub entries : changed_entries l m ≤ 5

pub moved : (l m : Links) (s : ℕ) → IsLinks l → s < 40 → l.first ≢ s → m ≡ linked_in_front (unlinked l s) s → IsMoved l m s
moved l m s is lt behind made =
    let o = order_of l in
    let first : first_of o ≢ s = λ e. behind (ap (λ (k : Links). k.first) is.same ∙ e) in
    let same : m ≡ links_of (moved_to_front o s) = made ∙ ap (λ (k : Links). linked_in_front (unlinked k s) s) is.same ∙ links_moved o s is.order lt first in
    let read = links_made m (moved_to_front o s) (order_moved o s is.order lt) same in
    record { front = read.0; linked = read.1; entries = subst (λ (k : Links). changed_entries l k ≤ 5) (sym made) (few_changed l s) }

-- of an order's links a release changes five entries at most
pub release_changes : (o : List ℕ) (s pins : ℕ) → IsOrder o → s < 40 → changed_entries (links_of o) (links_of (order_after_release o s pins)) ≤ 5
release_changes o s pins is lt = elim (cases_Bool (eqb pins 0)) [
  | inl none ↦ rw none (elim (cases_eq (first_of o) s) [
    | inl first ↦ rw (first_moved o s is lt first) (let same = nothing_changed (links_of o) in omega arith)
    | inr behind ↦ subst (λ (k : Links). changed_entries (links_of o) k ≤ 5) (links_moved o s is lt behind) (few_changed (links_of o) s)
  ])
  | inr some ↦ rw some (let same = nothing_changed (links_of o) in omega arith)
]

-- what the links of a cache show
pub walked : (l : Links) (o : List ℕ) → IsOrder o → l ≡ links_of o → walk l.after l.first ≡ o
walked l o is same = ap order_of same ∙ order_read o is

pub walked_back : (l : Links) (o : List ℕ) → IsOrder o → l ≡ links_of o → walk l.before l.last ≡ reverse o
walked_back l o is same = ap (λ (m : Links). walk m.before m.last) same ∙ order_read (reverse o) (order_reverse o is)

pub few_on_release : (l : Links) (o : List ℕ) (s pins : ℕ) → IsOrder o → s < 40 → l ≡ links_of o → changed_entries l (links_of (order_after_release o s pins)) ≤ 5
few_on_release l o s pins is lt same = subst (λ (m : Links). changed_entries m (links_of (order_after_release o s pins)) ≤ 5) (sym same) (release_changes o s pins is lt)
