-- The slots of a cache after a change of one, which slot a block has, and which is taken for it.
use Rattle.std.proofs.Common.{◌≡◌, ◌≢◌, inl, inr, ℕ, zero, suc, ◌<◌, ◌==◌, true, false, map, replicate, length, get_or, refl, sym, ◌∙◌, ap, subst, arith, Option, Some, None, length-set, position}
use Rattle.std.proofs.Math.ListN as listn
use Rattle.std.proofs.lemmas.List.Quantifiers.{position-Some}
use Rattle.bcache.specs.Common.{after_acquire, after_acquire_by, after_lock, after_take, both_ways, Buffer, buffer, Buffers, cases_Bool, cases_eq, cases_lt, cond-false, cond-true, empty_buffer, eqb-true, false≢true, found, fresh_buffers, get_or-set_other, get_or-set_same, get_or_past, is_number_in, is_of, IsCache, IsOnce, IsOrder, length-replicate, moved_to_front, references_of, released, taken, victim, with_buffer}
use Rattle.bcache.specs.Laws.{AreAllInUse}
use Rattle.bcache.specs.Lemmas.Order.{none_passes, has_place, order_moved, order_first, slot_below, victim_none, victim_unused, victim_below}

-- a slot after a change of one
pub buffer_same : (c : Buffers) (i : ℕ) (t : Buffer) → i < length c.slots → buffer (with_buffer c i t) i ≡ t
buffer_same c i t lt = get_or-set_same c.slots i t empty_buffer lt

pub buffer_other : (c : Buffers) (i j : ℕ) (t : Buffer) → j ≢ i → buffer (with_buffer c i t) j ≡ buffer c j
buffer_other c i j t other = get_or-set_other c.slots i j t empty_buffer other

-- a fact of the changed slot and of the others is one of all
pub each_buffer : (c : Buffers) (i : ℕ) (t : Buffer) (P : ℕ → Buffer → Type 0) → i < length c.slots → P i t → ((j : ℕ) → j ≢ i → P j (buffer c j)) → (j : ℕ) → P j (buffer (with_buffer c i t) j)
each_buffer c i t P lt here rest j = elim (cases_eq j i) [
  | inl is ↦ subst (λ (k : ℕ). P k (buffer (with_buffer c i t) k)) (sym is) (subst (P i) (sym (buffer_same c i t lt)) here)
  | inr other ↦ subst (P j) (sym (buffer_other c i j t other)) (rest j other)
]

-- a change that leaves the block
pub block_kept : (c : Buffers) (i : ℕ) (t : Buffer) → i < length c.slots → t.block ≡ (buffer c i).block → (j : ℕ) → (buffer (with_buffer c i t) j).block ≡ (buffer c j).block
block_kept c i t lt same = each_buffer c i t (λ j s. s.block ≡ (buffer c j).block) lt same (λ j other. refl)

pub once_kept : (c : Buffers) (i : ℕ) (t : Buffer) → i < length c.slots → t.block ≡ (buffer c i).block → IsOnce c → IsOnce (with_buffer c i t)
once_kept c i t lt same once = record {
  same = λ j k b hj hk.
      once.same j k b (sym (ap (is_number_in b) (block_kept c i t lt same j)) ∙ hj) (sym (ap (is_number_in b) (block_kept c i t lt same k)) ∙ hk);
}

-- one slot with the block that it had
pub cache_kept : (c : Buffers) (i : ℕ) (t : Buffer) → IsCache c → i < 40 → t.block ≡ (buffer c i).block → IsCache (with_buffer c i t)
cache_kept c i t is lt same = record {
  size = length-set c.slots i t ∙ is.size;
  order = is.order;
  once = once_kept c i t (omega (arith, is.size)) same is.once;
}

-- where a block isn't found no slot is for it
pub none_found : (c : Buffers) (b : ℕ) → found c b ≡ None → (j : ℕ) → is_of b (buffer c j) ≡ false
none_found c b none j = elim (cases_lt j (length c.slots)) [
  | inl lt ↦ none_passes (is_of b) c.slots j empty_buffer none lt
  | inr out ↦ ap (is_of b) (get_or_past c.slots j empty_buffer out)
]

pub some_found : (c : Buffers) (b i : ℕ) → found c b ≡ Some i → (i < length c.slots) × (is_of b (buffer c i) ≡ true)
some_found c b i some = let f = position-Some (is_of b) c.slots i empty_buffer some in (f.0, f.1)

pub block_is : (b : ℕ) (o : Option ℕ) → is_number_in b o ≡ true → o ≡ Some b
block_is b None e = absurd (false≢true e)
block_is b (Some d) e = ap (λ (k : ℕ). Some k) (sym (eqb-true b d e))

-- the slot of a block is the one that is found
pub found_at : (c : Buffers) (b i : ℕ) → IsCache c → is_of b (buffer c i) ≡ true → found c b ≡ Some i
found_at c b i is here = by (found c b) refl
  where
    by : (at : Option ℕ) → found c b ≡ at → found c b ≡ Some i
    by None e = absurd (both_ways _ (none_found c b e i) here)
    by (Some j) e = e ∙ ap (λ (k : ℕ). Some k) (is.once.same j i b (some_found c b j e).1 here)

pub is_number_some : (b d : ℕ) (o : Option ℕ) → o ≡ Some d → is_number_in b o ≡ true → b ≡ d
is_number_some b d o is e = eqb-true b d (sym (ap (is_number_in b) is) ∙ e)

-- a slot taken for a block that has none
pub cache_taken : (c : Buffers) (p b i : ℕ) → IsCache c → i < 40 → found c b ≡ None → IsCache (taken c p b i)
cache_taken c p b i is lt none = record {
  size = length-set c.slots i t ∙ is.size;
  order = is.order;
  once = record { same = same };
}
  where
    t : Buffer
    t = record (buffer c i) { block = Some b; valid = false; holder = Some p }

    inside : i < length c.slots
    inside = omega (arith, is.size)

    -- no other slot is for what this one is for now
    alone : (j k d : ℕ) → j ≡ i → k ≢ i → is_of d (buffer (taken c p b i) j) ≡ true → is_of d (buffer (taken c p b i) k) ≡ true → ⊥
    alone j k d ji ki hj hk =
        let bd : b ≡ d = sym (eqb-true d b (sym (ap (is_of d) (buffer_same c i t inside)) ∙ ap (λ (n : ℕ). is_of d (buffer (taken c p b i) n)) (sym ji) ∙ hj)) in
        both_ways _ (none_found c b none k) (ap (λ (n : ℕ). is_of n (buffer c k)) bd ∙ sym (ap (is_of d) (buffer_other c i k t ki)) ∙ hk)

    same : (j k d : ℕ) → is_of d (buffer (taken c p b i) j) ≡ true → is_of d (buffer (taken c p b i) k) ≡ true → j ≡ k
    same j k d hj hk = elim (cases_eq j i) [
      | inl ji ↦ elim (cases_eq k i) [
        | inl ki ↦ ji ∙ sym ki
        | inr ki ↦ absurd (alone j k d ji ki hj hk)
      ]
      | inr ji ↦ elim (cases_eq k i) [
        | inl ki ↦ absurd (alone k j d ki ji hk hj)
        | inr ki ↦ is.once.same j k d (sym (ap (is_of d) (buffer_other c i j t ji)) ∙ hj) (sym (ap (is_of d) (buffer_other c i k t ki)) ∙ hk)
      ]
    ]

pub cache_released : (c : Buffers) (i : ℕ) → IsCache c → i < 40 → IsCache (released c i)
cache_released c i is lt =
    let s = buffer c i in
    let kept = cache_kept c i (record s { holder = None }) is lt refl in
    record {
      size = kept.size;
      order = elim (cases_Bool (s.pins == 0)) [
        | inl free ↦ subst IsOrder (sym (cond-true (s.pins == 0) (moved_to_front c.order i) c.order free)) (order_moved c.order i is.order lt)
        | inr more ↦ subst IsOrder (sym (cond-false (s.pins == 0) (moved_to_front c.order i) c.order more)) is.order
      ];
      once = record { same = kept.once.same };
    }

-- slots that were never taken have no block
pub empty_at : (n j : ℕ) → get_or (replicate n empty_buffer) j empty_buffer ≡ empty_buffer
empty_at zero j = refl
empty_at (suc n) zero = refl
empty_at (suc n) (suc j) = empty_at n j

pub cache_fresh : IsCache fresh_buffers
cache_fresh = record {
  size = length-replicate 40 empty_buffer;
  order = order_first;
  once = record { same = λ i j b hi hj. absurd (false≢true (sym (ap (is_of b) (empty_at 40 i)) ∙ hi)) };
}

pub references_at : (c : Buffers) (i : ℕ) → references_of (buffer c i) ≡ get_or (map references_of c.slots) i 0
references_at c i = sym (listn.get_or-map references_of c.slots i empty_buffer)

-- the victim is a slot without references
pub victim_free : (c : Buffers) (i : ℕ) → IsCache c → victim c ≡ Some i → (i < 40) × (references_of (buffer c i) ≡ 0)
victim_free c i is e = (
  victim_below (map references_of c.slots) c.order i 40 (λ k lt. slot_below c.order k is.order (omega (arith, is.order.all))) e,
  references_at c i ∙ victim_unused (map references_of c.slots) c.order i e,
)

pub cache_acquired : (c : Buffers) (pid b : ℕ) → IsCache c → IsCache (after_acquire c pid b)
cache_acquired c pid b is = by (found c b) refl
  where
    lock : (i : ℕ) → i < 40 → (holder : Option ℕ) → IsCache (after_lock holder c pid i)
    lock i lt None = cache_kept c i (record (buffer c i) { holder = Some pid }) is lt refl
    lock i lt (Some p) = is

    take : found c b ≡ None → (v : Option ℕ) → victim c ≡ v → IsCache (after_take v c pid b)
    take none None e = is
    take none (Some i) e = cache_taken c pid b i is (victim_free c i is e).0 none

    by : (at : Option ℕ) → found c b ≡ at → IsCache (after_acquire_by at c pid b)
    by None e = take e (victim c) refl
    by (Some i) e = lock i (let inside = (some_found c b i e).0 in omega (arith, inside, is.size)) (buffer c i).holder

-- where there is none, each slot has references
pub victim_none_in_use : (c : Buffers) → IsCache c → victim c ≡ None → AreAllInUse c
victim_none_in_use c is none i lt = by (position (λ s. s == i) c.order) refl
  where
    by : (at : Option ℕ) → position (λ s. s == i) c.order ≡ at → references_of (buffer c i) ≢ 0
    by None e = absurd (has_place c.order i is.order lt e)
    by (Some k) e =
        let f = position-Some (λ s. s == i) c.order k 0 e in
        let here : get_or c.order k 0 ≡ i = eqb-true _ _ f.1 in
        λ free. victim_none (map references_of c.slots) c.order none k f.0 (ap (λ (j : ℕ). get_or (map references_of c.slots) j 0) here ∙ sym (references_at c i) ∙ free)
