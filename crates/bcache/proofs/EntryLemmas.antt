-- The entries of the table allow each slot of a block.
use Rattle.std.proofs.Common.{◌≡◌, ◌≢◌, inl, inr, ℕ, ◌<◌, ◌≤◌, ◌%◌, ◌==◌, Bool, true, false, List, length, get_or, set, refl, sym, ◌∙◌, ap, subst, arith, Option, Some, None, cond}
use Rattle.std.proofs.lemmas.List.{length-set}
use Rattle.std.specs.Prelude.{if◌then◌else◌}
use Rattle.bcache.specs.Common.{both_ways, Buffer, buffer, Buffers, cases_Bool, cases_eq, cases_lt, empty_buffer, eq-eqb, false≢true, found, fresh_buffers, get_or-set_other, get_or-set_same, get_or_past, is_number_in, is_of, le-leb, lt-leb, moved_to_front, with_buffer}
use Rattle.bcache.specs.Entries.{Allows, IsEntered, entry_for, is_shared, shares, with_slot}
use Rattle.bcache.specs.Lemmas.Slots.{block_is, found_at, is_number_some, block_kept, each_buffer, empty_at, cache_fresh, cache_kept, some_found}
use Rattle.bcache.proofs.SlotLemmas.{cache_taken_from, cache_unheld}

-- a slot that keeps its block
pub entered_kept : (ts : List ℕ) (c : Buffers) (i : ℕ) (t : Buffer) → IsEntered ts c → i < 40 → t.block ≡ (buffer c i).block → IsEntered ts (with_buffer c i t)
entered_kept ts c i t is lt same = record {
  cache = cache_kept c i t is.cache lt same;
  many = is.many;
  each = λ j b here. is.each j b (sym (ap (is_number_in b) (block_kept c i t (omega (arith, is.cache.size)) same j)) ∙ here);
}

-- a slot that is released
pub entered_unheld : (ts : List ℕ) (c : Buffers) (i : ℕ) (s : Buffer) (o : List ℕ) → IsEntered ts c → i < 40 → s ≡ buffer c i → o ≡ moved_to_front c.order i → IsEntered ts (record { slots = set c.slots i (record s { holder = None }); order = o })
entered_unheld ts c i s o is lt e moved =
    let kept = entered_kept ts c i (record s { holder = None }) is lt (ap (λ (u : Buffer). u.block) e) in
    record { cache = cache_unheld c i s o is.cache lt e moved; many = is.many; each = λ j b here. kept.each j b here }

-- who has a block is one of the slots
has_block : (c : Buffers) (d j : ℕ) → is_of d (buffer c j) ≡ true → j < length c.slots
has_block c d j here = elim (cases_lt j (length c.slots)) [
  | inl lt ↦ lt
  | inr out ↦ absurd (false≢true (sym (ap (is_of d) (get_or_past c.slots j empty_buffer out)) ∙ here))
]

-- the slot of the block that is entered
own : (ts : List ℕ) (c : Buffers) (b i : ℕ) → length ts ≡ 8192 → Allows (entry_for (with_slot ts c.slots b i) b) i
own ts c b i many = by (is_shared c.slots (entry_for ts b) b)
  where
    by : (shared : Bool) → Allows (entry_for (set ts (b % 8192) (cond shared 40 i)) b) i
    by true low = let same = get_or-set_same ts (b % 8192) 40 0 (omega (arith, many)) in absurd (omega (arith, same, low))
    by false low = get_or-set_same ts (b % 8192) i 0 (omega (arith, many))

-- an entry that is the slot of a block is shared with each block that has the same entry
seen_as_shared : (c : Buffers) (b j d : ℕ) → is_of d (buffer c j) ≡ true → d % 8192 ≡ b % 8192 → is_shared c.slots j b ≡ true
seen_as_shared c b j d has same =
    rw (lt-leb (length c.slots) j (has_block c d j has)) (ap (shares b) (block_is d (buffer c j).block has) ∙ eq-eqb (d % 8192) (b % 8192) same)

-- the slot of another one
others : (ts : List ℕ) (c : Buffers) (b i j d : ℕ) → length ts ≡ 8192 → length c.slots ≡ 40 → is_of d (buffer c j) ≡ true → Allows (entry_for ts d) j → Allows (entry_for (with_slot ts c.slots b i) d) j
others ts c b i j d many size has allows = elim (cases_eq (d % 8192) (b % 8192)) [
  | inl same ↦ subst (λ (n : ℕ). Allows (get_or (with_slot ts c.slots b i) n 0) j) (sym same) (sharing same (is_shared c.slots (entry_for ts b) b) refl)
  | inr off ↦ λ low. let as_was = get_or-set_other ts (b % 8192) (d % 8192) (cond (is_shared c.slots (entry_for ts b) b) 40 i) 0 off in as_was ∙ allows (omega (arith, as_was, low))
]
  where
    shared : d % 8192 ≡ b % 8192 → is_shared c.slots (entry_for ts b) b ≡ true
    shared same = elim (cases_lt (entry_for ts b) 40) [
      | inl low ↦
          let at : entry_for ts d ≡ entry_for ts b = ap (λ (n : ℕ). get_or ts n 0) same in
          let is : j ≡ entry_for ts b = sym (allows (omega (arith, at, low))) ∙ at in
          subst (λ (n : ℕ). is_shared c.slots n b ≡ true) is (seen_as_shared c b j d has same)
      | inr high ↦ rw (le-leb (length c.slots) (entry_for ts b) (omega (arith, high, size))) refl
    ]

    sharing : d % 8192 ≡ b % 8192 → (is : Bool) → is_shared c.slots (entry_for ts b) b ≡ is → Allows (get_or (set ts (b % 8192) (cond is 40 i)) (b % 8192) 0) j
    sharing same true so low = let several = get_or-set_same ts (b % 8192) 40 0 (omega (arith, many)) in absurd (omega (arith, several, low))
    sharing same false not low = absurd (both_ways _ not (shared same))

-- a slot that is taken for another block
pub entered_taken : (ts : List ℕ) (c : Buffers) (p b i : ℕ) (s : Buffer) → IsEntered ts c → i < 40 → found c b ≡ None → s ≡ buffer c i → IsEntered (with_slot ts c.slots b i) (with_buffer c i (record s { block = Some b; valid = false; holder = Some p }))
entered_taken ts c p b i s is lt none e = record {
  cache = cache_taken_from c p b i s is.cache lt none e;
  many = length-set ts (b % 8192) (cond (is_shared c.slots (entry_for ts b) b) 40 i) ∙ is.many;
  each = each (record s { block = Some b; valid = false; holder = Some p }) refl;
}
  where
    each : (t : Buffer) → t.block ≡ Some b → (j d : ℕ) → is_of d (buffer (with_buffer c i t) j) ≡ true → Allows (entry_for (with_slot ts c.slots b i) d) j
    each t taken j d = each_buffer c i t (λ k u. is_of d u ≡ true → Allows (entry_for (with_slot ts c.slots b i) d) k) (omega (arith, lt, is.cache.size))
        (λ here. subst (λ (n : ℕ). Allows (entry_for (with_slot ts c.slots b i) n) i) (sym (is_number_some d b t.block taken here)) (own ts c b i is.many))
        (λ k other here. others ts c b i k d is.many is.cache.size here (is.each k d here)) j

-- slots that were never taken may have any entries
pub entered_fresh : (ts : List ℕ) → length ts ≡ 8192 → IsEntered ts fresh_buffers
entered_fresh ts many = record {
  cache = cache_fresh;
  many = many;
  each = λ i b here. absurd (false≢true (sym (ap (is_of b) (empty_at 40 i)) ∙ here));
}

-- where the slot of a block's entry isn't its, it has none
pub none_of : (ts : List ℕ) (c : Buffers) (b : ℕ) → IsEntered ts c → entry_for ts b < 40 → is_of b (buffer c (entry_for ts b)) ≡ false → found c b ≡ None
none_of ts c b is low not = by (found c b) refl
  where
    by : (at : Option ℕ) → found c b ≡ at → found c b ≡ None
    by None e = e
    by (Some i) e =
        let f = some_found c b i e in
        let at : entry_for ts b ≡ i = is.each i b f.1 low in
        absurd (both_ways _ not (subst (λ (n : ℕ). is_of b (buffer c n) ≡ true) (sym at) f.1))

-- where it is, that is its slot
pub slot_of_entry : (ts : List ℕ) (c : Buffers) (b : ℕ) (slots : List Buffer) → IsEntered ts c → slots ≡ c.slots → entry_for ts b < 40 → (if is_of b (get_or slots (entry_for ts b) empty_buffer) then Some (entry_for ts b) else None) ≡ found c b
slot_of_entry ts c b slots is same low = rw same (elim (cases_Bool (is_of b (buffer c (entry_for ts b)))) [
  | inl here ↦ rw here (sym (found_at c b (entry_for ts b) is.cache here))
  | inr not ↦ rw not (sym (none_of ts c b is low not))
])
