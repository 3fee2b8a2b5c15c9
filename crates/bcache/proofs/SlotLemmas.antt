-- What stays true of every cache, and of its slots.
use Rattle.std.proofs.Common.{◌≡◌, ◌≢◌, ℕ, ◌+◌, ◌-◌, ◌<◌, ◌≤◌, Bool, true, false, List, map, replicate, length, get_or, set, refl, sym, ◌∙◌, ap, subst, arith, Option, Some, None}
use Rattle.bcache.specs.Common.{after_acquire_by, after_lock, after_take, answer_by, Buffer, buffer, Buffers, empty_buffer, first_order, found, fresh_buffers, get_or_default, IsCache, IsOrder, lock_answer, moved_to_front, references_of, take_answer, victim, with_buffer}
use Rattle.bcache.specs.declared.types.Busy.{Busy}
use Rattle.bcache.specs.declared.types.Acquired.{Acquired}
use Rattle.bcache.specs.Laws.{AreAllInUse, NoBufferIsFull, IsLastUnused, TakesLastUnused, KeepsCopy, ReferencedIsKept, CallsKeepCache}
use Rattle.bcache.proofs.OrderLemmas.{victim_last}
use Rattle.bcache.specs.Lemmas.Order.{order_moved}
use Rattle.bcache.specs.Lemmas.Slots.{buffer_other, each_buffer, cache_kept, some_found, cache_taken, cache_released, references_at, victim_free, cache_acquired, victim_none_in_use}

-- the slot that an index gives, whatever stands for none
pub slot_at : (c : Buffers) (i : ℕ) (s : Buffer) → IsCache c → i < 40 → s ≡ get_or c.slots i s → s ≡ buffer c i
slot_at c i s is lt e = e ∙ get_or_default c.slots i s empty_buffer (omega (arith, is.size))

-- for the code, where the slot's old value has another name
pub cache_taken_from : (c : Buffers) (p b i : ℕ) (s : Buffer) → IsCache c → i < 40 → found c b ≡ None → s ≡ buffer c i → IsCache (with_buffer c i (record s { block = Some b; valid = false; holder = Some p }))
cache_taken_from c p b i s is lt none e = subst (λ (u : Buffer). IsCache (with_buffer c i (record u { block = Some b; valid = false; holder = Some p }))) (sym e) (cache_taken c p b i is lt none)

pub cache_unheld : (c : Buffers) (i : ℕ) (s : Buffer) (o : List ℕ) → IsCache c → i < 40 → s ≡ buffer c i → o ≡ moved_to_front c.order i → IsCache (record { slots = set c.slots i (record s { holder = None }); order = o })
cache_unheld c i s o is lt e moved =
    let kept = cache_kept c i (record s { holder = None }) is lt (ap (λ (u : Buffer). u.block) e) in
    record { size = kept.size; order = subst IsOrder (sym moved) (order_moved c.order i is.order lt); once = record { same = kept.once.same } }

pub fresh_from : (ss : List Buffer) (o : List ℕ) (n : ℕ) → ss ≡ replicate n empty_buffer → 40 ≤ n → n ≤ 40 → o ≡ first_order → record { slots = ss; order = o } ≡ fresh_buffers
fresh_from ss o n made low high order =
    let all : n ≡ 40 = omega (arith, low, high) in
    ap (λ (ts : List Buffer). let c : Buffers = record { slots = ts; order = o } in c) (made ∙ ap (λ (m : ℕ). replicate m empty_buffer) all)
    ∙ ap (λ (p : List ℕ). let c : Buffers = record { slots = replicate 40 empty_buffer; order = p } in c) order

in_use_no_victim : (c : Buffers) → IsCache c → AreAllInUse c → (v : Option ℕ) → victim c ≡ v → victim c ≡ None
in_use_no_victim c is used None e = e
in_use_no_victim c is used (Some i) e = let f = victim_free c i is e in absurd (used i f.0 f.1)

pub no_buffer_full : NoBufferIsFull
no_buffer_full c b is = (λ answer. full (found c b) refl answer, λ in_use. ap (λ (at : Option ℕ). answer_by at c) in_use.0 ∙ ap take_answer (in_use_no_victim c is in_use.1 (victim c) refl))
  where
    lock : (holder : Option ℕ) (i : ℕ) (valid : Bool) → lock_answer holder i valid ≢ Acquired.Sleeping Busy.NoBuffer
    lock None i valid e = cc e
    lock (Some pid) i valid e = cc e

    take : (v : Option ℕ) → victim c ≡ v → take_answer v ≡ Acquired.Sleeping Busy.NoBuffer → victim c ≡ None
    take None e answer = e
    take (Some i) e answer = absurd (cc answer)

    full : (at : Option ℕ) → found c b ≡ at → answer_by at c ≡ Acquired.Sleeping Busy.NoBuffer → (found c b ≡ None) × AreAllInUse c
    full None e answer = (e, victim_none_in_use c is (take (victim c) refl answer))
    full (Some i) e answer = absurd (lock (buffer c i).holder i (buffer c i).valid answer)

pub last_unused_taken : TakesLastUnused
last_unused_taken c pid b i valid is none answer = (last, ap (λ (at : Option ℕ). after_acquire_by at c pid b) none ∙ ap (λ (v : Option ℕ). after_take v c pid b) one)
  where
    take : (v : Option ℕ) → victim c ≡ v → take_answer v ≡ Acquired.Got i valid → victim c ≡ Some i
    take None e got = absurd (cc got)
    take (Some j) e got = let same : j ≡ i = cc got in e ∙ ap (λ (k : ℕ). Some k) same

    one : victim c ≡ Some i
    one = take (victim c) refl (sym (ap (λ (at : Option ℕ). answer_by at c) none) ∙ answer)

    last : IsLastUnused c i
    last =
        let free = victim_free c i is one in
        let f = victim_last (map references_of c.slots) c.order i one in
        record {
          slot = free.0;
          unused = free.1;
          place = f.place;
          at = f.at;
          behind = λ k past lt none. f.behind k past (omega (arith, lt, is.order.all)) (sym (references_at c (get_or c.order k 0)) ∙ none);
        }

pub calls_keep : CallsKeepCache
calls_keep c pid b i bytes is lt = record {
  acquire = cache_acquired c pid b is;
  fill = cache_kept c i (record (buffer c i) { valid = true; bytes = bytes }) is lt refl;
  change = cache_kept c i (record (buffer c i) { bytes = bytes }) is lt refl;
  release = cache_released c i is lt;
  pin = cache_kept c i (record (buffer c i) { pins = (buffer c i).pins + 1 }) is lt refl;
  unpin = cache_kept c i (record (buffer c i) { pins = (buffer c i).pins - 1 }) is lt refl;
}

copy_same : (s : Buffer) → KeepsCopy s s
copy_same s = record { block = refl; valid = refl; bytes = refl; pins = refl }

pub referenced_kept : ReferencedIsKept
referenced_kept c pid b i is used = by (found c b) refl
  where
    lock : (j : ℕ) → j < length c.slots → (holder : Option ℕ) → KeepsCopy (buffer c i) (buffer (after_lock holder c pid j) i)
    lock j lt None = each_buffer c j (record (buffer c j) { holder = Some pid }) (λ k s. KeepsCopy (buffer c k) s) lt
        (record { block = refl; valid = refl; bytes = refl; pins = refl }) (λ k other. copy_same (buffer c k)) i
    lock j lt (Some p) = copy_same (buffer c i)

    take : (v : Option ℕ) → victim c ≡ v → KeepsCopy (buffer c i) (buffer (after_take v c pid b) i)
    take None e = copy_same (buffer c i)
    take (Some j) e =
        let other : i ≢ j = λ same. used (ap (λ (k : ℕ). references_of (buffer c k)) same ∙ (victim_free c j is e).1) in
        subst (KeepsCopy (buffer c i)) (sym (buffer_other c j i (record (buffer c j) { block = Some b; valid = false; holder = Some pid }) other)) (copy_same (buffer c i))

    by : (at : Option ℕ) → found c b ≡ at → KeepsCopy (buffer c i) (buffer (after_acquire_by at c pid b) i)
    by None e = take (victim c) refl
    by (Some j) e = lock j (some_found c b j e).0 (buffer c j).holder
