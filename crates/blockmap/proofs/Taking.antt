-- The steps that take a block.
use Rattle.std.proofs.Common.{◌≡◌, ◌∙◌, sym, ap, subst, refl, arith, ⊎_elim, ℕ, ◌+◌, ◌*◌, ◌/◌, ◌%◌, ◌<◌, ◌≤◌, ◌≢◌, true, false, not, eqb, List, [], ◌∷◌, length, get_or, set, replicate, Option, Some, None}
use Rattle.std.specs.Int.{bit_at, trailing_ones}
use mir.Syntax.{w8}
use Rattle.std.proofs.lemmas.List.Quantifiers.{position-Some}
use Rattle.std.specs.List.{position}
use Rattle.bcache.specs.Lemmas.Order.{none_passes}
use Rattle.std.proofs.lemmas.Nat.Bits.{bit_at_ones, bit_at-trailing_ones}
use Rattle.blockmap.specs.Common.{AllocAt, AllocState, AreFull, block_at, buffer, byte_with, cases_lt, eq-eqb, eqb-true, Ghosts, Holds, lowest_clear, lowest_in, MayAlloc, MayAllocAt, not-false, not-true, overwritten, overwritten_zeroes, Progress, seen, TakesLowest, VolumeState, with_bit, with_bit_written, with_taken, zero_block, Zeroes}
use Rattle.model.specs.Fields.{has_bit}
use Rattle.blockmap.specs.Getting.{Puts, WritesBlock}
use Rattle.blockmap.specs.Lemmas.Bitmap.{lowest_clear_found}
use Rattle.blockmap.specs.Lemmas.Putting.{writes_put}

-- ---- the search

-- bits are set in full bytes, and in the first places of the next one
set_before : (bits : List ℕ) (at t : ℕ) → t ≤ 8 → ((j : ℕ) → j < at → get_or bits j 0 ≡ 255) → ((i : ℕ) → i < t → bit_at (get_or bits at 0) i ≡ 1) →
    (k : ℕ) → k < 8 * at + t → has_bit bits k ≡ true
unfolding has_bit
set_before bits at t few full set k below =
    eq-eqb (bit_at (get_or bits (k / 8) 0) (k % 8)) 1
    (⊎_elim
    (λ (low : k / 8 < at). ap (λ (byte : ℕ). bit_at byte (k % 8)) (full (k / 8) low) ∙ bit_at_ones 8 (k % 8) (omega arith))
    (λ (from : at ≤ k / 8).
    let here : k / 8 ≡ at = omega (arith, from, below, few) in
    ap (λ (j : ℕ). bit_at (get_or bits j 0) (k % 8)) here ∙ set (k % 8) (omega (arith, here, below)))
    (cases_lt (k / 8) at))

clear_there : (bits : List ℕ) (at t : ℕ) → t < 8 → bit_at (get_or bits at 0) t ≡ 0 → has_bit bits (8 * at + t) ≡ false
unfolding has_bit
clear_there bits at t few clear =
    let byte : (8 * at + t) / 8 ≡ at = omega (arith, few) in
    let bit : (8 * at + t) % 8 ≡ t = omega (arith, few) in
    rw (byte, bit, clear) refl

-- the bytes before the first that isn't full
full_byte : (byte : ℕ) → not (eqb byte 255) ≡ false → byte ≡ 255
full_byte byte e = eqb-true byte 255 (not-false (eqb byte 255) e)

some_clear : (byte : ℕ) → not (eqb byte 255) ≡ true → byte ≢ 255
some_clear byte e full = let e' = not-true (eqb byte 255) e in let yes = eq-eqb byte 255 full in absurd (cc (e', yes))

-- the first that isn't full, behind those that are
pub first_clear : (bytes : List ℕ) (at : ℕ) → at < length bytes → get_or bytes at 0 ≢ 255 → AreFull bytes 0 at → Some at ≡ position (λ byte. not (eqb byte 255)) bytes
first_clear bytes at inside clear full = by (position (λ byte. not (eqb byte 255)) bytes) refl
  where
    by : (found : Option ℕ) → position (λ byte. not (eqb byte 255)) bytes ≡ found → Some at ≡ position (λ byte. not (eqb byte 255)) bytes
    by None e = absurd (clear (full_byte (get_or bytes at 0) (none_passes (λ byte. not (eqb byte 255)) bytes at 0 e inside)))
    by (Some k) e =
        let f = position-Some (λ byte. not (eqb byte 255)) bytes k 0 e in
        ⊎_elim
        (λ (low : k < at). absurd (some_clear (get_or bytes k 0) f.1 (full k (omega arith) low)))
        (λ (from : at ≤ k). ⊎_elim
        (λ (past : at < k). absurd (clear (full_byte (get_or bytes at 0) (f.2 at past))))
        (λ (same : k ≤ at). let here : at ≡ k = omega (arith, from, same) in ap (λ (i : ℕ). Some i) here ∙ sym e)
        (cases_lt at k))
        (cases_lt k at)

-- there is none
pub all_full : (bytes : List ℕ) → AreFull bytes 0 (length bytes) → None ≡ position (λ byte. not (eqb byte 255)) bytes
all_full bytes full = by (position (λ byte. not (eqb byte 255)) bytes) refl
  where
    by : (found : Option ℕ) → position (λ byte. not (eqb byte 255)) bytes ≡ found → None ≡ position (λ byte. not (eqb byte 255)) bytes
    by None e = sym e
    by (Some k) e =
        let f = position-Some (λ byte. not (eqb byte 255)) bytes k 0 e in
        absurd (some_clear (get_or bytes k 0) f.1 (full k (omega arith) f.0))

-- where each byte is full no bit is clear
pub none_clear : (bits : List ℕ) (size : ℕ) → size ≤ 8 * length bits → None ≡ position (λ byte. not (eqb byte 255)) bits → None ≡ lowest_clear bits size
none_clear bits size inside none =
    sym (lowest_clear_found bits size None
    (λ k below. set_before bits (length bits) 0 (omega arith)
    (λ j low. full_byte (get_or bits j 0) (none_passes (λ byte. not (eqb byte 255)) bits j 0 (sym none) low))
    (λ i nothing. absurd (omega (arith, nothing))) k (omega (arith, below, inside))))

-- the first that isn't has the lowest
module _ (bits : List ℕ) (size at : ℕ) (small : (i : ℕ) → get_or bits i 0 < 256) (found : Some at ≡ position (λ byte. not (eqb byte 255)) bits) where
  first : (at < length bits) × (not (eqb (get_or bits at 0) 255) ≡ true) × ((k : ℕ) → k < at → not (eqb (get_or bits k 0) 255) ≡ false)
  first = position-Some (λ byte. not (eqb byte 255)) bits at 0 (sym found)

  place : (trailing_ones w8 (get_or bits at 0) < 8) × (bit_at (get_or bits at 0) (trailing_ones w8 (get_or bits at 0)) ≡ 0) × ((i : ℕ) → i < trailing_ones w8 (get_or bits at 0) → bit_at (get_or bits at 0) i ≡ 1)
  place = bit_at-trailing_ones w8 (get_or bits at 0) (omega (arith, small at, some_clear (get_or bits at 0) first.1))

  pub ones_within : trailing_ones w8 (get_or bits at 0) < 8
  ones_within = place.0

  before : (k : ℕ) → k < 8 * at + trailing_ones w8 (get_or bits at 0) → has_bit bits k ≡ true
  before = set_before bits at (trailing_ones w8 (get_or bits at 0)) (omega (arith, ones_within)) (λ j low. full_byte (get_or bits j 0) (first.2 j low)) place.2

  pub clear_below : 8 * at + trailing_ones w8 (get_or bits at 0) < size → Some (8 * at + trailing_ones w8 (get_or bits at 0)) ≡ lowest_clear bits size
  clear_below low = sym (lowest_clear_found bits size (Some (8 * at + trailing_ones w8 (get_or bits at 0))) (low, clear_there bits at (trailing_ones w8 (get_or bits at 0)) place.0 place.1, before))

  pub clear_past : size ≤ 8 * at + trailing_ones w8 (get_or bits at 0) → None ≡ lowest_clear bits size
  clear_past past = sym (lowest_clear_found bits size None (λ k below. before k (omega (arith, below, past))))

-- ---- the steps

-- the bitmap's block is held
held_bitmap : {D N : Type 0} (disk : Ghosts D N) (v : VolumeState D) (p i : ℕ) (m : AllocState) → MayAlloc disk.image v p m → m.at ≡ AllocAt.Looking (Some i) → Holds (seen (disk.image v.device) v.buffers) v.buffers p m.bitmap i
held_bitmap disk v p i m may at = subst (λ (a : AllocAt). MayAllocAt disk.image v p m a) at may.at

-- the lowest clear bit is set
pub takes_some : {D N : Type 0} (disk : Ghosts D N) (v : VolumeState D) (p i b : ℕ) (m : AllocState) (bits : List ℕ) (w : VolumeState D) →
    MayAlloc disk.image v p m → m.at ≡ AllocAt.Looking (Some i) → bits ≡ (buffer v.buffers i).bytes → length bits ≡ 1024 → b < 8192 → Some b ≡ lowest_clear bits m.size
    → Puts disk.image v p i (b / 8) (byte_with bits b ∷ []) w →
    TakesLowest disk (lowest_in (seen (disk.image v.device) v.buffers) m) v p i m Progress.Moved (record m { at = AllocAt.Zeroing b None }) w
takes_some disk v p i b m bits w may at are long few some puts =
    let x = seen (disk.image v.device) v.buffers in
    let held = held_bitmap disk v p i m may at in
    let same : bits ≡ block_at x m.bitmap = are ∙ held.bytes in
    let found = some ∙ ap (λ (l : List ℕ). lowest_clear l m.size) same in
    let makes : overwritten (block_at x m.bitmap) (b / 8) (byte_with bits b ∷ []) ≡ with_bit (block_at x m.bitmap) b =
    ap (λ (l : List ℕ). overwritten l (b / 8) (byte_with bits b ∷ [])) (sym same)
    ∙ with_bit_written bits b (omega (arith, long, few))
    ∙ ap (λ (l : List ℕ). with_bit l b) same in
    let writes : WritesBlock disk v p i m.bitmap (with_taken x m.bitmap b) w = writes_put disk v p i m.bitmap (b / 8) (byte_with bits b ∷ []) (with_bit (block_at x m.bitmap) b) w held makes puts in
    subst (λ (o : Option ℕ). TakesLowest disk o v p i m Progress.Moved (record m { at = AllocAt.Zeroing b None }) w) found (refl, refl, writes)

-- the new block is zeroed
pub zeroes : {D N : Type 0} (disk : Ghosts D N) (v : VolumeState D) (p i b : ℕ) (w : VolumeState D) →
    Holds (seen (disk.image v.device) v.buffers) v.buffers p b i → length (buffer v.buffers i).bytes ≡ 1024 → Puts disk.image v p i 0 (replicate 1024 0) w →
    Zeroes disk v p i b w
zeroes disk v p i b w held long puts =
    let x = seen (disk.image v.device) v.buffers in
    writes_put disk v p i b 0 (replicate 1024 0) zero_block w held (overwritten_zeroes (block_at x b) (ap length (sym held.bytes) ∙ long)) puts
