-- One bit of a block set or cleared, and the first bits of a block.
use Rattle.std.proofs.Common.{◌≡◌, ◌≢◌, ℕ, zero, suc, ◌*◌, ◌/◌, ◌%◌, ◌^◌, ◌<◌, ◌≤◌, true, false, eqb, List, length, get_or, set, replicate, refl, sym, ap, ◌∙◌, ⊎_elim, arith}
use Rattle.std.specs.Int.{bit_at, bit_not}
use mir.Syntax.{w8}
use Rattle.std.specs.Int.RustNames.{bit_or}
use Rattle.std.specs.Prelude.{bit_and}
use Rattle.std.proofs.lemmas.Nat.Bits.{bit_at_or, bit_at-lt, bit_at-pow_same, bit_at-pow_other, bit_at_clear_same, bit_at_clear_other, bit_at-zero}
use Rattle.model.specs.Common.{cases_eq, cases_lt, eq-eqb, FirstBits, get_or-replicate, get_or-set_other, get_or-set_same, get_or_past, is_block-zero_block, IsBlock, le-ltb, length-replicate, length-set, lt-ltb, or_lt, pow_below, set_past}
use Rattle.blocks.specs.Block.{zero_block}
use Rattle.model.specs.Fields.{has_bit}
use Rattle.model.specs.Codec.{with_bit, without_bit, first_bits}

pub has_bit-with_bit_same : (bs : List ℕ) (k : ℕ) → k < 8 * length bs → has_bit (with_bit bs k) k ≡ true
unfolding has_bit with_bit
has_bit-with_bit_same bs k h =
    let old = get_or bs (k / 8) 0 in
    let one = bit_at_or old (2 ^ (k % 8)) (k % 8) in
    let p = bit_at-pow_same (k % 8) in
    let q = bit_at-lt old (k % 8) in
    rw (get_or-set_same bs (k / 8) (bit_or old (2 ^ (k % 8))) 0 (omega arith)) (eq-eqb _ 1 (omega arith))

-- a byte written in another place, or past the end, is not read
byte_same : (bs : List ℕ) (k c new : ℕ) → (c / 8 ≡ k / 8 → bit_at new (c % 8) ≡ bit_at (get_or bs (k / 8) 0) (c % 8)) →
    bit_at (get_or (set bs (k / 8) new) (c / 8) 0) (c % 8) ≡ bit_at (get_or bs (c / 8) 0) (c % 8)
byte_same bs k c new same =
    ⊎_elim
    (λ (e : c / 8 ≡ k / 8).
    ⊎_elim
    (λ (h : k / 8 < length bs). rw (e, get_or-set_same bs (k / 8) new 0 h) (same e))
    (λ (h : length bs ≤ k / 8). ap (λ l. bit_at (get_or l (c / 8) 0) (c % 8)) (set_past bs (k / 8) new h))
    (cases_lt (k / 8) (length bs)))
    (λ (n : c / 8 ≢ k / 8). rw (get_or-set_other bs (k / 8) (c / 8) new 0 n) refl)
    (cases_eq (c / 8) (k / 8))

pub has_bit-with_bit_other : (bs : List ℕ) (k c : ℕ) → c ≢ k → has_bit (with_bit bs k) c ≡ has_bit bs c
unfolding has_bit with_bit
has_bit-with_bit_other bs k c ne =
    let old = get_or bs (k / 8) 0 in
    let one = bit_at_or old (2 ^ (k % 8)) (c % 8) in
    ap (λ v. eqb v 1) (byte_same bs k c (bit_or old (2 ^ (k % 8)))
    (λ e.
    let p = bit_at-pow_other (k % 8) (c % 8) (λ r. omega arith) in
    omega arith))

pub has_bit-without_bit_same : (bs : List ℕ) (k : ℕ) → k < 8 * length bs → has_bit (without_bit bs k) k ≡ false
unfolding has_bit without_bit
has_bit-without_bit_same bs k h =
    let old = get_or bs (k / 8) 0 in
    rw (get_or-set_same bs (k / 8) (bit_and old (bit_not w8 (1 * 2 ^ (k % 8) % 2 ^ 8))) 0 (omega arith), (bit_at_clear_same w8 old (k % 8) (omega arith))) refl

pub has_bit-without_bit_other : (bs : List ℕ) (k c : ℕ) → c ≢ k → has_bit (without_bit bs k) c ≡ has_bit bs c
unfolding has_bit without_bit
has_bit-without_bit_other bs k c ne =
    let old = get_or bs (k / 8) 0 in
    ap (λ v. eqb v 1) (byte_same bs k c (bit_and old (bit_not w8 (1 * 2 ^ (k % 8) % 2 ^ 8)))
    (λ e.
    bit_at_clear_other w8 old (k % 8) (omega arith) (c % 8) (omega arith) (λ r. omega arith)))

pub length-with_bit : (bs : List ℕ) (k : ℕ) → length (with_bit bs k) ≡ length bs
unfolding with_bit
length-with_bit bs k = length-set bs (k / 8) (bit_or (get_or bs (k / 8) 0) (2 ^ (k % 8)))

pub length-without_bit : (bs : List ℕ) (k : ℕ) → length (without_bit bs k) ≡ length bs
unfolding without_bit
length-without_bit bs k = length-set bs (k / 8) (bit_and (get_or bs (k / 8) 0) (bit_not w8 (1 * 2 ^ (k % 8) % 2 ^ 8)))

-- bytes with a byte in one place
bytes_set : (bs : List ℕ) (k new : ℕ) → ((i : ℕ) → get_or bs i 0 < 256) → new < 256 → (i : ℕ) → get_or (set bs k new) i 0 < 256
bytes_set bs k new each small i =
    ⊎_elim
    (λ (e : i ≡ k).
    ⊎_elim
    (λ (h : k < length bs). rw (e, get_or-set_same bs k new 0 h) small)
    (λ (h : length bs ≤ k). rw (set_past bs k new h) (each i))
    (cases_lt k (length bs)))
    (λ (n : i ≢ k). rw (get_or-set_other bs k i new 0 n) (each i))
    (cases_eq i k)

-- the bytes stay bytes
pub bytes-with_bit : (bs : List ℕ) (k : ℕ) → ((i : ℕ) → get_or bs i 0 < 256) → (i : ℕ) → get_or (with_bit bs k) i 0 < 256
unfolding with_bit
bytes-with_bit bs k each i =
    bytes_set bs (k / 8) (bit_or (get_or bs (k / 8) 0) (2 ^ (k % 8))) each
    (or_lt 8 (get_or bs (k / 8) 0) (2 ^ (k % 8)) (each (k / 8)) (pow_below (k % 8) 8 (omega arith))) i

-- a block stays one
pub is_block-with_bit : (bs : List ℕ) (k : ℕ) → IsBlock bs → IsBlock (with_bit bs k)
is_block-with_bit bs k is = record { size = length-with_bit bs k ∙ is.size; each = bytes-with_bit bs k is.each }

pub is_block-first_bits : (n : ℕ) → IsBlock (first_bits n)
unfolding first_bits
is_block-first_bits zero = is_block-zero_block
is_block-first_bits (suc n) = is_block-with_bit (first_bits n) n (is_block-first_bits n)

pub length-first_bits : (n : ℕ) → length (first_bits n) ≡ 1024
length-first_bits n = (is_block-first_bits n).size

zero_byte : (byte k : ℕ) → byte ≡ 0 → eqb (bit_at byte (k % 8)) 1 ≡ false
zero_byte byte k e = ap (λ v. eqb (bit_at v (k % 8)) 1) e ∙ ap (λ v. eqb v 1) (bit_at-zero (k % 8))

-- no bit of zeroes is set
pub has_bit-zero_block : (k : ℕ) → has_bit zero_block k ≡ false
unfolding has_bit zero_block
has_bit-zero_block k =
    ⊎_elim
    (λ (h : k / 8 < 1024). zero_byte _ k (get_or-replicate {A = ℕ} 1024 (k / 8) 0 0 h))
    (λ (h : 1024 ≤ k / 8). zero_byte _ k (get_or_past (replicate 1024 0) (k / 8) 0 (omega (arith, length-replicate {A = ℕ} 1024 0))))
    (cases_lt (k / 8) 1024)

pub has_bit-first_bits : FirstBits
unfolding first_bits
has_bit-first_bits zero k h = has_bit-zero_block k ∙ sym (le-ltb k 0 (omega arith))
has_bit-first_bits (suc n) k h =
    let size = length-first_bits n in
    ⊎_elim
    (λ (e : k ≡ n).
    rw e (has_bit-with_bit_same (first_bits n) n (omega arith) ∙ sym (lt-ltb n (suc n) (omega arith))))
    (λ (ne : k ≢ n).
    has_bit-with_bit_other (first_bits n) n k ne ∙ has_bit-first_bits n k (omega arith)
    ∙ ⊎_elim (λ (lt : k < n). lt-ltb k n lt ∙ sym (lt-ltb k (suc n) (omega arith)))
    (λ (le : n ≤ k). le-ltb k n le ∙ sym (le-ltb k (suc n) (omega arith))) (cases_lt k n))
    (cases_eq k n)
