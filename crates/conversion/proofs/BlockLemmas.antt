-- What is read in the blocks of a moved image.
use Rattle.std.proofs.Common.{◌≡◌, ◌≢◌, ℕ, zero, suc, ◌+◌, ◌-◌, ◌*◌, ◌%◌, ◌^◌, ◌<◌, ◌≤◌, min, Bool, true, false, cond, eqb, List, ◌++◌, length, map, take, drop, get_or, refl, sym, ap, ◌∙◌, ⊎_elim, arith}
use Rattle.std.specs.List.{flat_map, range_with_len}
use Rattle.std.proofs.lemmas.List.{length-map}
use Rattle.blocks.specs.Block.{IsBlock}
use Rattle.model.specs.Codec.{dinode_bytes, IsDinode, with_bit}
use Rattle.model.specs.Common.{cases_eq, cases_lt, drop-drop, drop_at, get_or-between, get_or_past, inode_bytes_in, is_block-zero_block, length-between, take_at, words_of}
use Rattle.model.specs.declared.types.image.Dinode.{Dinode}
use Rattle.model.specs.Fields.{has_bit}
use Rattle.model.specs.Layout.{inode_in}
use Rattle.model.specs.Lemmas.Bits.{has_bit-with_bit_other, has_bit-with_bit_same, has_bit-zero_block, is_block-with_bit}
use Rattle.model.specs.Lemmas.Codecs.{inode_in-dinode_bytes, length-dinode_bytes, words_of-bytes_all}
use Rattle.model.specs.Lemmas.Inodes.{is_dinode-inode_in}
use Rattle.conversion.specs.Common.{moved, moved_inode, moved_inode_bytes}
use Rattle.conversion.specs.Moving.{bits_below, moved_inodes, moved_words}
use Rattle.conversion.proofs.AddressLemmas.{moved_at}

-- ---- addresses

pub moved_small : (from to a : ℕ) → moved from to a < 2 ^ 32
moved_small from to a = by_zero (eqb a 0)
  where
    by_zero : (v : Bool) → cond v 0 (min (a + to) (2 ^ 32 - 1) - from) < 2 ^ 32
    by_zero true = omega arith
    by_zero false = omega arith

all_small : (from to : ℕ) (words : List ℕ) (k : ℕ) → get_or (map (moved from to) words) k 0 < 2 ^ 32
all_small from to words k = rw (moved_at from to words k) (moved_small from to (get_or words k 0))

pub words_of-moved : (from to : ℕ) (block : List ℕ) → words_of (moved_words from to block) ≡ map (moved from to) (words_of block)
unfolding moved_words
words_of-moved from to block = words_of-bytes_all (map (moved from to) (words_of block)) (all_small from to (words_of block))

-- ---- inodes

-- one of joined pieces of 64 bytes
piece_at : (f : ℕ → List ℕ) (a n r : ℕ) → ((k : ℕ) → length (f k) ≡ 64) → r < n →
    take 64 (drop (r * 64) (flat_map f (range_with_len a n))) ≡ f (a + r)
piece_at f a zero r size h = absurd (omega arith)
piece_at f a (suc n) zero size h =
    let first : a + 0 ≡ a = omega arith in
    take_at (f a) (flat_map f (range_with_len (a + 1) n)) 64 (size a) ∙ ap f (sym first)
piece_at f a (suc n) (suc r) size h =
    let rest = flat_map f (range_with_len (a + 1) n) in
    let far : suc r * 64 ≡ 64 + r * 64 = omega arith in
    let place : a + 1 + r ≡ a + suc r = omega arith in
    ap (λ (m : ℕ). take 64 (drop m (f a ++ rest))) far
    ∙ ap (take 64) (sym (drop-drop (r * 64) 64 (f a ++ rest)))
    ∙ ap (λ (l : List ℕ). take 64 (drop (r * 64) l)) (drop_at (f a) rest 64 (size a))
    ∙ piece_at f (a + 1) n r size (omega (arith, h)) ∙ ap f place

bytes_small : (block : List ℕ) (i k : ℕ) → IsBlock block → get_or (inode_bytes_in block i) k 0 < 256
bytes_small block i k is =
    let at = i % 16 * 64 in
    let size = is.size in
    let long = length-between block at (at + 64) (omega arith) in
    ⊎_elim
    (λ (low : k < 64). let here = get_or-between block at (at + 64) k 0 (omega (arith, low)) in rw here (is.each (at + k)))
    (λ (past : 64 ≤ k). let none = get_or_past (inode_bytes_in block i) k 0 (omega (arith, long, past)) in rw none (omega arith))
    (cases_lt k 64)

-- an inode in a block has fields that fit
pub fields_fit : (block : List ℕ) (i : ℕ) → IsBlock block → IsDinode (inode_in (inode_bytes_in block i))
fields_fit block i is =
    let at = i % 16 * 64 in
    let size = is.size in
    let long = length-between block at (at + 64) (omega arith) in
    is_dinode-inode_in (inode_bytes_in block i) (omega (arith, long)) (λ k. bytes_small block i k is)

pub moved_fit : (from to : ℕ) (d : Dinode) → IsDinode d → IsDinode (moved_inode from to d)
moved_fit from to d is = record {
  kind = is.kind;
  major = is.major;
  minor = is.minor;
  nlink = is.nlink;
  size = is.size;
  count = length-map d.addrs (moved from to) ∙ is.count;
  addrs = all_small from to d.addrs;
}

pub length-moved_inode_bytes : (from to : ℕ) (block : List ℕ) (k : ℕ) → IsBlock block → length (moved_inode_bytes from to block k) ≡ 64
length-moved_inode_bytes from to block k is =
    length-dinode_bytes (moved_inode from to (inode_in (inode_bytes_in block k))) (moved_fit from to _ (fields_fit block k is)).count

-- each inode of a moved block is the moved one
pub inode_in-moved : (from to : ℕ) (block : List ℕ) (i : ℕ) → IsBlock block →
    inode_in (inode_bytes_in (moved_inodes from to block) i) ≡ moved_inode from to (inode_in (inode_bytes_in block i))
unfolding moved_inodes
inode_in-moved from to block i is =
    let at = i % 16 * 64 in
    let all = flat_map (moved_inode_bytes from to block) (range_with_len 0 16) in
    let width : at + 64 - at ≡ 64 = omega arith in
    let place : (0 + i % 16) % 16 * 64 ≡ at = omega arith in
    let d = inode_in (inode_bytes_in block i) in
    let piece = ap (λ (n : ℕ). take n (drop at all)) width
    ∙ piece_at (moved_inode_bytes from to block) 0 16 (i % 16) (λ k. length-moved_inode_bytes from to block k is) (omega arith) in
    ap inode_in piece
    ∙ ap (λ (n : ℕ). inode_in (dinode_bytes (moved_inode from to (inode_in (take (n + 64 - n) (drop n block)))))) place
    ∙ inode_in-dinode_bytes (moved_inode from to d) (moved_fit from to d (fields_fit block i is))

-- ---- bits

pub is_block-bits_below : (test : ℕ → Bool) (n : ℕ) → IsBlock (bits_below test n)
unfolding bits_below
is_block-bits_below test zero = is_block-zero_block
is_block-bits_below test (suc n) = by_test (is_block-bits_below test n) (test n)
  where
    by_test : IsBlock (bits_below test n) → (v : Bool) → IsBlock (cond v (with_bit (bits_below test n) n) (bits_below test n))
    by_test is true = is_block-with_bit (bits_below test n) n is
    by_test is false = is

-- no bit from there on is set
bits_past : (test : ℕ → Bool) (n k : ℕ) → n ≤ k → has_bit (bits_below test n) k ≡ false
unfolding bits_below
bits_past test zero k h = has_bit-zero_block k
bits_past test (suc n) k h = by_test (bits_past test n k (omega (arith, h))) (test n)
  where
    by_test : has_bit (bits_below test n) k ≡ false → (v : Bool) → has_bit (cond v (with_bit (bits_below test n) n) (bits_below test n)) k ≡ false
    by_test past true = has_bit-with_bit_other (bits_below test n) n k (λ e. absurd (omega (arith, e, h))) ∙ past
    by_test past false = past

-- the bits below are those of the test
pub has_bit-bits_below : (test : ℕ → Bool) (n k : ℕ) → n ≤ 8192 → k < n → has_bit (bits_below test n) k ≡ test k
unfolding bits_below
has_bit-bits_below test zero k few h = absurd (omega (arith, h))
has_bit-bits_below test (suc n) k few h =
    ⊎_elim
    (λ (e : k ≡ n). ap (has_bit (bits_below test (suc n))) e ∙ last (test n) refl ∙ sym (ap test e))
    (λ (ne : k ≢ n). earlier (test n) ne ∙ has_bit-bits_below test n k (omega (arith, few)) (omega (arith, h, ne)))
    (cases_eq k n)
  where
    last : (v : Bool) → test n ≡ v → has_bit (cond v (with_bit (bits_below test n) n) (bits_below test n)) n ≡ v
    last true is = has_bit-with_bit_same (bits_below test n) n (omega (arith, few, (is_block-bits_below test n).size))
    last false is = bits_past test n n (omega arith)

    earlier : (v : Bool) → k ≢ n → has_bit (cond v (with_bit (bits_below test n) n) (bits_below test n)) k ≡ has_bit (bits_below test n) k
    earlier true ne = has_bit-with_bit_other (bits_below test n) n k ne
    earlier false ne = refl
