-- Inodes that are read from an image have fields that fit, and another inode at a number changes no other.
use Rattle.std.proofs.Common.{◌≡◌, ◌≢◌, ℕ, zero, suc, ◌+◌, ◌-◌, ◌*◌, ◌%◌, ◌^◌, ◌<◌, ◌≤◌, List, [], length, take, drop, replicate, get_or, refl, sym, ap, ◌∙◌, ⊎_elim, arith}
use Rattle.model.specs.Common.{block_at, cases_eq, cases_lt, Dinode, get_or-drop, get_or-set_other, get_or-set_same, get_or-take, get_or_past, Image, inode_block, inode_bytes, inode_bytes_in, IsBlock, length-between, length-drop, length-take-le, little_from-lt, words_of}
use Rattle.model.specs.Codec.{IsDinode, with_inode_bytes, with_inode, new_inode}
use Rattle.model.specs.Fields.{u16_at, u32_at}
use Rattle.model.specs.Layout.{inode_in, inode_of}
use Rattle.model.specs.Lemmas.Codecs.{inode_in-with_inode_bytes, inode_bytes_in-with_inode_bytes_other}
use Rattle.model.specs.Lemmas.Words.{word_at, word_past, thirteen}

-- ---- an inode that is read

abbrev AreBytes : List ℕ → Type 0
AreBytes xs = (k : ℕ) → get_or xs k 0 < 256

bytes_drop : (xs : List ℕ) (n : ℕ) → AreBytes xs → AreBytes (drop n xs)
bytes_drop xs n each k = rw (get_or-drop n xs k 0) (each (n + k))

bytes_take : (xs : List ℕ) (n : ℕ) → n ≤ length xs → AreBytes xs → AreBytes (take n xs)
bytes_take xs n le each k =
    let len = length-take-le n xs le in
    ⊎_elim (λ (low : k < n). rw (get_or-take n xs k 0 low) (each k))
    (λ (past : n ≤ k). let z = get_or_past (take n xs) k 0 (omega arith) in rw z (omega arith)) (cases_lt k n)

two_small : (xs : List ℕ) (at : ℕ) → AreBytes xs → u16_at xs at < 2 ^ 16
unfolding u16_at
two_small xs at each = little_from-lt 0 2 (drop at xs) (bytes_drop xs at each)

four_small : (xs : List ℕ) (at : ℕ) → AreBytes xs → u32_at xs at < 2 ^ 32
unfolding u32_at
four_small xs at each = little_from-lt 0 4 (drop at xs) (bytes_drop xs at each)

words_small : (xs : List ℕ) (k : ℕ) → AreBytes xs → get_or (words_of xs) k 0 < 2 ^ 32
words_small xs k each =
    ⊎_elim (λ (past : length xs < 4 * k + 4). let z = word_past xs k past in rw z (omega arith))
    (λ (le : 4 * k + 4 ≤ length xs). rw (word_at xs k le) (four_small xs (4 * k) each)) (cases_lt (length xs) (4 * k + 4))

pub is_dinode-inode_in : (xs : List ℕ) → length xs ≡ 64 → ((k : ℕ) → get_or xs k 0 < 256) → IsDinode (inode_in xs)
unfolding inode_in
is_dinode-inode_in xs size each = record {
  kind = two_small xs 0 each;
  major = two_small xs 2 each;
  minor = two_small xs 4 each;
  nlink = two_small xs 6 each;
  size = four_small xs 8 each;
  count = thirteen xs size;
  addrs = λ k. words_small (drop 12 xs) k (bytes_drop xs 12 each);
}

-- the inode of a number whose block is one
pub is_dinode-inode_of : (x : Image) (i : ℕ) → IsBlock (block_at x (inode_block i)) → IsDinode (inode_of x i)
unfolding inode_of
is_dinode-inode_of x i is =
    let block = block_at x (inode_block i) in
    let size = is.size in
    let len = length-between block (i % 16 * 64) (i % 16 * 64 + 64) (omega arith) in
    let dropped = length-drop (i % 16 * 64) block in
    is_dinode-inode_in (inode_bytes_in block i) (omega arith)
    (bytes_take (drop (i % 16 * 64) block) (i % 16 * 64 + 64 - i % 16 * 64) (omega arith) (bytes_drop block (i % 16 * 64) is.each))

-- ---- the inode of a new file

zeroes_at : (n k : ℕ) → get_or {A = ℕ} (replicate n 0) k 0 ≡ 0
zeroes_at zero k = refl
zeroes_at (suc n) zero = refl
zeroes_at (suc n) (suc k) = zeroes_at n k

pub is_dinode-new_inode : (kind : ℕ) → kind ≤ 3 → IsDinode (new_inode kind)
is_dinode-new_inode kind h = record {
  kind = omega arith;
  major = omega arith;
  minor = omega arith;
  nlink = omega arith;
  size = omega arith;
  count = refl;
  addrs = λ k. let z = zeroes_at 13 k in omega (arith, z);
}

-- ---- another inode at a number

-- the inode block of the number is there, and whole
pub record IsPlaced (x : Image) (i : ℕ) : Type 0 where
  pub within : inode_block i < length x
  pub full : length (block_at x (inode_block i)) ≡ 1024

pub inode_of-with_inode : (x : Image) (i : ℕ) (d : Dinode) → IsPlaced x i → IsDinode d → inode_of (with_inode x i d) i ≡ d
unfolding inode_of
inode_of-with_inode x i d there is =
    let b = inode_block i in
    ap (λ bytes. inode_in (inode_bytes_in bytes i)) (get_or-set_same x b (with_inode_bytes (block_at x b) i d) [] there.within)
    ∙ inode_in-with_inode_bytes (block_at x b) i d there.full is

pub inode_bytes-with_inode_other : (x : Image) (i j : ℕ) (d : Dinode) → IsPlaced x i → IsDinode d → j ≢ i →
    inode_bytes (with_inode x i d) j ≡ inode_bytes x j
inode_bytes-with_inode_other x i j d there is other =
    let b = inode_block i in
    let v = with_inode_bytes (block_at x b) i d in
    ⊎_elim
    (λ (e : inode_block j ≡ b).
    ap (λ c. inode_bytes_in (block_at (with_inode x i d) c) j) e
    ∙ ap (λ bytes. inode_bytes_in bytes j) (get_or-set_same x b v [] there.within)
    ∙ inode_bytes_in-with_inode_bytes_other (block_at x b) i j d there.full is.count (λ same. other (omega arith))
    ∙ ap (λ c. inode_bytes_in (block_at x c) j) (sym e))
    (λ (apart : inode_block j ≢ b). ap (λ bytes. inode_bytes_in bytes j) (get_or-set_other x b (inode_block j) v [] apart))
    (cases_eq (inode_block j) b)

pub inode_of-with_inode_other : (x : Image) (i j : ℕ) (d : Dinode) → IsPlaced x i → IsDinode d → j ≢ i →
    inode_of (with_inode x i d) j ≡ inode_of x j
unfolding inode_of
inode_of-with_inode_other x i j d there is other = ap inode_in (inode_bytes-with_inode_other x i j d there is other)
