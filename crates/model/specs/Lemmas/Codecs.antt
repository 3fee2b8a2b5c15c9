-- What was written into a block is read again, and the rest stays.
use Rattle.std.proofs.Common.{◌≡◌, ◌≢◌, ◌⊎◌, inl, inr, ℕ, zero, suc, ◌+◌, ◌-◌, ◌*◌, ◌/◌, ◌%◌, ◌^◌, ◌≤◌, ◌<◌, min, List, [], ◌∷◌, ◌++◌, length, take, drop, get_or, set, slice_index, replicate, refl, sym, ap, ap₂, ◌∙◌, ⊎_elim, add-one, arith}
use Rattle.std.specs.Prelude.{slice_range, bit_or}
use Rattle.std.specs.Int.{byte_at, bytes_low_first}
use Rattle.model.specs.Common.{append-nil, append_assoc, cases_eq, cases_lt, Dinode, drop-drop, drop_all, drop_at, ext_get_or, Form, get_or-append_right, get_or-between, get_or-drop, get_or-set_other, get_or-set_same, get_or-take, get_or_append_left, homes_in, inode_bytes_in, is_block-zero_block, IsBlock, length-append, length-between, length-drop, length-replicate, length-set, length-take-le, length-zero_block, little_number-reads_back, logged_in, magic_of, One, overwritten, pow_below, same_lists, set_split, Super, take_at, take_more, Two, words_of}
use Rattle.byteorder.specs.Endian.{little_bytes, little_number}
use Rattle.blocks.specs.Block.{zero_block}
use Rattle.model.specs.Fields.{u16_at, u32_at}
use Rattle.model.specs.Layout.{super_in, inode_in}
use Rattle.model.specs.Codec.{bytes_of_words, block_of_words, super_words, super_block, header_block, dinode_bytes, IsDinode, with_inode_bytes, with_entry, with_bit, first_bits}
use Rattle.model.specs.Lemmas.Words.{word_at, length-words_of-block}

-- ---- bytes in the place of others

pub length-overwritten : (old : List ℕ) (at : ℕ) (bytes : List ℕ) → at + length bytes ≤ length old →
    length (overwritten old at bytes) ≡ length old
length-overwritten old at bytes h =
    omega (
      arith,
      length-append (take at old ++ bytes) (drop (at + length bytes) old),
      length-append (take at old) bytes,
      length-take-le at old (omega arith),
      length-drop (at + length bytes) old,
    )

pub drop-overwritten : (old : List ℕ) (at : ℕ) (bytes : List ℕ) → at ≤ length old →
    drop at (overwritten old at bytes) ≡ bytes ++ drop (at + length bytes) old
drop-overwritten old at bytes h =
    ap (drop at) (append_assoc (take at old) bytes (drop (at + length bytes) old))
    ∙ drop_at (take at old) (bytes ++ drop (at + length bytes) old) at (length-take-le at old h)

pub get_or-overwritten_before : (old : List ℕ) (at : ℕ) (bytes : List ℕ) (i d : ℕ) → at ≤ length old → i < at →
    get_or (overwritten old at bytes) i d ≡ get_or old i d
get_or-overwritten_before old at bytes i d h below =
    let rest = drop (at + length bytes) old in
    let len = length-take-le at old h in
    ap (λ (l : List ℕ). get_or l i d) (append_assoc (take at old) bytes rest)
    ∙ get_or_append_left (take at old) (bytes ++ rest) d i (omega arith)
    ∙ get_or-take at old i d below

pub get_or-overwritten_behind : (old : List ℕ) (at : ℕ) (bytes : List ℕ) (i d : ℕ) → at ≤ length old → at + length bytes ≤ i →
    get_or (overwritten old at bytes) i d ≡ get_or old i d
get_or-overwritten_behind old at bytes i d h above =
    let n = at + length bytes in
    let len = length-append (take at old) bytes in
    let at_len = length-take-le at old h in
    let whole : n + (i - n) ≡ i = omega arith in
    get_or-append_right (take at old ++ bytes) (drop n old) n i d (omega arith) above
    ∙ get_or-drop n old (i - n) d
    ∙ ap (λ (k : ℕ). get_or old k d) whole

pub get_or-overwritten_in : (old : List ℕ) (at : ℕ) (bytes : List ℕ) (k d : ℕ) → at ≤ length old → k < length bytes →
    get_or (overwritten old at bytes) (at + k) d ≡ get_or bytes k d
get_or-overwritten_in old at bytes k d h below =
    sym (get_or-drop at (overwritten old at bytes) k d)
    ∙ ap (λ (l : List ℕ). get_or l k d) (drop-overwritten old at bytes h)
    ∙ get_or_append_left bytes (drop (at + length bytes) old) d k below

-- two writes, the second right behind the first
pub overwritten-join : (old a b : List ℕ) (at next : ℕ) → next ≡ at + length a → at ≤ length old →
    overwritten (overwritten old at a) next b ≡ overwritten old at (a ++ b)
overwritten-join old a b at next is inside =
    let rest = drop (at + length a) old in
    let len : length (take at old ++ a) ≡ next = omega (arith, is, length-append (take at old) a, length-take-le at old inside) in
    let front : take next (overwritten old at a) ≡ take at old ++ a = take_at (take at old ++ a) rest next len in
    let back : drop (next + length b) (overwritten old at a) ≡ drop (at + length (a ++ b)) old =
    sym (drop-drop (length b) next (overwritten old at a))
    ∙ ap (drop (length b)) (drop_at (take at old ++ a) rest next len)
    ∙ drop-drop (length b) (at + length a) old
    ∙ ap (λ (k : ℕ). drop k old) (omega (arith, length-append a b)) in
    ap₂ (λ (x y : List ℕ). x ++ b ++ y) front back
    ∙ ap (λ (x : List ℕ). x ++ drop (at + length (a ++ b)) old) (append_assoc (take at old) a b)

-- one byte in the place of another
pub overwritten_one : (old : List ℕ) (at v : ℕ) → at < length old → overwritten old at (v ∷ []) ≡ set old at v
overwritten_one old at v h =
    let next : at + 1 ≡ suc at = omega arith in
    append_assoc (take at old) (v ∷ []) (drop (at + 1) old)
    ∙ ap (λ (k : ℕ). take at old ++ v ∷ drop k old) next
    ∙ sym (set_split old at v h)

pub slice_range-overwritten : (old : List ℕ) (at : ℕ) (bytes : List ℕ) (n : ℕ) → length bytes ≡ n → at ≤ length old →
    slice_range (overwritten old at bytes) at (at + n) ≡ bytes
slice_range-overwritten old at bytes n len h =
    let width : at + n - at ≡ n = omega arith in
    ap₂ (λ (k : ℕ) (l : List ℕ). take k l) width (drop-overwritten old at bytes h)
    ∙ take_at bytes (drop (at + length bytes) old) n len

-- bytes that lie apart stay
pub slice_range-overwritten_apart : (old : List ℕ) (at : ℕ) (bytes : List ℕ) (i j : ℕ) → at + length bytes ≤ length old →
    j ≤ length old → (j ≤ at) ⊎ (at + length bytes ≤ i) →
    slice_range (overwritten old at bytes) i j ≡ slice_range old i j
slice_range-overwritten_apart old at bytes i j h inside apart =
    let len = length-overwritten old at bytes h in
    let new_len = length-between (overwritten old at bytes) i j (omega arith) in
    let old_len = length-between old i j inside in
    same_lists (slice_range (overwritten old at bytes) i j) (slice_range old i j) (omega arith)
    (λ k d below. get_or-between (overwritten old at bytes) i j k d (omega arith)
    ∙ ⊎_elim (λ (low : j ≤ at). get_or-overwritten_before old at bytes (i + k) d (omega arith) (omega arith))
    (λ (high : at + length bytes ≤ i). get_or-overwritten_behind old at bytes (i + k) d (omega arith) (omega arith)) apart
    ∙ sym (get_or-between old i j k d (omega arith)))

-- ---- numbers below 256

byte_small : (j n : ℕ) → byte_at j n < 256
byte_small zero n = omega arith
byte_small (suc j) n = omega arith

low_bytes_small : (j n x i : ℕ) → slice_index (bytes_low_first j n x) i < 256
low_bytes_small j zero x i = omega arith
low_bytes_small j (suc n) x zero = byte_small j x
low_bytes_small j (suc n) x (suc i) = low_bytes_small (suc j) n x i

pub little_bytes_small : (n x i : ℕ) → slice_index (little_bytes n x) i < 256
little_bytes_small n x i = low_bytes_small 0 n x i

append_small : (xs ys : List ℕ) → ((i : ℕ) → slice_index xs i < 256) → ((i : ℕ) → slice_index ys i < 256) →
    (i : ℕ) → slice_index (xs ++ ys) i < 256
append_small [] ys hx hy i = hy i
append_small (x ∷ xs) ys hx hy zero = hx 0
append_small (x ∷ xs) ys hx hy (suc i) = append_small xs ys (λ k. hx (suc k)) hy i

pub bytes_of_words_small : (ws : List ℕ) (i : ℕ) → slice_index (bytes_of_words ws) i < 256
bytes_of_words_small [] i = omega arith
bytes_of_words_small (w ∷ ws) i = append_small (little_bytes 4 w) (bytes_of_words ws) (little_bytes_small 4 w) (bytes_of_words_small ws) i

-- a block with other bytes in it is a block
pub is_block-overwritten : (old : List ℕ) (at : ℕ) (bytes : List ℕ) → IsBlock old → at + length bytes ≤ 1024 →
    ((i : ℕ) → slice_index bytes i < 256) → IsBlock (overwritten old at bytes)
is_block-overwritten old at bytes is h small = record {
  size = length-overwritten old at bytes (omega (arith, is.size)) ∙ is.size;
  each = λ i. each i (cases_lt i at) (cases_lt i (at + length bytes));
}
  where
    each : (i : ℕ) → (i < at) ⊎ (at ≤ i) → (i < at + length bytes) ⊎ (at + length bytes ≤ i) → slice_index (overwritten old at bytes) i < 256
    each i (inl below) end =
        omega (arith, is.each i, (get_or-overwritten_before old at bytes i 0 (omega (arith, is.size)) below))
    each i (inr from) (inr behind) =
        omega (arith, is.each i, (get_or-overwritten_behind old at bytes i 0 (omega (arith, is.size)) behind))
    each i (inr from) (inl within) =
        let place : at + (i - at) ≡ i = omega arith in
        let new : slice_index (overwritten old at bytes) i ≡ slice_index bytes (i - at) =
        ap (λ (k : ℕ). slice_index (overwritten old at bytes) k) (sym place) ∙ get_or-overwritten_in old at bytes (i - at) 0 (omega (arith, is.size)) (omega arith) in
        omega (arith, small (i - at), new)

-- ---- numbers of four bytes

pub length-bytes_of_words : (ws : List ℕ) → length (bytes_of_words ws) ≡ 4 * length ws
length-bytes_of_words [] = refl
length-bytes_of_words (w ∷ ws) = let e = length-bytes_of_words ws in omega (arith, e)

-- one more number
pub bytes_of_words_more : (ws : List ℕ) (w : ℕ) → bytes_of_words (ws ++ w ∷ []) ≡ bytes_of_words ws ++ little_bytes 4 w
bytes_of_words_more [] w = refl
bytes_of_words_more (v ∷ ws) w =
    ap (λ (l : List ℕ). little_bytes 4 v ++ l) (bytes_of_words_more ws w)
    ∙ sym (append_assoc (little_bytes 4 v) (bytes_of_words ws) (little_bytes 4 w))

-- what was written as numbers is read as numbers
pub words_of-bytes : (ws rest : List ℕ) → ((k : ℕ) → slice_index ws k < 2 ^ 32) →
    words_of (bytes_of_words ws ++ rest) ≡ ws ++ words_of rest
words_of-bytes [] rest h = refl
words_of-bytes (w ∷ ws) rest h =
    ap₂ (λ (x : ℕ) (xs : List ℕ). x ∷ xs) (little_number-reads_back 4 w [] (h 0)) (words_of-bytes ws rest (λ k. h (suc k)))

pub words_of-bytes_all : (ws : List ℕ) → ((k : ℕ) → slice_index ws k < 2 ^ 32) → words_of (bytes_of_words ws) ≡ ws
words_of-bytes_all ws h = ap words_of (sym (append-nil (bytes_of_words ws))) ∙ words_of-bytes ws [] h ∙ append-nil ws

pub is_block-block_of_words : (ws : List ℕ) → length ws ≤ 256 → IsBlock (block_of_words ws)
unfolding block_of_words
is_block-block_of_words ws few =
    is_block-overwritten zero_block 0 (bytes_of_words ws) is_block-zero_block (omega (arith, length-bytes_of_words ws)) (bytes_of_words_small ws)

-- the numbers that a block begins with
pub u32_at-block_of_words : (ws : List ℕ) (k : ℕ) → length ws ≤ 256 → ((j : ℕ) → slice_index ws j < 2 ^ 32) → k < length ws →
    u32_at (block_of_words ws) (4 * k) ≡ slice_index ws k
unfolding block_of_words
u32_at-block_of_words ws k few small below =
    let len = length-overwritten zero_block 0 (bytes_of_words ws) (omega (arith, length-bytes_of_words ws, length-zero_block)) in
    let rest = drop (0 + length (bytes_of_words ws)) zero_block in
    sym (word_at (overwritten zero_block 0 (bytes_of_words ws)) k (omega (arith, len, length-zero_block)))
    ∙ ap (λ (l : List ℕ). get_or l k 0) (words_of-bytes ws rest small)
    ∙ get_or_append_left ws (words_of rest) 0 k below

-- a write of numbers, one more of them
pub overwritten_more_words : (old words : List ℕ) (at k : ℕ) → at + 4 * length words ≤ length old → k < length words →
    overwritten (overwritten old at (bytes_of_words (take k words))) (at + 4 * k) (little_bytes 4 (get_or words k 0))
    ≡ overwritten old at (bytes_of_words (take (k + 1) words))
overwritten_more_words old words at k h below =
    let len : length (bytes_of_words (take k words)) ≡ 4 * k =
    omega (arith, length-bytes_of_words (take k words), length-take-le k words (omega arith)) in
    overwritten-join old (bytes_of_words (take k words)) (little_bytes 4 (get_or words k 0)) at (at + 4 * k) (omega (arith, len)) (omega arith)
    ∙ ap (overwritten old at) (sym (ap bytes_of_words (take_more words k 0 below) ∙ bytes_of_words_more (take k words) (get_or words k 0)))

-- all bytes of a block
pub overwritten_whole : (old bytes : List ℕ) → length old ≡ length bytes → overwritten old 0 bytes ≡ bytes
overwritten_whole old bytes h =
    ap (λ (l : List ℕ). bytes ++ l) (drop_all (0 + length bytes) old (omega arith)) ∙ append-nil bytes

pub overwritten_zeroes : (old : List ℕ) → length old ≡ 1024 → overwritten old 0 (replicate 1024 0) ≡ zero_block
unfolding zero_block
overwritten_zeroes old h = overwritten_whole old (replicate 1024 0) (h ∙ sym (length-replicate {A = ℕ} 1024 0))

-- a block of numbers, written over zeroes
pub block_of_words_written : (words : List ℕ) → overwritten zero_block 0 (bytes_of_words words) ≡ block_of_words words
unfolding block_of_words
block_of_words_written words = refl

-- the same where the first is written by itself
pub block_of_words_after : (first : ℕ) (words : List ℕ) → length words ≤ 255 →
    overwritten (overwritten zero_block 0 (little_bytes 4 first)) 4 (bytes_of_words words) ≡ block_of_words (first ∷ words)
unfolding block_of_words
block_of_words_after first words few =
    overwritten-join zero_block (little_bytes 4 first) (bytes_of_words words) 0 4 refl (omega (arith, length-bytes_of_words words, length-zero_block))

-- ---- the superblock

magic_small : (form : Form) → magic_of form < 2 ^ 32
magic_small One = omega arith
magic_small Two = omega arith

super_small : (form : Form) (s : Super) → s.size < 2 ^ 32 → s.nblocks < 2 ^ 32 → s.ninodes < 2 ^ 32 → s.nlog < 2 ^ 32
    → s.logstart < 2 ^ 32 → s.inodestart < 2 ^ 32 → s.bmapstart < 2 ^ 32 → (k : ℕ) → slice_index (super_words form s) k < 2 ^ 32
super_small form s a b c d e f g zero = magic_small form
super_small form s a b c d e f g (suc zero) = a
super_small form s a b c d e f g (suc (suc zero)) = b
super_small form s a b c d e f g (suc (suc (suc zero))) = c
super_small form s a b c d e f g (suc (suc (suc (suc zero)))) = d
super_small form s a b c d e f g (suc (suc (suc (suc (suc zero))))) = e
super_small form s a b c d e f g (suc (suc (suc (suc (suc (suc zero)))))) = f
super_small form s a b c d e f g (suc (suc (suc (suc (suc (suc (suc zero))))))) = g
super_small form s a b c d e f g (suc (suc (suc (suc (suc (suc (suc (suc k)))))))) = omega arith

pub is_block-super_block : (form : Form) (s : Super) → IsBlock (super_block form s)
is_block-super_block form s = is_block-block_of_words (super_words form s) (omega arith)

-- the first number of a block
first_word : (w : ℕ) (ws : List ℕ) → w < 2 ^ 32 → u32_at (block_of_words (w ∷ ws)) 0 ≡ w
unfolding block_of_words u32_at
first_word w ws h = little_number-reads_back 4 w (bytes_of_words ws ++ drop (0 + length (bytes_of_words (w ∷ ws))) zero_block) h

-- the magic number is the first
pub magic-super_block : (form : Form) (s : Super) → u32_at (super_block form s) 0 ≡ magic_of form
magic-super_block form s =
    first_word (magic_of form) (s.size ∷ s.nblocks ∷ s.ninodes ∷ s.nlog ∷ s.logstart ∷ s.inodestart ∷ s.bmapstart ∷ []) (magic_small form)

-- the fields that were written are read
pub super_in-super_block : (form : Form) (s : Super) → s.size < 2 ^ 32 → s.nblocks < 2 ^ 32 → s.ninodes < 2 ^ 32 → s.nlog < 2 ^ 32
    → s.logstart < 2 ^ 32 → s.inodestart < 2 ^ 32 → s.bmapstart < 2 ^ 32 → super_in (super_block form s) ≡ s
unfolding super_in
super_in-super_block form s a b c d e f g =
    let small = super_small form s a b c d e f g in
    let field = λ (k : ℕ) (below : k < 8). u32_at-block_of_words (super_words form s) k (omega arith) small below in
    let inodestart : u32_at (super_block form s) 24 ≡ s.inodestart = field 6 (omega arith) in
    let bmapstart : u32_at (super_block form s) 28 ≡ s.bmapstart = field 7 (omega arith) in
    rw ((field 1 (omega arith)), (field 2 (omega arith)), (field 3 (omega arith)), (field 4 (omega arith)), (field 5 (omega arith)), inodestart, bmapstart) refl

-- ---- the log's header

header_small : (homes : List ℕ) → length homes ≤ 30 → ((k : ℕ) → slice_index homes k < 2 ^ 32) →
    (k : ℕ) → slice_index (length homes ∷ homes) k < 2 ^ 32
header_small homes few small zero = omega arith
header_small homes few small (suc k) = small k

-- the number of homes that was written is read
pub logged_in-header_block : (homes : List ℕ) → length homes ≤ 30 → ((k : ℕ) → slice_index homes k < 2 ^ 32) →
    logged_in (header_block homes) ≡ length homes
logged_in-header_block homes few small =
    u32_at-block_of_words (length homes ∷ homes) 0 (omega arith) (header_small homes few small) (omega arith)

header_words : (homes : List ℕ) → ((k : ℕ) → slice_index homes k < 2 ^ 32) →
    words_of (drop 4 (header_block homes)) ≡ homes ++ words_of (drop (0 + length (bytes_of_words (length homes ∷ homes))) zero_block)
unfolding block_of_words
header_words homes small = words_of-bytes homes (drop (0 + length (bytes_of_words (length homes ∷ homes))) zero_block) small

-- and so are the homes
pub homes_in-header_block : (homes : List ℕ) → length homes ≤ 30 → ((k : ℕ) → slice_index homes k < 2 ^ 32) →
    homes_in (header_block homes) ≡ homes
homes_in-header_block homes few small =
    let count : min (logged_in (header_block homes)) 30 ≡ length homes = omega (arith, logged_in-header_block homes few small) in
    ap₂ (λ (n : ℕ) (ws : List ℕ). take n ws) count (header_words homes small)
    ∙ take_at homes _ (length homes) refl

-- ---- an inode

pub length-dinode_bytes : (d : Dinode) → length d.addrs ≡ 13 → length (dinode_bytes d) ≡ 64
unfolding dinode_bytes
length-dinode_bytes d h = omega (arith, length-bytes_of_words d.addrs)

-- the inode that was written is read
pub inode_in-dinode_bytes : (d : Dinode) → IsDinode d → inode_in (dinode_bytes d) ≡ d
unfolding inode_in dinode_bytes u16_at u32_at
inode_in-dinode_bytes d is =
    let from_size = little_bytes 4 d.size ++ bytes_of_words d.addrs in
    let from_nlink = little_bytes 2 d.nlink ++ from_size in
    let from_minor = little_bytes 2 d.minor ++ from_nlink in
    let major : little_number 2 (drop 2 (dinode_bytes d)) ≡ d.major = little_number-reads_back 2 d.major from_minor is.major in
    let minor : little_number 2 (drop 4 (dinode_bytes d)) ≡ d.minor = little_number-reads_back 2 d.minor from_nlink is.minor in
    let nlink : little_number 2 (drop 6 (dinode_bytes d)) ≡ d.nlink = little_number-reads_back 2 d.nlink from_size is.nlink in
    let size : little_number 4 (drop 8 (dinode_bytes d)) ≡ d.size = little_number-reads_back 4 d.size (bytes_of_words d.addrs) is.size in
    rw ((little_number-reads_back 2 d.kind (little_bytes 2 d.major ++ from_minor) is.kind), major, minor, nlink, size, (words_of-bytes_all d.addrs is.addrs)) refl

-- what was written at the place of a number is read there
pub inode_in-with_inode_bytes : (block : List ℕ) (i : ℕ) (d : Dinode) → length block ≡ 1024 → IsDinode d →
    inode_in (inode_bytes_in (with_inode_bytes block i d) i) ≡ d
inode_in-with_inode_bytes block i d size is =
    ap inode_in (slice_range-overwritten block (i % 16 * 64) (dinode_bytes d) 64 (length-dinode_bytes d is.count) (omega arith))
    ∙ inode_in-dinode_bytes d is

-- the other inodes of the block stay
pub inode_bytes_in-with_inode_bytes_other : (block : List ℕ) (i j : ℕ) (d : Dinode) → length block ≡ 1024 → length d.addrs ≡ 13 →
    j % 16 ≢ i % 16 → inode_bytes_in (with_inode_bytes block i d) j ≡ inode_bytes_in block j
inode_bytes_in-with_inode_bytes_other block i j d size count other =
    let len = length-dinode_bytes d count in
    let apart : (j % 16 * 64 + 64 ≤ i % 16 * 64) ⊎ (i % 16 * 64 + 64 ≤ j % 16 * 64) =
    ⊎_elim (λ (below : j % 16 < i % 16). inl (omega arith)) (λ (from : i % 16 ≤ j % 16). inr (omega (arith, other))) (cases_lt (j % 16) (i % 16)) in
    slice_range-overwritten_apart block (i % 16 * 64) (dinode_bytes d) (j % 16 * 64) (j % 16 * 64 + 64) (omega (arith, len)) (omega arith)
    (⊎_elim (λ (low : j % 16 * 64 + 64 ≤ i % 16 * 64). inl low) (λ (high : i % 16 * 64 + 64 ≤ j % 16 * 64). inr (omega (arith, len))) apart)

-- ---- entries of a block of addresses

u32_at_same : (xs ys : List ℕ) (at : ℕ) → ((k : ℕ) → k < 4 → get_or xs (at + k) 0 ≡ get_or ys (at + k) 0) → u32_at xs at ≡ u32_at ys at
unfolding u32_at
u32_at_same xs ys at each =
    let byte : (k : ℕ) → k < 4 → slice_index (drop at xs) k ≡ slice_index (drop at ys) k =
    λ k h. get_or-drop at xs k 0 ∙ each k h ∙ sym (get_or-drop at ys k 0) in
    rw ((byte 0 (omega arith)), (byte 1 (omega arith)), (byte 2 (omega arith)), (byte 3 (omega arith))) refl

-- the number that was written is read
pub u32_at-overwritten : (old : List ℕ) (at n : ℕ) → at ≤ length old → n < 2 ^ 32 → u32_at (overwritten old at (little_bytes 4 n)) at ≡ n
unfolding u32_at
u32_at-overwritten old at n h small =
    ap (little_number 4) (drop-overwritten old at (little_bytes 4 n) h) ∙ little_number-reads_back 4 n (drop (at + 4) old) small

pub u32_at-overwritten_apart : (old : List ℕ) (at : ℕ) (bytes : List ℕ) (j : ℕ) → at ≤ length old →
    (j + 4 ≤ at) ⊎ (at + length bytes ≤ j) → u32_at (overwritten old at bytes) j ≡ u32_at old j
u32_at-overwritten_apart old at bytes j h apart =
    u32_at_same (overwritten old at bytes) old j
    (λ k below. ⊎_elim (λ (low : j + 4 ≤ at). get_or-overwritten_before old at bytes (j + k) 0 h (omega arith))
    (λ (high : at + length bytes ≤ j). get_or-overwritten_behind old at bytes (j + k) 0 h (omega arith)) apart)

-- the entries of a block in which one was written
pub words_of-with_entry : (block : List ℕ) (e address : ℕ) → length block ≡ 1024 → e < 256 → address < 2 ^ 32 →
    words_of (with_entry block e address) ≡ set (words_of block) e address
words_of-with_entry block e address size h small =
    let new_size : length (with_entry block e address) ≡ 1024 =
    length-overwritten block (4 * e) (little_bytes 4 address) (omega arith) ∙ size in
    let new_count = length-words_of-block (with_entry block e address) new_size in
    let count = length-words_of-block block size in
    let set_count = length-set (words_of block) e address in
    ext_get_or 0 (words_of (with_entry block e address)) (set (words_of block) e address) (omega arith)
    (λ f below. entry_after f (omega arith) new_size count (cases_eq f e))
  where
    entry_after : (f : ℕ) → f < 256 → length (with_entry block e address) ≡ 1024 → length (words_of block) ≡ 256 → (f ≡ e) ⊎ (f ≡ e → ⊥) →
        get_or (words_of (with_entry block e address)) f 0 ≡ get_or (set (words_of block) e address) f 0
    entry_after f below new_size count (inl same) =
        word_at (with_entry block e address) f (omega arith)
        ∙ ap (λ (k : ℕ). u32_at (with_entry block e address) (4 * k)) same
        ∙ u32_at-overwritten block (4 * e) address (omega arith) small
        ∙ sym (get_or-set_same (words_of block) e address 0 (omega arith))
        ∙ ap (λ (k : ℕ). get_or (set (words_of block) e address) k 0) (sym same)
    entry_after f below new_size count (inr other) =
        let apart : (4 * f + 4 ≤ 4 * e) ⊎ (4 * e + 4 ≤ 4 * f) =
        ⊎_elim (λ (low : f < e). inl (omega arith)) (λ (from : e ≤ f). inr (omega (arith, other))) (cases_lt f e) in
        word_at (with_entry block e address) f (omega arith)
        ∙ u32_at-overwritten_apart block (4 * e) (little_bytes 4 address) (4 * f) (omega arith) apart
        ∙ sym (word_at block f (omega arith))
        ∙ sym (get_or-set_other (words_of block) e f address 0 other)

-- the entry that was written is read
pub entry-with_entry : (block : List ℕ) (e address : ℕ) → length block ≡ 1024 → e < 256 → address < 2 ^ 32 →
    slice_index (words_of (with_entry block e address)) e ≡ address
entry-with_entry block e address size h small =
    let count = length-words_of-block block size in
    ap (λ (ws : List ℕ). get_or ws e 0) (words_of-with_entry block e address size h small)
    ∙ get_or-set_same (words_of block) e address 0 (omega arith)

-- ---- the bitmap

-- a bit set by a write of its byte, as code computes it
pub with_bit_written : (bytes : List ℕ) (k : ℕ) → k / 8 < length bytes →
    overwritten bytes (k / 8) (bit_or (slice_index bytes (k / 8)) (1 * 2 ^ (k % 8) % 2 ^ 8) ∷ []) ≡ with_bit bytes k
unfolding with_bit
with_bit_written bytes k h =
    let fits = pow_below (k % 8) 8 (omega arith) in
    let shifted : 1 * 2 ^ (k % 8) % 2 ^ 8 ≡ 2 ^ (k % 8) = omega arith in
    overwritten_one bytes (k / 8) _ h ∙ ap (λ (n : ℕ). set bytes (k / 8) (bit_or (slice_index bytes (k / 8)) n)) shifted

-- the first bits, one by one
pub first_bits_none : first_bits 0 ≡ zero_block
unfolding first_bits
first_bits_none = refl

pub first_bits_more : (n : ℕ) → with_bit (first_bits n) n ≡ first_bits (n + 1)
unfolding first_bits
first_bits_more n = ap first_bits (sym (add-one n))
