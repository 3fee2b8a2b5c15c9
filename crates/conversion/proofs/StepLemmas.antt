-- Steps of loops that move what is in a block.
use Rattle.std.proofs.Common.{◌≡◌, inr, ℕ, zero, suc, ◌+◌, ◌*◌, ◌%◌, ◌<◌, Bool, cond, List, [], length, map, take, get_or, refl, sym, ap, ◌∙◌, add-one, arith}
use Rattle.std.specs.List.{flat_map, range_with_len}
use Rattle.std.proofs.lemmas.List.{length-map, take_all}
use Rattle.blocks.specs.Block.{IsBlock, overwritten, zero_block}
use Rattle.byteorder.specs.Endian.{little_bytes}
use Rattle.model.specs.Codec.{bytes_of_words, with_bit, with_entry, with_inode_bytes}
use Rattle.model.specs.Common.{ext_get_or, inode_bytes_in, length-append, words_of}
use Rattle.model.specs.Layout.{inode_in}
use Rattle.model.specs.Lemmas.Codecs.{length-bytes_of_words, overwritten-join, overwritten_more_words, overwritten_whole, slice_range-overwritten_apart}
use Rattle.model.specs.Lemmas.Steps.{flat_mapped_more}
use Rattle.model.specs.Lemmas.Words.{length-words_of-block}
use Rattle.conversion.specs.Common.{moved, moved_inode, moved_inode_bytes}
use Rattle.conversion.specs.Moving.{bits_below, moved_inodes, moved_words}
use Rattle.conversion.proofs.AddressLemmas.{moved_at}
use Rattle.conversion.proofs.BlockLemmas.{length-moved_inode_bytes}

-- nothing is written yet
pub written_none : (old : List ℕ) → old ≡ overwritten old 0 []
written_none old = refl

-- ---- the inodes of a block

-- the bytes of the first k inodes, moved
abbrev pub first_inodes : ℕ → ℕ → List ℕ → ℕ → List ℕ
first_inodes from to block k = flat_map (moved_inode_bytes from to block) (range_with_len 0 k)

length-first_inodes : (from to : ℕ) (block : List ℕ) (a k : ℕ) → IsBlock block → length (flat_map (moved_inode_bytes from to block) (range_with_len a k)) ≡ 64 * k
length-first_inodes from to block a zero is = refl
length-first_inodes from to block a (suc k) is =
    let here = length-moved_inode_bytes from to block a is in
    let rest = length-first_inodes from to block (a + 1) k is in
    let both = length-append (moved_inode_bytes from to block a) (flat_map (moved_inode_bytes from to block) (range_with_len (a + 1) k)) in
    omega (arith, here, rest, both)

-- inode k is still the old one
pub inode_still : (from to : ℕ) (block : List ℕ) (k : ℕ) → IsBlock block → k < 16 →
    inode_bytes_in (overwritten block 0 (first_inodes from to block k)) k ≡ inode_bytes_in block k
inode_still from to block k is low =
    let size = is.size in
    let long = length-first_inodes from to block 0 k is in
    slice_range-overwritten_apart block 0 (first_inodes from to block k) (k % 16 * 64) (k % 16 * 64 + 64) (omega (arith, long, low, size)) (omega (arith, low, size))
    (inr (omega (arith, long, low)))

pub inodes_more : (from to : ℕ) (block now : List ℕ) (k : ℕ) → IsBlock block → k < 16 → now ≡ overwritten block 0 (first_inodes from to block k) →
    with_inode_bytes now k (moved_inode from to (inode_in (inode_bytes_in now k))) ≡ overwritten block 0 (first_inodes from to block (k + 1))
inodes_more from to block now k is low so_far =
    let first = first_inodes from to block k in
    let long = length-first_inodes from to block 0 k is in
    let place : k % 16 * 64 ≡ 0 + length first = omega (arith, long, low) in
    ap (λ (b : List ℕ). with_inode_bytes b k (moved_inode from to (inode_in (inode_bytes_in b k)))) so_far
    ∙ ap (λ (b : List ℕ). with_inode_bytes (overwritten block 0 first) k (moved_inode from to (inode_in b))) (inode_still from to block k is low)
    ∙ overwritten-join block first (moved_inode_bytes from to block k) 0 (k % 16 * 64) place (omega arith)
    ∙ ap (overwritten block 0) (sym (flat_mapped_more (moved_inode_bytes from to block) k))

pub inodes_all : (from to : ℕ) (block : List ℕ) → IsBlock block → overwritten block 0 (first_inodes from to block 16) ≡ moved_inodes from to block
unfolding moved_inodes
inodes_all from to block is =
    overwritten_whole block (first_inodes from to block 16) (omega (arith, is.size, length-first_inodes from to block 0 16 is))

-- ---- the addresses of a block

pub words_more : (from to : ℕ) (block now : List ℕ) (e : ℕ) → length block ≡ 1024 → e < 256 →
    now ≡ overwritten block 0 (bytes_of_words (take e (map (moved from to) (words_of block)))) →
    with_entry now e (moved from to (get_or (words_of block) e 0)) ≡ overwritten block 0 (bytes_of_words (take (e + 1) (map (moved from to) (words_of block))))
words_more from to block now e size low so_far =
    let words = map (moved from to) (words_of block) in
    let long : length words ≡ 256 = length-map (words_of block) (moved from to) ∙ length-words_of-block block size in
    let place : 4 * e ≡ 0 + 4 * e = omega arith in
    ap (λ (b : List ℕ). with_entry b e (moved from to (get_or (words_of block) e 0))) so_far
    ∙ ap (λ (a : ℕ). with_entry (overwritten block 0 (bytes_of_words (take e words))) e a) (sym (moved_at from to (words_of block) e))
    ∙ ap (λ (at : ℕ). overwritten (overwritten block 0 (bytes_of_words (take e words))) at (little_bytes 4 (get_or words e 0))) place
    ∙ overwritten_more_words block words 0 e (omega (arith, long, size)) (omega (arith, long, low))

pub words_all : (from to : ℕ) (block : List ℕ) → length block ≡ 1024 →
    overwritten block 0 (bytes_of_words (take 256 (map (moved from to) (words_of block)))) ≡ moved_words from to block
unfolding moved_words
words_all from to block size =
    let words = map (moved from to) (words_of block) in
    let long : length words ≡ 256 = length-map (words_of block) (moved from to) ∙ length-words_of-block block size in
    ap (λ (w : List ℕ). overwritten block 0 (bytes_of_words w)) (take_all 256 words (omega (arith, long)))
    ∙ overwritten_whole block (bytes_of_words words) (omega (arith, size, long, length-bytes_of_words words))

-- the addresses of an inode
pub addresses_all : (from to : ℕ) (old new : List ℕ) → length new ≡ length old → ((k : ℕ) → k < length old → get_or new k 0 ≡ moved from to (get_or old k 0)) →
    new ≡ map (moved from to) old
addresses_all from to old new long each =
    ext_get_or 0 new (map (moved from to) old) (long ∙ sym (length-map old (moved from to)))
    (λ k low. each k (omega (arith, long, low)) ∙ sym (moved_at from to old k))

-- ---- the bitmap

pub bits_none : (test : ℕ → Bool) → zero_block ≡ bits_below test 0
unfolding bits_below
bits_none test = refl

pub bits_more : (test : ℕ → Bool) (n : ℕ) → cond (test n) (with_bit (bits_below test n) n) (bits_below test n) ≡ bits_below test (n + 1)
unfolding bits_below
bits_more test n = ap (bits_below test) (sym (add-one n))

pub marks_more : (test : ℕ → Bool) (n : ℕ) (v : Bool) (old new : List ℕ) → old ≡ bits_below test n → v ≡ test n → new ≡ cond v (with_bit old n) old →
    new ≡ bits_below test (n + 1)
marks_more test n v old new so_far tested is =
    is ∙ ap (λ (w : Bool). cond w (with_bit old n) old) tested
    ∙ ap (λ (l : List ℕ). cond (test n) (with_bit l n) l) so_far ∙ bits_more test n
