-- The pointers of an inode, step by step.
use Rattle.std.proofs.Common.{◌≡◌, ◌≢◌, ℕ, zero, suc, ◌+◌, ◌-◌, ◌*◌, ◌<◌, ◌≤◌, List, [], ◌∷◌, ◌++◌, length, get_or, drop, refl, sym, ap, ◌∙◌, arith}
use Rattle.std.proofs.lemmas.Bool.{ne_eqb}
use Rattle.std.proofs.Math.Numerals.{sub-one}
use Rattle.std.proofs.lemmas.List.{at_drop_more, at_drop_all, append_assoc, drop_more, drop_all}
use Rattle.model.specs.declared.types.image.Pointer.{Pointer}
use Rattle.blocks.specs.Block.{IsBlock}
use Rattle.blocks.specs.Disk.{Image, block_at}
use Rattle.model.specs.Fields.{u32_at, words_of}
use Rattle.model.specs.Layout.{reach}
use Rattle.model.specs.Places.{pointer_of, pointers_under, pointers_behind, pointers_along}
use Rattle.model.specs.Lemmas.Words.{word_at, word_below, four_times_words}

-- the bytes of a block are 1024
pub whole_block : (bytes block : List ℕ) → bytes ≡ block → IsBlock block → length bytes ≡ 1024
whole_block bytes block e is = ap length e ∙ is.size

-- the pointers behind the addresses of a block, from the k-th on
unfoldable pub behind_from : Image → ℕ → ℕ → ℕ → List ℕ → ℕ → List Pointer
behind_from x size depth first bytes k =
    pointers_behind (λ f a. pointers_under x size depth f a) first (reach depth) (drop k (words_of bytes))

-- one address more
pub behind_more : (x : Image) (size depth first : ℕ) (bytes : List ℕ) (k : ℕ) → 4 * k + 4 ≤ length bytes →
    behind_from x size depth first bytes k
    ≡ pointers_under x size depth first (u32_at bytes (4 * k)) ++ behind_from x size depth (first + reach depth) bytes (k + 1)
unfolding behind_from
behind_more x size depth first bytes k h =
    at_drop_more (pointers_behind (λ f a. pointers_under x size depth f a) first (reach depth)) (words_of bytes) k 0 (word_below bytes k h)
    ∙ ap (λ a. pointers_under x size depth first a ++ behind_from x size depth (first + reach depth) bytes (k + 1)) (word_at bytes k h)

-- behind the last address there is none
pub behind_all : (x : Image) (size depth first : ℕ) (bytes : List ℕ) (k : ℕ) → length bytes ≤ 4 * k →
    behind_from x size depth first bytes k ≡ []
unfolding behind_from
behind_all x size depth first bytes k h =
    let r = four_times_words bytes in
    at_drop_all (pointers_behind (λ f a. pointers_under x size depth f a) first (reach depth)) (words_of bytes) k (omega arith)

-- an address of a block of addresses
pub under_block : (x : Image) (size depth first address : ℕ) → depth ≢ 0 → address ≢ 0 →
    pointers_under x size depth first address
    ≡ pointer_of size first address ∷ behind_from x size (depth - 1) first (block_at x address) 0
unfolding behind_from
under_block x size zero first address d a = absurd (d refl)
under_block x size (suc depth) first address d a =
    rw (ne_eqb address 0 a, sub-one) refl

-- one turn of the loop over a block's addresses
pub behind_step : (x : Image) (size depth at : ℕ) (bytes : List ℕ) (k word step : ℕ) (pointers behind taken new total : List Pointer) →
    4 * k + 4 ≤ length bytes → word ≡ u32_at bytes (4 * k) → step ≡ reach depth →
    behind ≡ pointers_under x size depth at word → taken ≡ behind → new ≡ pointers ++ taken →
    pointers ++ behind_from x size depth at bytes k ≡ total → new ++ behind_from x size depth (at + step) bytes (k + 1) ≡ total
behind_step x size depth at bytes k word step pointers behind taken new total h hword hstep hbehind htaken hnew inv =
    rw (hnew, htaken, hbehind, hword, hstep)
    (append_assoc pointers (pointers_under x size depth at (u32_at bytes (4 * k))) (behind_from x size depth (at + reach depth) bytes (k + 1))
    ∙ ap (λ r. pointers ++ r) (sym (behind_more x size depth at bytes k h)) ∙ inv)

-- the pointers along addresses from the k-th on
unfoldable pub along_from : Image → ℕ → ℕ → List ℕ → List ℕ → ℕ → List Pointer
along_from x size first depths addresses k = pointers_along x size first (drop k depths) (drop k addresses)

-- one turn of the loop over addresses
pub along_step : (x : Image) (size first : ℕ) (depths addresses : List ℕ) (k depth address step : ℕ) (pointers under taken new total : List Pointer) →
    k < length depths → k < length addresses → depth ≡ get_or depths k 0 → address ≡ get_or addresses k 0 → step ≡ reach depth →
    under ≡ pointers_under x size depth first address → taken ≡ under → new ≡ pointers ++ taken →
    pointers ++ along_from x size first depths addresses k ≡ total → new ++ along_from x size (first + step) depths addresses (k + 1) ≡ total
unfolding along_from
along_step x size first depths addresses k depth address step pointers under taken new total hd ha ed ea es eu et en inv =
    let d = drop_more depths k 0 hd in
    let a = drop_more addresses k 0 ha in
    let whole : pointers_along x size first (drop k depths) (drop k addresses)
    ≡ pointers_under x size depth first address ++ pointers_along x size (first + step) (drop (k + 1) depths) (drop (k + 1) addresses)
    = rw (d, a, es, ed, ea) refl in
    rw (en, et, eu) (append_assoc pointers (pointers_under x size depth first address) (pointers_along x size (first + step) (drop (k + 1) depths) (drop (k + 1) addresses))
    ∙ ap (λ r. pointers ++ r) (sym whole) ∙ inv)

pub along_all : (x : Image) (size first : ℕ) (depths addresses : List ℕ) (k : ℕ) → length depths ≤ k →
    along_from x size first depths addresses k ≡ []
unfolding along_from
along_all x size first depths addresses k h = rw (drop_all k depths h) refl

pub along_none : (x : Image) (size first : ℕ) (depths addresses : List ℕ) →
    along_from x size first depths addresses 0 ≡ pointers_along x size first depths addresses
unfolding along_from
along_none x size first depths addresses = refl
