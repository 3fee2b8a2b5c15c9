-- The words of a list of bytes, one by one.
use Rattle.std.proofs.Common.{◌≡◌, ℕ, zero, suc, ◌+◌, ◌*◌, ◌<◌, ◌≤◌, ◌++◌, List, [], ◌∷◌, length, get_or, take, drop, refl, sym, ap, ◌∙◌, arith}
use Rattle.model.specs.Common.{drop-drop, ext_get_or, get_or_past, length-drop, take_more, words_of}
use Rattle.model.specs.Fields.{u32_at}

four_more : (k : ℕ) → 4 * suc k ≡ suc (suc (suc (suc (4 * k))))
four_more k = omega arith

-- a word is the number at its four bytes
pub word_at : (bs : List ℕ) (k : ℕ) → 4 * k + 4 ≤ length bs → get_or (words_of bs) k 0 ≡ u32_at bs (4 * k)
unfolding u32_at
word_at [] k h = absurd (omega arith)
word_at (a ∷ []) k h = absurd (omega arith)
word_at (a ∷ b ∷ []) k h = absurd (omega arith)
word_at (a ∷ b ∷ c ∷ []) k h = absurd (omega arith)
word_at (a ∷ b ∷ c ∷ d ∷ rest) zero h = refl
word_at (a ∷ b ∷ c ∷ d ∷ rest) (suc k) h =
    word_at rest k (omega arith) ∙ ap (u32_at (a ∷ b ∷ c ∷ d ∷ rest)) (sym (four_more k))

-- there are as many words as whole fours of bytes
pub word_below : (bs : List ℕ) (k : ℕ) → 4 * k + 4 ≤ length bs → k < length (words_of bs)
word_below [] k h = absurd (omega arith)
word_below (a ∷ []) k h = absurd (omega arith)
word_below (a ∷ b ∷ []) k h = absurd (omega arith)
word_below (a ∷ b ∷ c ∷ []) k h = absurd (omega arith)
word_below (a ∷ b ∷ c ∷ d ∷ rest) zero h = omega arith
word_below (a ∷ b ∷ c ∷ d ∷ rest) (suc k) h = let r = word_below rest k (omega arith) in omega arith

pub four_times_words : (bs : List ℕ) → 4 * length (words_of bs) ≤ length bs
four_times_words [] = omega arith
four_times_words (a ∷ []) = omega arith
four_times_words (a ∷ b ∷ []) = omega arith
four_times_words (a ∷ b ∷ c ∷ []) = omega arith
four_times_words (a ∷ b ∷ c ∷ d ∷ rest) = let r = four_times_words rest in omega arith

-- one more word
pub words_more : (bs : List ℕ) (k : ℕ) → 4 * k + 4 ≤ length bs →
    take (k + 1) (words_of bs) ≡ take k (words_of bs) ++ u32_at bs (4 * k) ∷ []
words_more bs k h =
    take_more (words_of bs) k 0 (word_below bs k h) ∙ ap (λ w. take k (words_of bs) ++ w ∷ []) (word_at bs k h)

-- a word behind some bytes
pub u32_at_drop : (bs : List ℕ) (n at : ℕ) → u32_at (drop n bs) at ≡ u32_at bs (n + at)
unfolding u32_at
u32_at_drop bs n at = rw (drop-drop at n bs) refl

-- one more word behind the first four bytes
pub header_words_more : (bs : List ℕ) (k : ℕ) → 4 * k + 8 ≤ length bs →
    take (k + 1) (words_of (drop 4 bs)) ≡ take k (words_of (drop 4 bs)) ++ u32_at bs (4 + 4 * k) ∷ []
header_words_more bs k h =
    words_more (drop 4 bs) k (omega (arith, length-drop 4 bs))
    ∙ ap (λ w. take k (words_of (drop 4 bs)) ++ w ∷ []) (u32_at_drop bs 4 (4 * k))

pub thirteen : (bs : List ℕ) → length bs ≡ 64 → length (words_of (drop 12 bs)) ≡ 13
thirteen bs h =
    let below = word_below (drop 12 bs) 12 (omega (arith, length-drop 12 bs)) in
    let above = four_times_words (drop 12 bs) in
    omega (arith, length-drop 12 bs)

-- the 13 words behind the first 12 bytes, by their places
pub thirteen_words : (bs ws : List ℕ) → length bs ≡ 64 → length ws ≡ 13 →
    ((k : ℕ) → k < 13 → get_or ws k 0 ≡ u32_at bs (12 + 4 * k)) → ws ≡ words_of (drop 12 bs)
thirteen_words bs ws hb hw each =
    ext_get_or 0 ws (words_of (drop 12 bs)) (hw ∙ sym (thirteen bs hb))
    (λ k h. each k (omega (arith, hw)) ∙ sym (u32_at_drop bs 12 (4 * k))
    ∙ sym (word_at (drop 12 bs) k (omega (arith, length-drop 12 bs, hw))))

-- past the last whole word there is none
pub word_past : (bs : List ℕ) (k : ℕ) → length bs < 4 * k + 4 → get_or (words_of bs) k 0 ≡ 0
word_past bs k h = let few = four_times_words bs in get_or_past (words_of bs) k 0 (omega arith)

pub length-words_of-block : (bs : List ℕ) → length bs ≡ 1024 → length (words_of bs) ≡ 256
length-words_of-block bs h =
    let below = word_below bs 255 (omega arith) in
    let above = four_times_words bs in
    omega arith

-- the 256 words of a block, by their places
pub block_words : (bs ws : List ℕ) → length bs ≡ 1024 → length ws ≡ 256 →
    ((k : ℕ) → k < 256 → get_or ws k 0 ≡ u32_at bs (4 * k)) → ws ≡ words_of bs
block_words bs ws hb hw each =
    ext_get_or 0 ws (words_of bs) (hw ∙ sym (length-words_of-block bs hb))
    (λ k h. each k (omega (arith, hw)) ∙ sym (word_at bs k (omega (arith, hw, hb))))
