-- The pointers under addresses, step by step.
use Rattle.std.proofs.Common.{◌≡◌, ◌≢◌, ℕ, zero, suc, ◌+◌, ◌-◌, ◌<◌, ◌≤◌, List, [], ◌∷◌, ◌++◌, length, get_or, drop, refl, ⊎_elim}
use Rattle.std.proofs.Math.Numerals.{sub-one}
use Rattle.offline.specs.Common.{at_drop_all, at_drop_more, block_at, cases_eq, drop_all, drop_more, entry_pointers, get_or_past, Image, ne_eqb, Pointer, pointer_of, pointers_along, pointers_behind, pointers_under, reach, words_of}

-- an address with nothing under it but its block
pub under_data : (y : Image) (size depth first address : ℕ) → depth ≡ 0 → pointers_under y size depth first address ≡ pointer_of size first address ∷ []
under_data y size depth first address leaf = rw leaf refl

pub under_none : (y : Image) (size depth first address : ℕ) → address ≡ 0 → pointers_under y size depth first address ≡ pointer_of size first address ∷ []
under_none y size zero first address none = refl
under_none y size (suc depth) first address none = rw none refl

-- the address itself comes first
pub under_first : (y : Image) (size depth first address : ℕ) →
    (rest : List Pointer) × (pointers_under y size depth first address ≡ (pointer_of size first address ∷ []) ++ rest)
under_first y size zero first address = ([], refl)
under_first y size (suc depth) first address = (_, refl)

-- a block of addresses
pub under_block : (y : Image) (size depth first address : ℕ) → depth ≢ 0 → address ≢ 0 →
    pointers_under y size depth first address
    ≡ (pointer_of size first address ∷ []) ++ entry_pointers y size (depth - 1) first (words_of (block_at y address))
under_block y size zero first address deep some = absurd (deep refl)
under_block y size (suc depth) first address deep some = rw (ne_eqb address 0 some, sub-one) refl

-- one entry more
pub entry_more : (y : Image) (size depth first : ℕ) (entries : List ℕ) (k : ℕ) → k < length entries →
    entry_pointers y size depth first (drop k entries)
    ≡ pointers_under y size depth first (get_or entries k 0) ++ entry_pointers y size depth (first + reach depth) (drop (k + 1) entries)
entry_more y size depth first entries k below =
    at_drop_more (pointers_behind (λ f a. pointers_under y size depth f a) first (reach depth)) entries k 0 below

-- behind the last entry there is none
pub entry_all : (y : Image) (size depth first : ℕ) (entries : List ℕ) (k : ℕ) → length entries ≤ k →
    entry_pointers y size depth first (drop k entries) ≡ []
entry_all y size depth first entries k high =
    at_drop_all (pointers_behind (λ f a. pointers_under y size depth f a) first (reach depth)) entries k high

-- one address of an inode more
pub along_more : (y : Image) (size first : ℕ) (depths addresses : List ℕ) (k : ℕ) → k < length depths → k < length addresses →
    pointers_along y size first (drop k depths) (drop k addresses)
    ≡ pointers_under y size (get_or depths k 0) first (get_or addresses k 0)
    ++ pointers_along y size (first + reach (get_or depths k 0)) (drop (k + 1) depths) (drop (k + 1) addresses)
along_more y size first depths addresses k in_depths in_addresses =
    rw ((drop_more depths k 0 in_depths), (drop_more addresses k 0 in_addresses)) refl

pub along_all : (y : Image) (size first : ℕ) (depths addresses : List ℕ) (k : ℕ) → length depths ≤ k →
    pointers_along y size first (drop k depths) (drop k addresses) ≡ []
along_all y size first depths addresses k high = rw (drop_all k depths high) refl

-- a block that the image doesn't have holds no address
pub under_outside : (y : Image) (size depth first address : ℕ) → length y ≤ address →
    pointers_under y size depth first address ≡ pointer_of size first address ∷ []
under_outside y size zero first address high = refl
under_outside y size (suc depth) first address high =
    ⊎_elim (λ (e : address ≡ 0). rw e refl)
    (λ (n : address ≢ 0). rw (ne_eqb address 0 n, get_or_past y address [] high) refl)
    (cases_eq address 0)
