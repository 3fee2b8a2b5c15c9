-- The numbers in a block's bytes.
use Rattle.std.specs.Prelude.{ℕ, ◌/◌, ◌%◌, ◌==◌, Bool, List, [], ◌∷◌, drop, slice_index}
use Rattle.std.specs.Int.{bit_at}
use Rattle.byteorder.specs.Endian.{little_number}

-- the number of two bytes from a place on, the lowest first
unfoldable pub u16_at : List ℕ → ℕ → ℕ
u16_at bytes at = little_number 2 (drop at bytes)

-- the number of four bytes from a place on, the lowest first
unfoldable pub u32_at : List ℕ → ℕ → ℕ
u32_at bytes at = little_number 4 (drop at bytes)

-- the numbers of four bytes each, one after the other
abbrev pub words_of : List ℕ → List ℕ
words_of (a ∷ b ∷ c ∷ d ∷ rest) = little_number 4 (a ∷ b ∷ c ∷ d ∷ []) ∷ words_of rest
words_of rest = []

-- the bit of that number is set: the lowest bit of each byte comes first
unfoldable pub has_bit : List ℕ → ℕ → Bool
has_bit bytes k = bit_at (slice_index bytes (k / 8)) (k % 8) == 1
