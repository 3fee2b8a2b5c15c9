-- The hexadecimal digits of one byte.
use Rattle.std.specs.Prelude.{ℕ, ◌/◌, ◌%◌, List, [], ◌∷◌, slice_index}
use Rattle.hex.specs.Hex.{lower_digits}

-- the digits of a byte, that of the high four bits first
abbrev pub pair_of : ℕ → List ℕ
pair_of byte = slice_index lower_digits (byte / 16) ∷ slice_index lower_digits (byte % 16) ∷ []
