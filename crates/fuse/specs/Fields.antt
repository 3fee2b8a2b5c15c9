-- The numbers in bytes.
use Rattle.std.specs.Prelude.{ℕ, List, drop}
use Rattle.byteorder.specs.Endian.{little_number}

-- the number of four bytes from a place on, the lowest first
unfoldable pub u32_at : List ℕ → ℕ → ℕ
u32_at bytes at = little_number 4 (drop at bytes)

-- the number of eight bytes from a place on, the lowest first
unfoldable pub u64_at : List ℕ → ℕ → ℕ
u64_at bytes at = little_number 8 (drop at bytes)
