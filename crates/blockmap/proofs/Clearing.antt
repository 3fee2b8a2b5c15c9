-- The byte that clears a block's bit.
use Rattle.std.proofs.Common.{◌≡◌, ℕ, ◌/◌, ◌<◌, List, [], ◌∷◌, length}
use Rattle.blockmap.specs.Common.{overwritten, overwritten_one}
use Rattle.model.specs.Codec.{without_bit}
use Rattle.blockmap.specs.Bfree.{byte_without}

-- it makes the bits without that one
pub without_byte : (bits : List ℕ) (b : ℕ) → b / 8 < length bits → overwritten bits (b / 8) (byte_without bits b ∷ []) ≡ without_bit bits b
unfolding without_bit
without_byte bits b low = overwritten_one bits (b / 8) (byte_without bits b) low
