-- What a disk in memory tells of its last write.
use Rattle.std.specs.Prelude.{◌≡◌, ◌<◌, ◌-◌, ◌^◌, ℕ, min, List, [], length, slice_index_or, slice_set, Option, Some, None}
use Rattle.std.proofs.Common.{arith}
use Rattle.blocks.specs.Disk.{Image, block_at}

-- the image is that of before with the block of that number as it is now
abbrev pub IsWritten : Image → ℕ → Image → Type 0
IsWritten before last now = now ≡ slice_set before last (block_at now last)

-- the last write, if there was one, was of that block
abbrev pub IsLast : List Image → ℕ → Image → Type 0
IsLast past last now =
    0 < length past
    → (last < length now) × IsWritten (slice_index_or past (length past - 1) []) last now

-- a count of writes, which stays at its limit
abbrev pub IsCounted : List Image → ℕ → Type 0
IsCounted past writes = writes ≡ min (length past) (2 ^ 64 - 1)

pub counted_fits : (past : List Image) (writes : ℕ) → IsCounted past writes → writes < 2 ^ 64
counted_fits past writes is = omega (arith, is)

-- the write that is told is all the difference of an image x and the image y behind it
abbrev pub TellsWrite : Option ℕ → Image → Image → Type 0
TellsWrite None x y = y ≡ x
TellsWrite (Some b) x y = (b < length y) × IsWritten x b y
