-- What the freeing of a block makes of the volume.
use Rattle.std.specs.Prelude.{ℕ, ◌%◌, ◌^◌, ◌*◌, ◌/◌, List, slice_index, slice_set, bit_and}
use Rattle.std.specs.Int.{bit_not}
use mir.Syntax.{w8}
use Rattle.blocks.specs.Disk.{Image, block_at}
use Rattle.blocks.specs.declared.disk.Disk.{Ghosts}
use Rattle.model.specs.Codec.{without_bit}
use Rattle.wal.specs.Joint.{seen}
use Rattle.wal.specs.Volume.{VolumeState}
use Rattle.blockmap.specs.Getting.{WritesBlock}

-- the byte in which a block's bit stands, with that bit cleared
abbrev pub byte_without : List ℕ → ℕ → ℕ
byte_without bits b =
    bit_and (slice_index bits (b / 8)) (bit_not w8 (1 * 2 ^ (b % 8) % 2 ^ 8))

-- an image in which a block's bit is cleared in that block of the bitmap
abbrev pub with_freed : Image → ℕ → ℕ → Image
with_freed x bitmap b = slice_set x bitmap (without_bit (block_at x bitmap) b)

-- the bit of block b is cleared in the bitmap's block, which slot i holds
abbrev pub FreesBlock : {D N : Type 0} → Ghosts D N → VolumeState D → ℕ → ℕ → ℕ → ℕ
    → VolumeState D → Type 0
FreesBlock disk v p i bitmap b w =
    WritesBlock disk v p i bitmap (with_freed (seen (disk.image v.device) v.buffers) bitmap b) w
