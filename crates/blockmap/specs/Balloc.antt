-- The steps in which a block is taken.
use Rattle.std.specs.Prelude.{◌≡◌, ◌<◌, ◌≤◌, ℕ, ◌%◌, ◌^◌, ◌*◌, ◌/◌, true, false, not, List, find, slice_index, slice_set, bit_or, Option, Some, None}
use Rattle.std.specs.List.{range_with_len}
use Rattle.blocks.specs.Block.{zero_block}
use Rattle.blocks.specs.Disk.{Image, block_at}
use Rattle.blocks.specs.declared.disk.Disk.{Ghosts}
use Rattle.model.specs.Format.{inode_start, bits_per_block}
use Rattle.model.specs.Codec.{with_bit}
use Rattle.model.specs.Fields.{has_bit}
use Rattle.wal.specs.Joint.{seen}
use Rattle.wal.specs.Volume.{VolumeState, GetsFor}
use Rattle.blockmap.specs.Getting.{HoldsWhereGot, Releases, WritesBlock}
use Rattle.blockmap.specs.declared.balloc.AllocAt.{AllocAt}
use Rattle.model.specs.declared.types.progress.Progress.{Progress}

-- Where the taking of a block stands.
pub record AllocState : Type 0 where
  -- the bitmap's block, and the image's size in blocks
  pub bitmap : ℕ
  pub size : ℕ
  pub at : AllocAt

-- the taking of a block that begins
abbrev pub first_alloc : ℕ → ℕ → AllocState
first_alloc bitmap size = record { bitmap = bitmap; size = size; at = AllocAt.Looking None }

-- the lowest bit below a size that is clear
abbrev pub lowest_clear : List ℕ → ℕ → Option ℕ
lowest_clear bits size = find (λ k. not (has_bit bits k)) (range_with_len 0 size)

-- that is what it is: below the size, clear, and each lower one set; or each below the size is set
abbrev pub IsLowestClear : List ℕ → ℕ → Option ℕ → Type 0
IsLowestClear bits size None = (k : ℕ) → k < size → has_bit bits k ≡ true
IsLowestClear bits size (Some b) =
    (b < size) × (has_bit bits b ≡ false) × ((k : ℕ) → k < b → has_bit bits k ≡ true)

abbrev pub LowestClear : Type 0
LowestClear = (bits : List ℕ) (size : ℕ) → IsLowestClear bits size (lowest_clear bits size)

-- the bytes from one place on, and before another, have no clear bit
abbrev pub AreFull : List ℕ → ℕ → ℕ → Type 0
AreFull bytes from end = (i : ℕ) → from ≤ i → i < end → slice_index bytes i ≡ 255

-- the byte in which a block's bit stands, with that bit set
abbrev pub byte_with : List ℕ → ℕ → ℕ
byte_with bits b = bit_or (slice_index bits (b / 8)) (1 * 2 ^ (b % 8) % 2 ^ 8)

-- what the process holds, by where the taking stands
abbrev pub MayAllocAt : {D : Type 0} → (D → Image) → VolumeState D → ℕ → AllocState → AllocAt
    → Type 0
MayAllocAt image v p m (AllocAt.Looking slot) =
    HoldsWhereGot (seen (image v.device) v.buffers) v.buffers p m.bitmap slot
MayAllocAt image v p m (AllocAt.Zeroing b slot) =
    (inode_start ≤ b) × (b < v.log.size)
    × HoldsWhereGot (seen (image v.device) v.buffers) v.buffers p b slot

-- a block may be taken over this volume
pub record MayAlloc {D : Type 0} (image : D → Image) (v : VolumeState D) (p : ℕ) (m : AllocState)
    : Type 0 where
  pub behind : inode_start ≤ m.bitmap
  pub within : m.bitmap < v.log.size
  pub size : m.size < bits_per_block
  pub at : MayAllocAt image v p m m.at

-- an image in which a block's bit is set in that block of the bitmap
abbrev pub with_taken : Image → ℕ → ℕ → Image
with_taken x bitmap b = slice_set x bitmap (with_bit (block_at x bitmap) b)

-- the lowest clear bit that the bitmap's block has now
abbrev pub lowest_in : Image → AllocState → Option ℕ
lowest_in x m = lowest_clear (block_at x m.bitmap) m.size

-- The step that looks at the bitmap's block in slot i, by its lowest clear bit: the bit is set, or
-- where there is none the block is released.
abbrev pub TakesLowest : {D N : Type 0} → Ghosts D N → Option ℕ → VolumeState D → ℕ → ℕ
    → AllocState → Progress (Option ℕ) → AllocState → VolumeState D → Type 0
TakesLowest disk None v p i m r n w =
    (r ≡ Progress.Over None) × (n ≡ m) × Releases disk.image v p i w
TakesLowest disk (Some b) v p i m r n w =
    (r ≡ Progress.Moved) × (n ≡ record m { at = AllocAt.Zeroing b None })
    × WritesBlock disk v p i m.bitmap
    (with_taken (seen (disk.image v.device) v.buffers) m.bitmap b) w

-- block b, which slot i holds, is made one of zeroes
abbrev pub Zeroes : {D N : Type 0} → Ghosts D N → VolumeState D → ℕ → ℕ → ℕ → VolumeState D
    → Type 0
Zeroes disk v p i b w =
    WritesBlock disk v p i b (slice_set (seen (disk.image v.device) v.buffers) b zero_block) w

-- WHAT A STEP DOES, by where the taking stands: it gets the bitmap's block, takes the lowest clear
-- bit in it, gets the block of that bit, or zeroes it.
abbrev pub Allocs : {D N : Type 0} → Ghosts D N → AllocAt → VolumeState D → ℕ → AllocState
    → Progress (Option ℕ) → AllocState → VolumeState D → Type 0
Allocs disk (AllocAt.Looking None) v p m r n w =
    (s : Option ℕ) × (n ≡ record m { at = AllocAt.Looking s }) × GetsFor disk v p m.bitmap r s w
Allocs disk (AllocAt.Looking (Some i)) v p m r n w =
    TakesLowest disk (lowest_in (seen (disk.image v.device) v.buffers) m) v p i m r n w
Allocs disk (AllocAt.Zeroing b None) v p m r n w =
    (s : Option ℕ) × (n ≡ record m { at = AllocAt.Zeroing b s }) × GetsFor disk v p b r s w
Allocs disk (AllocAt.Zeroing b (Some i)) v p m r n w =
    (r ≡ Progress.Over (Some b)) × (n ≡ m) × Zeroes disk v p i b w
