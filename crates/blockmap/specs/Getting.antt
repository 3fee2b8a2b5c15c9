-- What a step makes of a volume in which a machine gets a block, or is done with it.
use Rattle.std.specs.Prelude.{◌≡◌, ℕ, List, slice_set, Option, Some, None}
use Rattle.blocks.specs.Block.{overwritten}
use Rattle.blocks.specs.Disk.{Image, block_at}
use Rattle.blocks.specs.declared.disk.Disk.{Ghosts}
use Rattle.bcache.specs.Buffers.{Buffers, buffer, block_or_zero, changed, released}
use Rattle.wal.specs.Held.{GivesUpLock}
use Rattle.wal.specs.Joint.{seen}
use Rattle.wal.specs.Machine.{LogState, noted, noted_cache}
use Rattle.wal.specs.Volume.{VolumeState, Holds, after_change}

-- the block of slot i is released, and nothing else changes
pub record Releases {D : Type 0} (image : D → Image) (v : VolumeState D) (p i : ℕ)
    (w : VolumeState D) : Type 0 where
  pub volume : w ≡ record v { buffers = released v.buffers i }
  pub current : seen (image w.device) w.buffers ≡ seen (image v.device) v.buffers
  pub locks : GivesUpLock v.buffers w.buffers p i

-- a process holds a block that the buffers show as it is now, where it was got
abbrev pub HoldsWhereGot : Image → Buffers → ℕ → ℕ → Option ℕ → Type 0
HoldsWhereGot cur c p b None = Unit {0}
HoldsWhereGot cur c p b (Some i) = Holds cur c p b i

-- the block of a slot
abbrev pub block_at_slot : {D : Type 0} → VolumeState D → ℕ → ℕ
block_at_slot v i = block_or_zero (buffer v.buffers i).block

-- The block of slot i is changed, logged and released, and nothing else changes: from that place on
-- it has these bytes.
pub record Puts {D : Type 0} (image : D → Image) (v : VolumeState D) (p i at : ℕ) (bytes : List ℕ)
    (w : VolumeState D) : Type 0 where
  pub volume : w ≡ record (after_change v p i at bytes) {
    buffers = released (after_change v p i at bytes).buffers i;
  }
  pub current : seen (image w.device) w.buffers ≡ slice_set (seen (image v.device) v.buffers)
      (block_at_slot v i)
      (overwritten (block_at (seen (image v.device) v.buffers) (block_at_slot v i)) at bytes)
  pub locks : GivesUpLock v.buffers w.buffers p i

-- the buffers once block b, which slot i holds, has this content, is logged and released: a new home
-- of the log is pinned
abbrev pub with_block_written : Buffers → LogState → ℕ → ℕ → List ℕ → Buffers
with_block_written c l i b content = released (changed (noted_cache l c i b) i content) i

-- Block b, which slot i holds, is written, so that the current image is y; it is logged and
-- released, and nothing else changes.
pub record WritesBlock {D N : Type 0} (disk : Ghosts D N) (v : VolumeState D) (p i b : ℕ)
    (y : Image) (w : VolumeState D) : Type 0 where
  pub content : List ℕ
  pub image : y ≡ slice_set (seen (disk.image v.device) v.buffers) b content
  pub buffers : w.buffers ≡ with_block_written v.buffers v.log i b content
  pub current : seen (disk.image w.device) w.buffers ≡ y
  pub log : w.log ≡ noted v.log p b
  pub device : w.device ≡ v.device
  pub fault : w.fault ≡ v.fault
  pub locks : GivesUpLock v.buffers w.buffers p i
