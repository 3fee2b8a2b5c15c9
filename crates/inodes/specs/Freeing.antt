-- The steps in which the blocks of a file are freed: what they get, keep and use, and what they
-- make of the volume.
use Rattle.std.specs.Prelude.{◌≡◌, ◌⊎◌, ◌<◌, ◌≤◌, ℕ, List, slice_index, Option, Some, None}
use Rattle.blocks.specs.Disk.{Image, block_at}
use Rattle.blocks.specs.declared.disk.Disk.{Ghosts}
use Rattle.bcache.specs.Buffers.{Buffers}
use Rattle.model.specs.Codec.{with_inode}
use Rattle.model.specs.Fields.{words_of}
use Rattle.model.specs.Format.{bits_per_block, inode_start}
use Rattle.model.specs.Layout.{inode_block}
use Rattle.model.specs.declared.types.progress.Progress.{Progress}
use Rattle.wal.specs.Held.{HoldsBlock}
use Rattle.wal.specs.Joint.{seen}
use Rattle.wal.specs.Volume.{VolumeState, GetsFor, Holds}
use Rattle.blockmap.specs.Bfree.{with_freed}
use Rattle.blockmap.specs.Getting.{Releases, WritesBlock}
use Rattle.inodes.specs.declared.freeing.Freeing.{Freeing}
use Rattle.inodes.specs.declared.freeing.Got.{Got}
use Rattle.inodes.specs.declared.freeing.Kept.{Kept}
use Rattle.inodes.specs.declared.itrunc.Itrunc.{Itrunc}
use Rattle.inodes.specs.declared.itrunc.TruncAt.{TruncAt}
use Rattle.inodes.specs.Itrunc.{Fits, IsBelow, after_trunc, at_block, block_in_hand, freed_by, last_inode_of}

-- no block is kept
abbrev pub no_block_kept : Kept
no_block_kept = record { inner = None; outer = None }

-- the freeing that begins, and has got no block yet
abbrev pub first_freeing : Itrunc → Freeing
first_freeing m = record { machine = m; kept = no_block_kept; used = None }

-- ---- THE BLOCK that comes next

-- the block that a step gets, if it wasn't got yet; 0 where it gets none
abbrev pub block_by : Itrunc → TruncAt → ℕ
block_by m TruncAt.Direct = m.bitmap
block_by m (TruncAt.Loading b) = b
block_by m TruncAt.Entry = m.bitmap
block_by m TruncAt.Unloading = 0
block_by m TruncAt.Freeing = m.bitmap
block_by m TruncAt.Updating = inode_block m.number

abbrev pub block_next : Freeing → ℕ
block_next m = block_by m.machine m.machine.at

-- a block in the slot where it was got
abbrev pub got_in : ℕ → Option ℕ → Option Got
got_in b None = None
got_in b (Some i) = Some (record { block = b; slot = i })

-- the block that a step uses: that one, where it was got, or the block that was kept last
abbrev pub now_by : Freeing → TruncAt → Option Got
now_by m TruncAt.Direct = got_in m.machine.bitmap m.used
now_by m (TruncAt.Loading b) = None
now_by m TruncAt.Entry = got_in m.machine.bitmap m.used
now_by m TruncAt.Unloading = m.kept.inner
now_by m TruncAt.Freeing = got_in m.machine.bitmap m.used
now_by m TruncAt.Updating = got_in (inode_block m.machine.number) m.used

abbrev pub now_of : Freeing → Option Got
now_of m = now_by m m.machine.at

-- ---- what a process holds for it

abbrev pub slot_kept : Option Got → Option ℕ
slot_kept None = None
slot_kept (Some g) = Some g.slot

-- process p holds a block that was got, if there is one
abbrev pub HasOne : Buffers → ℕ → Option Got → Type 0
HasOne c p None = Unit {0}
HasOne c p (Some g) = HoldsBlock c p g.block g.slot

-- a slot of a block that is kept
abbrev pub IsKept : Kept → ℕ → Type 0
IsKept kept i = (slot_kept kept.inner ≡ Some i) ⊎ (slot_kept kept.outer ≡ Some i)

-- or of the one that is used next
abbrev pub IsGot : Kept → Option Got → ℕ → Type 0
IsGot kept now i = IsKept kept i ⊎ (slot_kept now ≡ Some i)

-- it holds them
pub record HoldsBlocks (c : Buffers) (p : ℕ) (kept : Kept) (now : Option Got) : Type 0 where
  pub inner : HasOne c p kept.inner
  pub outer : HasOne c p kept.outer
  pub used : HasOne c p now

-- ---- A STEP

-- the block that was kept last beside one that is used, or that one
abbrev pub got_or : Option Got → Got → Got
got_or None used = used
got_or (Some kept) used = kept

-- its entries
abbrev pub entries_kept : Image → Freeing → Got → List ℕ
entries_kept x m g = words_of (block_at x (got_or m.kept.inner g).block)

-- a block that was got, with these bytes, is used next, or kept
abbrev pub taken : List ℕ → ℕ → TruncAt → Freeing → Freeing
taken bytes i TruncAt.Direct m = record m { used = Some i }
taken bytes i (TruncAt.Loading b) m = record {
  machine = at_block m.machine (words_of bytes);
  kept = record { inner = Some (record { block = b; slot = i }); outer = m.kept.inner };
  used = None;
}
taken bytes i TruncAt.Entry m = record m { used = Some i }
taken bytes i TruncAt.Unloading m = record m { used = Some i }
taken bytes i TruncAt.Freeing m = record m { used = Some i }
taken bytes i TruncAt.Updating m = record m { used = Some i }

-- by the slot that was got
abbrev pub when_got : Image → Option ℕ → Freeing → Freeing
when_got x None m = m
when_got x (Some i) m = taken (block_at x (block_next m)) i m.machine.at m

-- what is kept behind a step that used a block
abbrev pub kept_then : Kept → TruncAt → Kept
kept_then kept TruncAt.Direct = kept
kept_then kept (TruncAt.Loading b) = kept
kept_then kept TruncAt.Entry = kept
kept_then kept TruncAt.Unloading = record { inner = kept.outer; outer = None }
kept_then kept TruncAt.Freeing = kept
kept_then kept TruncAt.Updating = kept

-- and what becomes of the freeing
abbrev pub after_use : List ℕ → Freeing → Freeing
after_use entries m = record {
  machine = after_trunc m.machine entries m.machine.at;
  kept = kept_then m.kept m.machine.at;
  used = None;
}

-- with the inode it is over
abbrev pub answer_by : TruncAt → Progress (Unit {0})
answer_by TruncAt.Direct = Progress.Moved
answer_by (TruncAt.Loading b) = Progress.Moved
answer_by TruncAt.Entry = Progress.Moved
answer_by TruncAt.Unloading = Progress.Moved
answer_by TruncAt.Freeing = Progress.Moved
answer_by TruncAt.Updating = Progress.Over tt

-- the image in which the block that is used is changed: a bit is cleared, or the inode written;
-- none where a block of addresses is given back
abbrev pub image_by : Image → Itrunc → List ℕ → TruncAt → Option Image
image_by x m entries TruncAt.Direct =
    Some (with_freed x m.bitmap (slice_index m.inode.addrs m.slot))
image_by x m entries (TruncAt.Loading b) = None
image_by x m entries TruncAt.Entry =
    Some (with_freed x m.bitmap (slice_index entries m.given_up))
image_by x m entries TruncAt.Unloading = None
image_by x m entries TruncAt.Freeing = Some (with_freed x m.bitmap (block_in_hand m entries))
image_by x m entries TruncAt.Updating = Some (with_inode x m.number (last_inode_of m))

-- block b, which slot i holds, is written so that the image is that one, or released as it is
abbrev pub Changes : {D N : Type 0} → Ghosts D N → VolumeState D → ℕ → ℕ → ℕ → Option Image
    → VolumeState D → Type 0
Changes disk v p i b None w = Releases disk.image v p i w
Changes disk v p i b (Some y) w = WritesBlock disk v p i b y w

-- a process holds a block that the buffers show as it is now, if there is one
abbrev pub HoldsGot : Image → Buffers → ℕ → Option Got → Type 0
HoldsGot cur c p None = Unit {0}
HoldsGot cur c p (Some g) = Holds cur c p g.block g.slot

-- a block that is got lies behind the log, in an image of that many blocks
abbrev pub MayGet : ℕ → ℕ → Option Got → Type 0
MayGet b size None = (inode_start ≤ b) × (b < size)
MayGet b size (Some g) = Unit {0}

-- a block that is freed has a bit
abbrev pub HasBit : Image → Freeing → Option Got → Type 0
HasBit x m None = Unit {0}
HasBit x m (Some g) = IsBelow (freed_by m.machine (entries_kept x m g) m.machine.at) bits_per_block

-- a step may be made over this volume
pub record MayFree {D : Type 0} (image : D → Image) (v : VolumeState D) (p : ℕ) (m : Freeing)
    : Type 0 where
  pub fits : Fits m.machine
  pub gets : MayGet (block_next m) v.log.size (now_of m)
  pub used : HoldsGot (seen (image v.device) v.buffers) v.buffers p (now_of m)
  pub kept : HoldsGot (seen (image v.device) v.buffers) v.buffers p m.kept.inner
  pub bit : HasBit (seen (image v.device) v.buffers) m (now_of m)

-- the block that comes next is got
pub record GetsNext {D N : Type 0} (disk : Ghosts D N) (v : VolumeState D) (p : ℕ) (m : Freeing)
    (r : Progress (Unit {0})) (n : Freeing) (w : VolumeState D) : Type 0 where
  pub slot : Option ℕ
  pub gets : GetsFor disk v p (block_next m) r slot w
  pub next : n ≡ when_got (seen (disk.image v.device) v.buffers) slot m

-- block g is used
pub record UsesBlock {D N : Type 0} (disk : Ghosts D N) (g : Got) (v : VolumeState D) (p : ℕ)
    (m : Freeing) (r : Progress (Unit {0})) (n : Freeing) (w : VolumeState D) : Type 0 where
  pub answer : r ≡ answer_by m.machine.at
  pub next : n ≡ after_use (entries_kept (seen (disk.image v.device) v.buffers) m g) m
  pub changes : Changes disk v p g.slot (block_next m)
      (image_by (seen (disk.image v.device) v.buffers) m.machine
      (entries_kept (seen (disk.image v.device) v.buffers) m g) m.machine.at) w

-- WHAT A STEP DOES, by the block that it uses: it gets one; or with it clears a bit, gives a block
-- of addresses back, or writes the inode.
abbrev pub FreesOn : {D N : Type 0} → Ghosts D N → Option Got → VolumeState D → ℕ → Freeing
    → Progress (Unit {0}) → Freeing → VolumeState D → Type 0
FreesOn disk None v p m r n w = GetsNext disk v p m r n w
FreesOn disk (Some g) v p m r n w = UsesBlock disk g v p m r n w
