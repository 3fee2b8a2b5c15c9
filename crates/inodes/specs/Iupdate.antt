-- The steps in which an inode is written back.
use Rattle.std.specs.Prelude.{◌≡◌, ◌<◌, ℕ, Option, Some, None}
use Rattle.blocks.specs.Disk.{Image}
use Rattle.blocks.specs.declared.disk.Disk.{Ghosts}
use Rattle.model.specs.declared.types.image.Dinode.{Dinode}
use Rattle.model.specs.Codec.{with_inode}
use Rattle.model.specs.Layout.{inode_block}
use Rattle.wal.specs.Joint.{seen}
use Rattle.wal.specs.Volume.{VolumeState, GetsFor}
use Rattle.blockmap.specs.Getting.{HoldsWhereGot, WritesBlock}
use Rattle.model.specs.declared.types.progress.Progress.{Progress}

-- Where the writing of an inode stands.
pub record UpdateState : Type 0 where
  pub number : ℕ
  -- the slot that holds its block, where it was got
  pub slot : Option ℕ

-- the writing of an inode that begins
abbrev pub first_update : ℕ → UpdateState
first_update number = record { number = number; slot = None }

-- the inode may be written back over this volume
pub record MayUpdate {D : Type 0} (image : D → Image) (v : VolumeState D) (p : ℕ) (m : UpdateState)
    : Type 0 where
  pub within : inode_block m.number < v.log.size
  pub holds : HoldsWhereGot
      (seen (image v.device) v.buffers) v.buffers p (inode_block m.number) m.slot

-- inode d is written at its number, into the block that slot i holds
abbrev pub WritesInode : {D N : Type 0} → Ghosts D N → VolumeState D → ℕ → ℕ → UpdateState → Dinode
    → VolumeState D → Type 0
WritesInode disk v p i m d w = WritesBlock disk v p i (inode_block m.number)
    (with_inode (seen (disk.image v.device) v.buffers) m.number d) w

-- WHAT A STEP DOES, by whether the inode's block was got: it gets it, or writes the inode.
abbrev pub Updates : {D N : Type 0} → Ghosts D N → Option ℕ → VolumeState D → ℕ → UpdateState
    → Dinode → Progress (Unit {0}) → UpdateState → VolumeState D → Type 0
Updates disk None v p m d r n w =
    (n ≡ record m { slot = n.slot }) × GetsFor disk v p (inode_block m.number) r n.slot w
Updates disk (Some i) v p m d r n w =
    (r ≡ Progress.Over tt) × (n ≡ m) × WritesInode disk v p i m d w
