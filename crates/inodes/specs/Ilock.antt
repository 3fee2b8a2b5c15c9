-- The steps in which a process takes an inode.
use Rattle.std.specs.Prelude.{◌≡◌, ◌≢◌, ◌<◌, ℕ, ◌==◌, not, if◌then◌else◌, Bool, true, Option, Some, None}
use Rattle.blocks.specs.Disk.{Image}
use Rattle.blocks.specs.declared.disk.Disk.{Ghosts}
use Rattle.model.specs.declared.types.image.Dinode.{Dinode}
use Rattle.model.specs.declared.types.operations.Why.{Why}
use Rattle.model.specs.Layout.{inode_block, inode_of}
use Rattle.wal.specs.Joint.{seen}
use Rattle.wal.specs.Volume.{VolumeState, GetsFor}
use Rattle.model.specs.declared.types.progress.Progress.{Progress}
use Rattle.blockmap.specs.Getting.{Releases, HoldsWhereGot}
use Rattle.inodes.specs.declared.ilock.LockAt.{LockAt}
use Rattle.inodes.specs.LockState.{LockState}
use Rattle.inodes.specs.Table.{TableState, HasPlaceFor, entry_at, is_of, place_for, holder_at, copy_at, referred, locked, kept}

-- the inode stands at that place
pub record IsAt (t : TableState) (k i : ℕ) : Type 0 where
  pub place : k < 50
  pub number : is_of i (entry_at t.places k) ≡ true

-- the inode's block may be got, or is held where it was got
pub record MayReadInode {D : Type 0} (image : D → Image) (v : VolumeState D) (p i : ℕ)
    (s : Option ℕ) : Type 0 where
  pub within : inode_block i < v.log.size
  pub holds : HoldsWhereGot (seen (image v.device) v.buffers) v.buffers p (inode_block i) s

-- a process that stands there may make the next step
abbrev pub MayLockAt : {D : Type 0} → (D → Image) → TableState → VolumeState D → ℕ → ℕ → LockAt
    → Type 0
MayLockAt image t v p i LockAt.Reference = HasPlaceFor t i
MayLockAt image t v p i (LockAt.Lock k) = IsAt t k i × (holder_at t.places k ≢ Some p)
MayLockAt image t v p i (LockAt.Read k s) =
    IsAt t k i × (holder_at t.places k ≡ Some p) × MayReadInode image v p i s

abbrev pub MayLock : {D : Type 0} → (D → Image) → TableState → VolumeState D → ℕ → LockState → Type 0
MayLock image t v p m = MayLockAt image t v p m.number m.at

abbrev pub at_lock : LockState → LockAt → LockState
at_lock m a = record m { at = a }

-- the step that takes a reference
abbrev pub Refers : TableState → LockState → Progress Bool → TableState → LockState → Type 0
Refers t m r u n =
    (k : ℕ) × (place_for t.places m.number ≡ Some k) × (r ≡ Progress.Moved)
    × (u ≡ referred t m.number k) × (n ≡ at_lock m (LockAt.Lock k))

-- the step that takes the lock, by who has it and whether the inode was read: with that the
-- operation has its turn
abbrev pub Locks : Option ℕ → Option Dinode → TableState → ℕ → ℕ → LockState
    → Progress Bool → TableState → LockState → Type 0
Locks (Some q) copy t p k m r u n = (r ≡ Progress.Sleeping Why.InodeHeld) × (u ≡ t) × (n ≡ m)
Locks None (Some d) t p k m r u n = (r ≡ Progress.Over true) × (u ≡ locked t k p) × (n ≡ m)
Locks None None t p k m r u n =
    (r ≡ Progress.Moved) × (u ≡ locked t k p) × (n ≡ at_lock m (LockAt.Read k None))

-- the table with an inode that was read, where it is used
abbrev pub kept_if_used : TableState → ℕ → Dinode → TableState
kept_if_used t k d = if d.kind == 0 then t else kept t k d

-- the step that gets the inode's block
abbrev pub GetsInode : {D N : Type 0} → Ghosts D N → VolumeState D → ℕ → ℕ → LockState
    → Progress Bool → VolumeState D → LockState → Type 0
GetsInode disk v p k m r w n =
    (s : Option ℕ) × GetsFor disk v p (inode_block m.number) r s w
    × (n ≡ at_lock m (LockAt.Read k s))

-- the step that reads inode d in slot i: with it the operation has its turn
pub record ReadsInode {D : Type 0} (image : D → Image) (v : VolumeState D) (p k i : ℕ) (d : Dinode)
    (t : TableState) (r : Progress Bool) (u : TableState) (w : VolumeState D) : Type 0 where
  pub answer : r ≡ Progress.Over (not (d.kind == 0))
  pub table : u ≡ kept_if_used t k d
  pub block : Releases image v p i w

-- WHAT A STEP MAKES of table, volume and machine, by where the process stood.
abbrev pub LockSteps : {D N : Type 0} → Ghosts D N → LockAt → TableState → VolumeState D → ℕ
    → LockState → Progress Bool → TableState → VolumeState D → LockState → Type 0
LockSteps disk LockAt.Reference t v p m r u w n = Refers t m r u n × (w ≡ v)
LockSteps disk (LockAt.Lock k) t v p m r u w n =
    Locks (holder_at t.places k) (copy_at t.places k) t p k m r u n × (w ≡ v)
LockSteps disk (LockAt.Read k None) t v p m r u w n = GetsInode disk v p k m r w n × (u ≡ t)
LockSteps disk (LockAt.Read k (Some i)) t v p m r u w n =
    ReadsInode disk.image v p k i (inode_of (seen (disk.image v.device) v.buffers) m.number) t r u w
    × (n ≡ m)
