-- A step of a creation's search for a free number.
use Rattle.std.specs.Prelude.{◌≡◌, ◌<◌, ◌≤◌, ℕ, ◌+◌, ◌-◌, ◌*◌, ◌%◌, ◌==◌, Bool, true, false, IsTrue, Option, Some, None, IsSome}
use Rattle.blocks.specs.Calls.{OnlyReads}
use Rattle.blocks.specs.Disk.{Image, block_at}
use Rattle.blocks.specs.declared.disk.Disk.{Ghosts}
use Rattle.model.specs.Format.{inode_start, most_inodes}
use Rattle.wal.specs.declared.types.DeviceFault.{DeviceFault}
use Rattle.wal.specs.declared.types.DeviceFault.TheVariants.{Block}
use Rattle.model.specs.declared.types.operations.Why.{Why}
use Rattle.model.specs.Journal.{is_number}
use Rattle.model.specs.Layout.{inode_block, inode_of, inode_count_of, HasNoFreeInode}
use Rattle.model.specs.Codec.{dinode_bytes, new_inode, with_inode}
use Rattle.bcache.specs.Buffers.{Buffers, released}
use Rattle.wal.specs.Held.{GetsLock, GetsUnread, GivesUpLock, WaitsFor}
use Rattle.wal.specs.Joint.{seen}
use Rattle.wal.specs.Machine.{LogState, noted}
use Rattle.wal.specs.Volume.{VolumeState, get_answer, after_get, after_change, FailsToFill, faults_after}
use Rattle.wal.specs.Get as get
use Rattle.blockmap.specs.Getting.{HoldsWhereGot}
use Rattle.model.specs.declared.types.progress.Progress.{Progress}
use Rattle.inodes.specs.Creation.{lowest_free}

-- Where a creation's search stands.
pub record SearchState : Type 0 where
  -- the type of the new file, from 1 to 3
  pub kind : ℕ
  -- the inode numbers, the unused number 0 included
  pub inode_count : ℕ
  -- the inode block that is looked at, and the slot that holds it, where it was got
  pub block : ℕ
  pub slot : Option ℕ

-- the search may look at its block, which is an inode block of the image
pub record IsReady (cur : Image) (c : Buffers) (size pid : ℕ) (m : SearchState) : Type 0 where
  pub kind : m.kind ≤ 3
  pub behind : inode_start ≤ m.block
  -- up to that of the last number
  pub last : m.block ≤ inode_block (m.inode_count - 1)
  pub some : 2 ≤ m.inode_count
  pub few : m.inode_count ≤ most_inodes
  pub within : inode_block (m.inode_count - 1) < size
  pub holds : HoldsWhereGot cur c pid m.block m.slot

-- and so it may make a step over this volume
abbrev pub MayStep : {D : Type 0} → (D → Image) → VolumeState D → ℕ → SearchState → Type 0
MayStep image v pid m = IsReady (seen (image v.device) v.buffers) v.buffers v.log.size pid m

-- the block after it holds no number that operations may name
abbrev pub is_last_block : SearchState → Bool
is_last_block m = m.block == inode_block (m.inode_count - 1)

-- the block was got in that slot
abbrev pub at_slot : SearchState → ℕ → SearchState
at_slot m i = record m { slot = Some i }

abbrev pub at_next_block : SearchState → SearchState
at_next_block m = record m { block = m.block + 1; slot = None }

abbrev pub with_released : {D : Type 0} → VolumeState D → ℕ → VolumeState D
with_released v s = record v { buffers = released v.buffers s }

-- a new inode is written, and the block released
abbrev pub with_new_inode : {D : Type 0} → VolumeState D → ℕ → ℕ → ℕ → ℕ → VolumeState D
with_new_inode v pid s i kind =
    with_released (after_change v pid s (i % 16 * 64) (dinode_bytes (new_inode kind))) s

-- The buffers after a step that was made, by whether the search had got its block; who sleeps
-- changes none, and which answers there are `SearchGoes` says.
abbrev pub BuffersAfter : {D : Type 0} → (D → Image) → Option ℕ → SearchState → VolumeState D → ℕ
    → Progress (Option ℕ) → Buffers → Type 0
BuffersAfter image None m v pid Progress.Moved d =
    d ≡ after_get (image v.device) v.buffers pid m.block
BuffersAfter image None m v pid (Progress.Sleeping why) d = Unit {0}
BuffersAfter image None m v pid (Progress.Over out) d = Unit {0}
BuffersAfter image None m v pid (Progress.Fault fault) d = FailsToFill v.buffers d pid m.block fault
BuffersAfter image (Some s) m v pid Progress.Moved d = d ≡ released v.buffers s
BuffersAfter image (Some s) m v pid (Progress.Sleeping why) d = Unit {0}
BuffersAfter image (Some s) m v pid (Progress.Over None) d = d ≡ released v.buffers s
BuffersAfter image (Some s) m v pid (Progress.Over (Some i)) d =
    d ≡ (with_new_inode v pid s i m.kind).buffers
BuffersAfter image (Some s) m v pid (Progress.Fault fault) d = Unit {0}

-- the current image after a step with that answer
abbrev pub current_after : Image → SearchState → Progress (Option ℕ) → Image
current_after cur m Progress.Moved = cur
current_after cur m (Progress.Sleeping why) = cur
current_after cur m (Progress.Over None) = cur
current_after cur m (Progress.Over (Some i)) = with_inode cur i (new_inode m.kind)
current_after cur m (Progress.Fault fault) = cur

-- the fault of an answer
abbrev pub fault_in : {T : Type 0} → Progress T → Option DeviceFault
fault_in Progress.Moved = None
fault_in (Progress.Sleeping why) = None
fault_in (Progress.Over out) = None
fault_in (Progress.Fault fault) = Some (Block fault)

-- P holds where there are more steps
abbrev pub OnMore : {T : Type 0} → Progress T → Type 0 → Type 0
OnMore Progress.Moved P = P
OnMore (Progress.Sleeping why) P = P
OnMore (Progress.Over out) P = Unit {0}
OnMore (Progress.Fault fault) P = Unit {0}

-- a number in the block that is looked at, which operations may name, and which is free
pub record IsFree (cur : Image) (m : SearchState) (i : ℕ) : Type 0 where
  pub place : inode_block i ≡ m.block
  pub number : IsTrue (is_number m.inode_count i)
  pub free : (inode_of cur i).kind ≡ 0

-- a look that finds none: where the search counts the image's numbers, none of the block is free
abbrev pub SeesNoneFree : Image → SearchState → Type 0
SeesNoneFree cur m = m.inode_count ≡ inode_count_of cur → HasNoFreeInode cur m.block

-- the lowest free number in the block that is looked at
abbrev pub finds : Image → SearchState → Option ℕ
finds cur m = lowest_free (block_at cur m.block) m.inode_count m.block

-- Where a step leads to and why, by whether the search had got its block: it gets the block as the
-- buffers say, or claims the number that it finds, or goes on to the next block.
abbrev pub SearchGoes : Option ℕ → Image → Buffers → SearchState → Progress (Option ℕ) → SearchState
    → Type 0
SearchGoes None cur c m Progress.Moved n =
    (i : ℕ) × (get_answer c m.block ≡ get.Got i) × (n ≡ at_slot m i)
SearchGoes None cur c m (Progress.Sleeping why) n =
    (get_answer c m.block ≡ get.Sleeping why) × (n ≡ m)
SearchGoes None cur c m (Progress.Over out) n = ⊥
SearchGoes None cur c m (Progress.Fault fault) n = n ≡ m
SearchGoes (Some s) cur c m Progress.Moved n =
    (n ≡ at_next_block m) × (is_last_block m ≡ false) × (finds cur m ≡ None) × SeesNoneFree cur m
SearchGoes (Some s) cur c m (Progress.Sleeping why) n = ⊥
SearchGoes (Some s) cur c m (Progress.Over None) n =
    (n ≡ m) × (is_last_block m ≡ true) × (finds cur m ≡ None) × SeesNoneFree cur m
SearchGoes (Some s) cur c m (Progress.Over (Some i)) n =
    (n ≡ m) × (finds cur m ≡ Some i) × IsFree cur m i
SearchGoes (Some s) cur c m (Progress.Fault fault) n = ⊥

-- what it makes of the locks
abbrev pub SearchLocks : Option ℕ → Progress (Option ℕ) → Buffers → Buffers → ℕ → ℕ → Option ℕ
    → Type 0
SearchLocks None Progress.Moved c d pid b slot = (i : ℕ) × (slot ≡ Some i) × GetsLock c d pid b i
SearchLocks None (Progress.Sleeping cause) c d pid b slot = WaitsFor cause c b
SearchLocks None (Progress.Over out) c d pid b slot = ⊥
SearchLocks None (Progress.Fault fault) c d pid b slot = GetsUnread c d pid b
SearchLocks (Some i) Progress.Moved c d pid b slot = GivesUpLock c d pid i
SearchLocks (Some i) (Progress.Sleeping cause) c d pid b slot = ⊥
SearchLocks (Some i) (Progress.Over out) c d pid b slot = GivesUpLock c d pid i
SearchLocks (Some i) (Progress.Fault fault) c d pid b slot = ⊥

-- the log after it: a claim logs the block
abbrev pub log_after : LogState → ℕ → ℕ → Progress (Option ℕ) → LogState
log_after l pid b Progress.Moved = l
log_after l pid b (Progress.Sleeping why) = l
log_after l pid b (Progress.Over None) = l
log_after l pid b (Progress.Over (Some i)) = noted l pid b
log_after l pid b (Progress.Fault fault) = l

-- THE PROMISE OF A STEP of the search, by whether it had got its block.
pub record SearchSteps {D N : Type 0} (disk : Ghosts D N) (slot : Option ℕ) (v w : VolumeState D)
    (pid : ℕ) (m n : SearchState) (r : Progress (Option ℕ)) : Type 0 where
  pub goes : SearchGoes slot (seen (disk.image v.device) v.buffers) v.buffers m r n
  pub buffers : BuffersAfter disk.image slot m v pid r w.buffers
  pub locks : SearchLocks slot r v.buffers w.buffers pid m.block n.slot
  pub log : w.log ≡ log_after v.log pid m.block r
  pub asleep : (cause : Why) → r ≡ Progress.Sleeping cause → w ≡ v
  pub more : OnMore r (MayStep disk.image w pid n)
  pub current : seen (disk.image w.device) w.buffers
      ≡ current_after (seen (disk.image v.device) v.buffers) m r
  pub fault : w.fault ≡ fault_in r
  pub device : OnlyReads disk v.device w.device
  -- a look leaves the disk
  pub looks : IsSome slot → w.device ≡ v.device
  pub faults : disk.fault_count w.device
      ≡ faults_after (fault_in r) (disk.fault_count v.device)
