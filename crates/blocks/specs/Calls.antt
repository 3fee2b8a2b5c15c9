-- What a call does to a disk.
use Rattle.std.specs.Prelude.{◌≡◌, ℕ, false, true, List, Some, Result, OnOk, OnErr, slice_get, slice_set}
use Rattle.blocks.specs.declared.disk.Disk.{Ghosts}
use Rattle.blocks.specs.Disk.{AddsNone, CountsFault, CountsSuccess, Elapses, IsOldOrNew, IsSettled, LeavesOldOrNew, MayLose}

-- the disk holds no write back
abbrev pub IsPlain : {D N : Type 0} → Ghosts D N → D → Type 0
IsPlain disk d = disk.holding (disk.name d) ≡ false

-- the disk holds writes back
abbrev pub Holds : {D N : Type 0} → Ghosts D N → D → Type 0
Holds disk d = disk.holding (disk.name d) ≡ true

-- P holds where the disk holds no write back
abbrev pub UnlessHolds : {D N : Type 0} → Ghosts D N → D → Type 0 → Type 0
UnlessHolds disk d P = IsPlain disk d → P

-- the same counts
pub record HasCountsOf {D N : Type 0} (disk : Ghosts D N) (old new : D) : Type 0 where
  pub writes : disk.write_count new ≡ disk.write_count old
  pub faults : disk.fault_count new ≡ disk.fault_count old
  pub syncs : disk.sync_count new ≡ disk.sync_count old

-- it only reads: the disk has the same blocks, and no more may be left by a crash
pub record OnlyReads {D N : Type 0} (disk : Ghosts D N) (old new : D) : Type 0 where
  pub name : disk.name new ≡ disk.name old
  pub image : disk.image new ≡ disk.image old
  pub writes : disk.write_count new ≡ disk.write_count old
  pub syncs : disk.sync_count new ≡ disk.sync_count old
  pub time : AddsNone (disk.moment old) (disk.moment new) (disk.leaves old) (disk.leaves new)

-- it makes one read of that block, which gives these bytes or fails
pub record ReadsOne {D N T E : Type 0} (disk : Ghosts D N) (block : ℕ) (bytes : List ℕ)
    (result : Result T E) (old new : D) : Type 0 where
  pub ok : OnOk result (slice_get (disk.image old) block ≡ Some bytes)
  pub only : OnlyReads disk old new
  pub faults : CountsFault result (disk.fault_count old) (disk.fault_count new)

-- it makes one write, of these bytes to that block, which is done or fails
pub record WritesOne {D N T E : Type 0} (disk : Ghosts D N) (block : ℕ) (bytes : List ℕ)
    (result : Result T E) (old new : D) : Type 0 where
  pub name : disk.name new ≡ disk.name old
  pub ok : OnOk result (disk.image new ≡ slice_set (disk.image old) block bytes)
  pub err : OnErr result (IsOldOrNew (disk.image old) block bytes (disk.image new))
  pub writes : CountsSuccess result (disk.write_count old) (disk.write_count new)
  pub faults : CountsFault result (disk.fault_count old) (disk.fault_count new)
  pub syncs : disk.sync_count new ≡ disk.sync_count old
  pub time : Elapses (disk.moment old) (disk.moment new) (disk.leaves old) (disk.leaves new)
  pub crash : LeavesOldOrNew block bytes
      (disk.leaves old (disk.moment old)) (disk.leaves new (disk.moment new))
  pub may_lose : Holds disk old → MayLose block bytes result
      (disk.leaves old (disk.moment old)) (disk.leaves new (disk.moment new))

-- it makes one sync, which is done or fails
pub record SyncsOne {D N T E : Type 0} (disk : Ghosts D N) (result : Result T E) (old new : D)
    : Type 0 where
  pub name : disk.name new ≡ disk.name old
  pub settled : OnOk result (IsSettled (disk.image new) (disk.leaves new (disk.moment new)))
  pub image : disk.image new ≡ disk.image old
  pub writes : disk.write_count new ≡ disk.write_count old
  pub faults : CountsFault result (disk.fault_count old) (disk.fault_count new)
  pub syncs : CountsSuccess result (disk.sync_count old) (disk.sync_count new)
  pub time : AddsNone (disk.moment old) (disk.moment new) (disk.leaves old) (disk.leaves new)
