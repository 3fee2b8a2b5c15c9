-- A disk with its buffers and its log, and what each call makes of them.
use Rattle.std.specs.Prelude.{◌≡◌, ◌<◌, ℕ, true, false, List, if◌then◌else◌, Option, Some, None, Result, Ok, Err, ⊤}
use Rattle.blocks.specs.declared.errors.DiskFault.{DiskFault}
use Rattle.wal.specs.declared.types.DeviceFault.{DeviceFault}
use Rattle.wal.specs.declared.types.DeviceFault.TheVariants.{Block}
use Rattle.blocks.specs.Block.{overwritten}
use Rattle.blocks.specs.Calls.{OnlyReads, UnlessHolds}
use Rattle.blocks.specs.declared.disk.Disk.{Ghosts}
use Rattle.blocks.specs.Disk.{Image, block_at, one_more}
use Rattle.model.specs.Agreement.{IsSameOutsideLog}
use Rattle.model.specs.declared.types.operations.TaskProgress.{TaskProgress}
use Rattle.model.specs.declared.types.operations.Why.{Why}
use Rattle.model.specs.declared.types.progress.Progress.{Progress}
use Rattle.bcache.specs.declared.types.Busy.{Busy}
use Rattle.bcache.specs.declared.types.Acquired.{Acquired}
use Rattle.bcache.specs.Buffers.{Buffers, buffer, block_or_zero, fresh_buffers, acquire_answer, after_acquire, filled, changed, EndsUnfilled}
use Rattle.wal.specs.declared.types.Committed.{Committed}
use Rattle.wal.specs.Get.{Get}
use Rattle.wal.specs.Get as get
use Rattle.wal.specs.Machine.{LogState, new_log, noted, noted_cache, MayLog, HasSlot}
use Rattle.wal.specs.Joint.{seen}
use Rattle.wal.specs.Step.{CommitSteps}
use Rattle.wal.specs.Held.{LeavesLocks, LocksAfter}

pub record VolumeState (D : Type 0) : Type 0 where
  pub device : D
  pub buffers : Buffers
  pub log : LogState
  -- the disk's fault, after which nothing is done any more
  pub fault : Option DeviceFault

-- buffers that were never taken, and a new log for an image of that size
pub record IsNewMemory (c : Buffers) (l : LogState) (size : ℕ) : Type 0 where
  pub cache : c ≡ fresh_buffers
  pub log : l ≡ new_log size

-- a process has the lock of block b's slot, which shows it as it is in the current image
pub record Holds (cur : Image) (c : Buffers) (pid b i : ℕ) : Type 0 where
  pub slot : i < 40
  pub holder : (buffer c i).holder ≡ Some pid
  pub block : (buffer c i).block ≡ Some b
  pub valid : (buffer c i).valid ≡ true
  pub bytes : (buffer c i).bytes ≡ block_at cur b

-- why a process waits for a buffer
abbrev pub why_busy : Busy → Why
why_busy Busy.Held = Why.BufferHeld
why_busy Busy.NoBuffer = Why.NoBuffer

-- what `get` answers where the disk doesn't fail
abbrev pub get_answer_by : Acquired → Get
get_answer_by (Acquired.Got i valid) = get.Got i
get_answer_by (Acquired.Sleeping busy) = get.Sleeping (why_busy busy)

abbrev pub get_answer : Buffers → ℕ → Get
get_answer c b = get_answer_by (acquire_answer c b)

-- why who asks for a block has to wait, by what `get` answers; none where it goes on
abbrev pub cause_of_get : Get → Option Why
cause_of_get (get.Got i) = None
cause_of_get (get.Sleeping cause) = Some cause
cause_of_get (get.Fault fault) = None

-- and where the next step may ask for none
abbrev pub cause_to_get : Buffers → Option ℕ → Option Why
cause_to_get c None = None
cause_to_get c (Some b) = cause_of_get (get_answer c b)

-- the buffers then: a slot that wasn't valid has the disk's bytes
abbrev pub after_get_by : Acquired → Buffers → List ℕ → Buffers
after_get_by (Acquired.Got i valid) c bytes = if valid then c else filled c i bytes
after_get_by (Acquired.Sleeping busy) c bytes = c

abbrev pub after_get : Image → Buffers → ℕ → ℕ → Buffers
after_get x c pid b = after_get_by (acquire_answer c b) (after_acquire c pid b) (block_at x b)

-- the read of block b failed, for a slot that wasn't valid
pub record FailsToFill (c d : Buffers) (pid b : ℕ) (fault : DiskFault) : Type 0 where
  pub slot : ℕ
  pub block : fault.0 ≡ b
  pub answer : acquire_answer c b ≡ Acquired.Got slot false
  pub buffers : EndsUnfilled (after_acquire c pid b) slot d

-- the slot of block b, which it does not show yet
pub record LacksBlock (c : Buffers) (b i : ℕ) : Type 0 where
  pub slot : i < 40
  pub block : (buffer c i).block ≡ Some b
  pub valid : (buffer c i).valid ≡ false

-- P holds of the slot
abbrev pub OnGot : Get → (ℕ → Type 0) → Type 0
OnGot (get.Got i) P = P i
OnGot (get.Sleeping why) P = ⊤
OnGot (get.Fault fault) P = ⊤

-- P holds where the process has to wait
abbrev pub OnSleeping : Get → Type 0 → Type 0
OnSleeping (get.Got i) P = ⊤
OnSleeping (get.Sleeping why) P = P
OnSleeping (get.Fault fault) P = ⊤

-- P holds of the fault
abbrev pub OnFault : Get → (DiskFault → Type 0) → Type 0
OnFault (get.Got i) P = ⊤
OnFault (get.Sleeping why) P = ⊤
OnFault (get.Fault fault) P = P fault

-- P holds where the disk didn't fail
abbrev pub UnlessFault : Get → Type 0 → Type 0
UnlessFault (get.Got i) P = P
UnlessFault (get.Sleeping why) P = P
UnlessFault (get.Fault fault) P = ⊤

-- the fault of an answer
abbrev pub fault_of_get : Get → Option DeviceFault
fault_of_get (get.Got i) = None
fault_of_get (get.Sleeping why) = None
fault_of_get (get.Fault fault) = Some (Block fault)

-- the fault of a step of a task, which only reads
abbrev pub fault_of_task : TaskProgress → Option DeviceFault
fault_of_task TaskProgress.Moved = None
fault_of_task (TaskProgress.Turned reply) = None
fault_of_task (TaskProgress.Decided reply) = None
fault_of_task TaskProgress.Over = None
fault_of_task (TaskProgress.Sleeping why) = None
fault_of_task (TaskProgress.Fault fault) = Some (Block fault)

abbrev pub fault_of_step : Committed → Option DeviceFault
fault_of_step Committed.More = None
fault_of_step (Committed.Durable group) = None
fault_of_step Committed.Done = None
fault_of_step (Committed.Fault fault) = Some fault

-- a count of faults after an answer
abbrev pub faults_after : Option DeviceFault → ℕ → ℕ
faults_after None count = count
faults_after (Some fault) count = one_more count

-- Process p gets block b with this answer, or has to wait, or the disk fails.
pub record Gets {D N : Type 0} (disk : Ghosts D N) (old : VolumeState D) (p b : ℕ) (r : Get)
    (new : VolumeState D) : Type 0 where
  pub answer : UnlessFault r (r ≡ get_answer old.buffers b)
  pub buffers : UnlessFault r
      (new.buffers ≡ after_get (disk.image old.device) old.buffers p b)
  pub got : OnGot r (Holds (seen (disk.image new.device) new.buffers) new.buffers p b)
  pub sleeping : OnSleeping r (new ≡ old)
  pub failed : OnFault r (FailsToFill old.buffers new.buffers p b)

-- The disk was only read for this answer, and neither log nor current image changed.
pub record ReadsFor {D N : Type 0} (disk : Ghosts D N) (old : VolumeState D) (r : Get)
    (new : VolumeState D) : Type 0 where
  pub fault : new.fault ≡ fault_of_get r
  pub log : new.log ≡ old.log
  pub current : seen (disk.image new.device) new.buffers
      ≡ seen (disk.image old.device) old.buffers
  pub device : OnlyReads disk old.device new.device
  pub faults : disk.fault_count new.device
      ≡ faults_after (fault_of_get r) (disk.fault_count old.device)

-- what `get` answers then, to a machine's step that gets a block
abbrev pub progress_of : {T : Type 0} → Get → Progress T
progress_of (get.Got i) = Progress.Moved
progress_of (get.Sleeping why) = Progress.Sleeping why
progress_of (get.Fault fault) = Progress.Fault fault

-- the slot that was got
abbrev pub slot_of : Get → Option ℕ
slot_of (get.Got i) = Some i
slot_of (get.Sleeping why) = None
slot_of (get.Fault fault) = None

-- A machine of process p gets block b, and has it in slot s; or it has to wait, or the disk fails,
-- and it has none.
pub record GetsFor {D N T : Type 0} (disk : Ghosts D N) (v : VolumeState D) (p b : ℕ)
    (r : Progress T) (s : Option ℕ) (w : VolumeState D) : Type 0 where
  pub answer : Get
  pub gives : r ≡ progress_of answer
  pub slot : s ≡ slot_of answer
  pub gets : Gets disk v p b answer w
  pub reads : ReadsFor disk v answer w
  pub locks : LocksAfter answer v.buffers w.buffers p b

-- what the read of a block for slot i came to
abbrev pub fill_answer : ℕ → Result (Unit {0}) DiskFault → Get
fill_answer i (Ok done) = get.Got i
fill_answer i (Err fault) = get.Fault fault

-- the process may change the block of a slot: it may log it, has its lock, and the slot shows it
pub record MayChange {D : Type 0} (v : VolumeState D) (p i : ℕ) : Type 0 where
  pub logs : MayLog v.log p
  pub has : HasSlot v.buffers p i
  pub valid : (buffer v.buffers i).valid ≡ true

-- the block of a slot is logged, and its bytes changed
abbrev pub after_change : {D : Type 0} → VolumeState D → ℕ → ℕ → ℕ → List ℕ → VolumeState D
after_change v pid i at bytes = record v {
  buffers = changed
      (noted_cache v.log v.buffers i (block_or_zero (buffer v.buffers i).block))
      i (overwritten (buffer v.buffers i).bytes at bytes);
  log = noted v.log pid (block_or_zero (buffer v.buffers i).block);
}

-- THE PROMISE OF A COMMIT'S STEP to a volume: outside the log its current image stays, and so does
-- who holds what.
pub record VolumeCommits {D N : Type 0} (disk : Ghosts D N) (old : VolumeState D) (r : Committed)
    (new : VolumeState D) : Type 0 where
  pub write : CommitSteps disk old.device old.buffers old.log r new.device new.buffers new.log
  pub fault : new.fault ≡ fault_of_step r
  pub current : IsSameOutsideLog (seen (disk.image old.device) old.buffers)
      (seen (disk.image new.device) new.buffers)
  pub locks : LeavesLocks old.buffers new.buffers
  -- a disk that holds no writes back is not synced
  pub unsynced : UnlessHolds disk old.device
      (disk.sync_count new.device ≡ disk.sync_count old.device)
