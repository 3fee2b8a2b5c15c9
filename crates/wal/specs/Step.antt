-- One step of a commit.
use Rattle.std.specs.Prelude.{◌≡◌, ℕ, Bool, List, slice_set, if◌then◌else◌, IsTrue}
use Rattle.blocks.specs.declared.disk.Disk.{Ghosts}
use Rattle.wal.specs.declared.types.DeviceFault.{DeviceFault}
use Rattle.wal.specs.declared.types.DeviceFault.TheVariants.{Block, Sync}
use Rattle.wal.specs.declared.types.Part.{Part}
use Rattle.blocks.specs.Disk.{Image, AddsNone, IsOldOrNew, IsSettled, one_more, Elapses, LeavesOldOrNew}
use Rattle.model.specs.Codec.{header_block}
use Rattle.model.specs.Agreement.{IsSameOutsideLog}
use Rattle.model.specs.Log.{cleared, is_lawful_log, recovered}
use Rattle.bcache.specs.Buffers.{Buffers}
use Rattle.wal.specs.declared.types.Commit.{Commit}
use Rattle.wal.specs.declared.types.Committed.{Committed}
use Rattle.wal.specs.Machine.{LogState}
use Rattle.wal.specs.Joint.{Joint, seen, place_at, bytes_at, stepped_at, synced_at, written_cache}
use Rattle.wal.specs.Floats.{AreAfloat}
use Rattle.wal.specs.Kept.{KeepsCommitted, CrashKeeps}

-- what a sync that succeeds answers, for the group of that number
abbrev pub answer_synced : Part → ℕ → Committed
answer_synced Part.Log g = Committed.More
answer_synced Part.Header g = Committed.Durable g
answer_synced Part.Homes g = Committed.More
answer_synced Part.Clear g = Committed.Done

-- what a step that succeeds answers in this phase, over a disk that holds writes back or doesn't
abbrev pub answer_at : Bool → Commit → ℕ → Committed
answer_at holds Commit.Quiet g = Committed.More
answer_at holds (Commit.Logging k) g = Committed.More
answer_at holds Commit.Heading g = if holds then Committed.More else Committed.Durable g
answer_at holds (Commit.Homing k) g = Committed.More
answer_at holds Commit.Clearing g = if holds then Committed.More else Committed.Done
answer_at holds (Commit.Syncing part) g = answer_synced part g

-- the write was made
pub record Stepped (holds : Bool) (h : List ℕ) (x : Image) (c : Buffers) (l : LogState)
    (y : Image) (d : Buffers) (m : LogState) (left : Image → Type 0) : Type 0 where
  pub image : y ≡ slice_set x
      (place_at l.commit l.homes) (bytes_at l.commit l.homes h (seen x c))
  pub cache : d ≡ written_cache l.commit l.homes c
  pub log : m ≡ stepped_at holds l.commit l
  pub joint : Joint y d m
  pub keeps : KeepsCommitted l.commit x (seen x c) y
  -- of what a crash now may leave
  pub floats : AreAfloat m.commit y m.homes left

-- it failed
pub record Faulted (h : List ℕ) (x : Image) (c : Buffers) (l : LogState)
    (y : Image) (d : Buffers) (m : LogState) : Type 0 where
  pub image : IsOldOrNew x (place_at l.commit l.homes) (bytes_at l.commit l.homes h (seen x c)) y
  pub cache : d ≡ c
  pub log : m ≡ l

-- this answer with the first fact, or a fault with the second
abbrev pub CommitsTo : Committed → Committed → Type 0 → Type 0 → Type 0
CommitsTo answer Committed.More made failed = (answer ≡ Committed.More) × made
CommitsTo answer (Committed.Durable g) made failed = (answer ≡ Committed.Durable g) × made
CommitsTo answer Committed.Done made failed = (answer ≡ Committed.Done) × made
CommitsTo answer (Committed.Fault fault) made failed = failed

-- at a fault the first two facts, else the third
abbrev pub IsFault : Committed → (DeviceFault → Type 0) → Type 0 → Type 0 → Type 0
IsFault Committed.More P failed made = made
IsFault (Committed.Durable g) P failed made = made
IsFault Committed.Done P failed made = made
IsFault (Committed.Fault fault) P failed made = P fault × failed

-- a write of this block failed
abbrev pub FailsAt : ℕ → DeviceFault → Type 0
FailsAt place (Block fault) = fault.0 ≡ place
FailsAt place (Sync fault) = ⊥

-- a sync failed
abbrev pub FailsToSync : DeviceFault → Type 0
FailsToSync (Block fault) = ⊥
FailsToSync (Sync fault) = Unit {0}

-- THE PROMISE OF A COMMIT'S WRITE: what it makes of disk d, buffers c and log l.
pub record CommitWrites {D N : Type 0} (disk : Ghosts D N) (d : D) (c : Buffers) (l : LogState)
    (r : Committed) (e : D) (f : Buffers) (m : LogState) : Type 0 where
  pub step : CommitsTo (answer_at (disk.holding (disk.name d)) l.commit l.opened) r
      (Stepped (disk.holding (disk.name d)) (header_block l.homes) (disk.image d) c l
      (disk.image e) f m (disk.leaves e (disk.moment e)))
      (Faulted (header_block l.homes) (disk.image d) c l (disk.image e) f m)
  pub name : disk.name e ≡ disk.name d
  pub time : Elapses (disk.moment d) (disk.moment e) (disk.leaves d) (disk.leaves e)
  pub crash : LeavesOldOrNew (place_at l.commit l.homes)
      (bytes_at l.commit l.homes (header_block l.homes) (seen (disk.image d) c))
      (disk.leaves d (disk.moment d)) (disk.leaves e (disk.moment e))
  -- what a crash now may leave is recovered to what was committed, or to the group
  pub recovers : (z : Image) → disk.leaves e (disk.moment e) z
      → CrashKeeps l.commit (disk.image d) (seen (disk.image d) c) z
  -- and its log is lawful
  pub lawful : (z : Image) → disk.leaves e (disk.moment e) z → IsTrue (is_lawful_log z)
  pub writes : IsFault r (λ fault. disk.write_count e ≡ disk.write_count d)
      (disk.fault_count e ≡ one_more (disk.fault_count d))
      (disk.write_count e ≡ one_more (disk.write_count d))
  pub faults : IsFault r (FailsAt (place_at l.commit l.homes))
      (disk.fault_count e ≡ one_more (disk.fault_count d))
      (disk.fault_count e ≡ disk.fault_count d)
  pub syncs : disk.sync_count e ≡ disk.sync_count d

-- a part was synced
pub record Synced (p : Part) (c : Buffers) (l : LogState) (y : Image) (d : Buffers) (m : LogState)
    (left : Image → Type 0) : Type 0 where
  pub cache : d ≡ c
  pub log : m ≡ synced_at p l
  pub joint : Joint y d m
  pub floats : AreAfloat m.commit y m.homes left
  pub settled : IsSettled y left

-- it was not: all is as before
pub record Unsynced (c : Buffers) (l : LogState) (d : Buffers) (m : LogState) : Type 0 where
  pub cache : d ≡ c
  pub log : m ≡ l

-- THE PROMISE OF A COMMIT'S SYNC, of a disk that holds writes back.
pub record CommitSyncs {D N : Type 0} (disk : Ghosts D N) (p : Part) (d : D) (c : Buffers)
    (l : LogState) (r : Committed) (e : D) (f : Buffers) (m : LogState) : Type 0 where
  pub step : CommitsTo (answer_synced p l.opened) r
      (Synced p c l (disk.image e) f m (disk.leaves e (disk.moment e)))
      (Unsynced c l f m)
  pub name : disk.name e ≡ disk.name d
  pub image : disk.image e ≡ disk.image d
  pub time : AddsNone (disk.moment d) (disk.moment e) (disk.leaves d) (disk.leaves e)
  -- a crash may leave no more than before
  pub fewer : (z : Image) → disk.leaves e (disk.moment e) z → disk.leaves d (disk.moment d) z
  pub writes : disk.write_count e ≡ disk.write_count d
  pub faults : IsFault r FailsToSync
      (disk.fault_count e ≡ one_more (disk.fault_count d))
      (disk.fault_count e ≡ disk.fault_count d)
  pub syncs : IsFault r (λ fault. disk.sync_count e ≡ disk.sync_count d)
      (disk.fault_count e ≡ one_more (disk.fault_count d))
      (disk.sync_count e ≡ one_more (disk.sync_count d))

-- WHAT EITHER KIND OF STEP MAKES that succeeds.
pub record CommitMakes {D N : Type 0} (disk : Ghosts D N) (d : D) (c : Buffers) (l : LogState)
    (r : Committed) (e : D) (f : Buffers) (m : LogState) : Type 0 where
  pub answer : answer_at (disk.holding (disk.name d)) l.commit l.opened ≡ r
  pub log : m ≡ stepped_at (disk.holding (disk.name d)) l.commit l
  pub joint : Joint (disk.image e) f m
  pub keeps : KeepsCommitted l.commit (disk.image d) (seen (disk.image d) c) (disk.image e)
  -- without the header that was written, the image is as it was
  pub unheaded : Joint (disk.image d) c l → l.commit ≡ Commit.Heading
      → IsSameOutsideLog (recovered (disk.image d)) (cleared (disk.image e))
  pub faults : disk.fault_count e ≡ disk.fault_count d

-- one or the other, by what is next
abbrev pub CommitStepsAt : {D N : Type 0} → Ghosts D N → Commit → D → Buffers → LogState
    → Committed → D → Buffers → LogState → Type 0
CommitStepsAt disk Commit.Quiet d c l r e f m = ⊥
CommitStepsAt disk (Commit.Logging k) d c l r e f m = CommitWrites disk d c l r e f m
CommitStepsAt disk Commit.Heading d c l r e f m = CommitWrites disk d c l r e f m
CommitStepsAt disk (Commit.Homing k) d c l r e f m = CommitWrites disk d c l r e f m
CommitStepsAt disk Commit.Clearing d c l r e f m = CommitWrites disk d c l r e f m
CommitStepsAt disk (Commit.Syncing p) d c l r e f m = CommitSyncs disk p d c l r e f m

abbrev pub CommitSteps : {D N : Type 0} → Ghosts D N → D → Buffers → LogState → Committed → D
    → Buffers → LogState → Type 0
CommitSteps disk d c l r e f m = CommitStepsAt disk l.commit d c l r e f m
