-- What putting a file's bytes into an image comes to.
use Rattle.std.specs.Prelude.{◌≡◌, ◌<◌, ◌≤◌, ◌⊎◌, ℕ, Bool, IsTrue, List, length, Option, None, Some, Result, IfErr, OnOk}
use Rattle.std.specs.Io.KnownBytes.{Appends}
use Rattle.blocks.specs.Calls.{OnlyReads}
use Rattle.blocks.specs.Disk.{Rose}
use Rattle.blocks.specs.declared.disk.Disk.{Ghosts}
use Rattle.model.specs.Files.{files_of}
use Rattle.model.specs.Log.{recovered}
use Rattle.model.specs.Operations.{transfer_limit}
use Rattle.model.specs.Verdict.{verdict}
use Rattle.wal.specs.Step.{FailsToSync}
use Rattle.wal.specs.declared.types.DeviceFault.{DeviceFault}
use Rattle.kernel.specs.declared.types.OpenFault.{OpenFault}
use Rattle.calls.specs.Calls.{IsWhole}
use Rattle.calls.specs.Opening.{IsNotOpenedPair, IsOpenedPair}
use Rattle.calls.specs.Stepping.{IsReached, Plain}
use Rattle.calls.specs.Unshown.{KeepsUnshown}
use Rattle.messages.specs.Output.{number_text}
use Rattle.transfer.specs.Ending.{SyncsIf}
use Rattle.transfer.specs.Judging.{IsTold}
use Rattle.transfer.specs.Midst.{PutsShort}
use Rattle.transfer.specs.Places.{IsPlainOld}
use Rattle.transfer.specs.PutWriting.{KeepsSomeOf, PutComesOf}
use Rattle.transfer.specs.Stopped.{StopsPut}
use Rattle.transfer.specs.declared.refused.PutRefusal.{PutRefusal}
use Rattle.transfer.specs.declared.refused.PutRefusal.TheVariants.{Check, NoFile, NotAFile, TooBig, Full, NoMemory, Unopened, NoInode, Disk, Output}
use Rattle.transfer.specs.declared.writing.Outcome.{Outcome}
use Rattle.transfer.specs.declared.writing.Outcome.TheVariants as outcome

-- The disk d, now e, had no fault, and the old file, if one is named, was a plain one. Its image is
-- sound, of the same size and superblock, what no file shows is as recovery leaves it, and calls
-- came to this; none failed.
pub record ComesTo {D N : Type 0} (disk : Ghosts D N) (inum : Option ℕ) (bytes : List ℕ) (d e : D)
    (outcome : Outcome) : Type 0 where
  pub sound : verdict (disk.image d) ≡ None
  pub plain : IsPlainOld (files_of (recovered (disk.image d))) inum
  pub whole : IsWhole (disk.image d) (disk.image e)
  pub unshown : KeepsUnshown (recovered (disk.image d)) (disk.image e)
  pub comes : PutComesOf (recovered (disk.image d)) inum bytes (disk.image e) outcome
  pub faults : disk.fault_count e ≡ disk.fault_count d

-- the bytes were put, the last call to the disk was a sync that was done where one is asked for, and
-- the number of their file was printed
pub record IsPut {D N : Type 0} (disk : Ghosts D N) (inum : Option ℕ) (bytes : List ℕ) (sync : Bool)
    (d e : D) (old new : Option (List ℕ)) : Type 0 where
  pub number : ℕ
  pub put : ComesTo disk inum bytes d e (outcome.Put number)
  pub unsynced : D
  pub syncs : SyncsIf sync disk unsynced e
  pub printed : Appends old new (number_text number)

-- no kernel was opened over the disk d, now e, which was only read before
pub record IsUnopenedThen {D N : Type 0} (disk : Ghosts D N) (inum : Option ℕ) (d e : D)
    (fault : OpenFault) : Type 0 where
  pub mid : D
  pub sound : verdict (disk.image d) ≡ None
  pub plain : IsPlainOld (files_of (recovered (disk.image d))) inum
  pub reads : OnlyReads disk d mid
  pub faults : disk.fault_count mid ≡ disk.fault_count d
  pub refused : IsNotOpenedPair disk mid e fault

-- memory was refused to a call: the first of the bytes may be put; of as few as one write moves none
pub record RunsOut {D N : Type 0} (disk : Ghosts D N) (inum : Option ℕ) (bytes : List ℕ) (d e : D)
    : Type 0 where
  pub sound : verdict (disk.image d) ≡ None
  pub plain : IsPlainOld (files_of (recovered (disk.image d))) inum
  pub keeps : KeepsSomeOf (recovered (disk.image d)) inum bytes (disk.image e)
  pub none : length bytes ≤ transfer_limit → disk.image e ≡ recovered (disk.image d)
  pub faults : disk.fault_count e ≡ disk.fault_count d

-- No block was free for all of as few bytes as one write moves, so their transaction was given up:
-- a kernel that was opened over the disk d, now e, went on, its calls wrote only the first of them, and
-- no block is free of the image that they see. That on the disk is as recovery leaves it.
pub record PutsNone {D N : Type 0} (disk : Ghosts D N) (inum : Option ℕ) (bytes : List ℕ) (d e : D)
    : Type 0 where
  pub small : length bytes ≤ transfer_limit
  pub sound : verdict (disk.image d) ≡ None
  pub plain : IsPlainOld (files_of (recovered (disk.image d))) inum
  pub mid : D
  pub reads : OnlyReads disk d mid
  pub first : Plain D
  pub opened : IsOpenedPair disk mid first
  pub last : Plain D
  pub reached : IsReached disk first last
  pub part : PutsShort disk inum bytes first last
  pub device : last.store.volume.device ≡ e
  pub image : disk.image e ≡ recovered (disk.image d)
  pub faults : disk.fault_count e ≡ disk.fault_count d

-- A kernel that was opened over the disk d, now e, went on, and then had just this fault, which one of
-- its steps met.
pub record EndsFailed {D N : Type 0} (disk : Ghosts D N) (d e : D) (cause : DeviceFault)
    : Type 0 where
  pub first : Plain D
  pub opened : IsOpenedPair disk d first
  pub last : Plain D
  pub reached : IsReached disk first last
  pub fault : last.store.volume.fault ≡ Some cause
  pub device : last.store.volume.device ≡ e

-- the disk failed in a call, over an image without a fault; before the kernel it was only read
pub record FailsSound {D N : Type 0} (disk : Ghosts D N) (inum : Option ℕ) (d e : D)
    (cause : DeviceFault) : Type 0 where
  pub sound : verdict (disk.image d) ≡ None
  pub plain : IsPlainOld (files_of (recovered (disk.image d))) inum
  pub mid : D
  pub reads : OnlyReads disk d mid
  pub failed : EndsFailed disk mid e cause
  pub faults : Rose (disk.fault_count d) (disk.fault_count e)

-- the bytes were put, and the sync that was asked for failed
pub record FailsSynced {D N : Type 0} (disk : Ghosts D N) (inum : Option ℕ) (bytes : List ℕ)
    (sync : Bool) (d e : D) (cause : DeviceFault) : Type 0 where
  pub number : ℕ
  pub unsynced : D
  pub put : ComesTo disk inum bytes d unsynced (outcome.Put number)
  pub asked : IsTrue sync
  pub is : FailsToSync cause
  pub faults : Rose (disk.fault_count unsynced) (disk.fault_count e)

-- the same, but the number of their file could not be printed
pub record HasPutUntold {D N : Type 0} (disk : Ghosts D N) (inum : Option ℕ) (bytes : List ℕ)
    (sync : Bool) (d e : D) : Type 0 where
  pub number : ℕ
  pub put : ComesTo disk inum bytes d e (outcome.Put number)
  pub unsynced : D
  pub syncs : SyncsIf sync disk unsynced e

-- why the number of a file that was put on the disk d, now e, was not printed
abbrev pub IsUntold : {D N : Type 0} → Ghosts D N → Bool → D → D → Type 0 → PutRefusal → Type 0
IsUntold disk sync d e none (Disk cause) = IsTrue sync × FailsToSync cause
    × Rose (disk.fault_count d) (disk.fault_count e) × none
IsUntold disk sync d e none Output = SyncsIf sync disk d e
IsUntold disk sync d e none r = ⊥

-- Why the bytes were not put into the image of the disk d, now e, or their number was not printed.
-- Of what is told before anything is written the disk was only read. `none` says that nothing was
-- printed.
abbrev pub IsUnput : {D N : Type 0} → Ghosts D N → Option ℕ → List ℕ → Bool → D → D → Type 0
    → PutRefusal → Type 0
IsUnput disk inum bytes sync d e none (Check fault) =
    IsTold disk inum (length bytes) d e (Check fault) × none
IsUnput disk inum bytes sync d e none NoFile = IsTold disk inum (length bytes) d e NoFile × none
IsUnput disk inum bytes sync d e none NotAFile =
    IsTold disk inum (length bytes) d e NotAFile × none
IsUnput disk inum bytes sync d e none TooBig = IsTold disk inum (length bytes) d e TooBig × none
IsUnput disk inum bytes sync d e none Full =
    (IsTold disk inum (length bytes) d e Full
    ⊎ ((transfer_limit < length bytes) × ComesTo disk inum bytes d e outcome.Full)
    ⊎ PutsNone disk inum bytes d e) × none
IsUnput disk inum bytes sync d e none NoMemory =
    (IsTold disk inum (length bytes) d e NoMemory ⊎ RunsOut disk inum bytes d e) × none
IsUnput disk inum bytes sync d e none (Unopened fault) =
    IsUnopenedThen disk inum d e fault × none
IsUnput disk inum bytes sync d e none NoInode =
    ComesTo disk inum bytes d e outcome.NoInode × none
IsUnput disk inum bytes sync d e none (Disk cause) =
    (FailsSound disk inum d e cause
    ⊎ FailsSynced disk inum bytes sync d e cause) × none
IsUnput disk inum bytes sync d e none Output = HasPutUntold disk inum bytes sync d e

-- THE PROMISE OF A PUT of bytes into the image of the disk d, now e, which ends so; `old` is the
-- output before it, and `new` the one behind it
pub record EndsPut {D N O : Type 0} (disk : Ghosts D N) (contents : O → Option (List ℕ))
    (inum : Option ℕ) (bytes : List ℕ) (sync : Bool) (d e : D) (result : Result (Unit {0}) PutRefusal)
    (old new : O) : Type 0 where
  pub put : OnOk result (IsPut disk inum bytes sync d e (contents old) (contents new))
  pub refused : IfErr result (IsUnput disk inum bytes sync d e (new ≡ old))
  pub leaves : verdict (disk.image d) ≡ None → StopsPut disk inum bytes d e
  pub name : disk.name e ≡ disk.name d
