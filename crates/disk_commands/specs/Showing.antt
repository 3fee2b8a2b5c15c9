-- What is written of a file of an image.
use Rattle.std.specs.Prelude.{◌≡◌, ◌<◌, ◌⊎◌, ℕ, List, length, take, Option, Some, None}
use Rattle.std.specs.Io.KnownBytes.{Appends}
use Rattle.blocks.specs.Disk.{Image, Rose, counted}
use Rattle.blocks.specs.declared.disk.Disk.{Ghosts}
use Rattle.blocks.specs.declared.errors.DiskFault.{DiskFault}
use Rattle.model.specs.Files.{files_of, file_in}
use Rattle.model.specs.Log.{logged_count, recovered}
use Rattle.model.specs.Verdict.{verdict}
use Rattle.model.specs.declared.types.image.File.{File}
use Rattle.wal.specs.Recovery.{writes_to_recover}
use Rattle.kernel.specs.Opening.{LeavesRecovered}
use Rattle.offline.specs.Cause.{IsCause}
use Rattle.opening.specs.Recoveries.{IsRecovered, IsUnrecovered, IsUnwritten}
use Rattle.opening.specs.declared.recovering.RecoverRefusal.{RecoverRefusal}
use Rattle.opening.specs.declared.recovering.RecoverRefusal.TheVariants.{Check, Recover}
use Rattle.disk_commands.specs.declared.refusals.CatRefusal.{CatRefusal}
use Rattle.disk_commands.specs.declared.refusals.CatRefusal.TheVariants.{NoMemory, Unrecovered, NoFile, Disk, Output}

-- The disk d, now e, was not recovered, for that reason: nothing of it was written but by a recovery
-- that failed.
pub record FailsToRecover {D N : Type 0} (disk : Ghosts D N) (d e : D) (r : RecoverRefusal)
    : Type 0 where
  pub cause : IsUnrecovered disk d e r
  pub unwritten : IsUnwritten disk d e r
  pub leaves : LeavesRecovered disk d e

-- the disk d, now e, was recovered, and a call of it failed after that
pub record FailsRecovered {D N : Type 0} (disk : Ghosts D N) (d e : D) : Type 0 where
  pub sound : verdict (disk.image d) ≡ None
  pub image : disk.image e ≡ recovered (disk.image d)
  pub writes : disk.write_count e
      ≡ counted (disk.write_count d) (writes_to_recover (logged_count (disk.image d)))
  pub faults : Rose (disk.fault_count d) (disk.fault_count e)

-- the file of number i of image x was written, all its bytes and nothing else
pub record ShowsFile (x : Image) (i : ℕ) (old new : Option (List ℕ)) : Type 0 where
  pub file : File
  pub is : file_in (files_of x) i ≡ Some file
  pub bytes : Appends old new file.bytes

-- the first bytes of the file were written, and nothing else
pub record ShowsFirst (x : Image) (i : ℕ) (old new : Option (List ℕ)) : Type 0 where
  pub file : File
  pub is : file_in (files_of x) i ≡ Some file
  pub count : ℕ
  pub bytes : Appends old new (take count file.bytes)

-- image x has no fault, and its file of number i was written, or the first bytes of it
abbrev pub Shows : Image → ℕ → Option (List ℕ) → Option (List ℕ) → Type 0
Shows x i old new = (verdict x ≡ None) × ShowsFile (recovered x) i old new

abbrev pub ShowsPart : Image → ℕ → Option (List ℕ) → Option (List ℕ) → Type 0
ShowsPart x i old new = (verdict x ≡ None) × ShowsFirst (recovered x) i old new

-- image x has no fault, and no file of number i
abbrev pub HasNoFile : Image → ℕ → Type 0
HasNoFile x i = (verdict x ≡ None) × (file_in (files_of (recovered x)) i ≡ None)

-- where nothing was logged on the disk d, now e, no write was made, and it has the image that it had
abbrev pub IsLeftUnlogged : {D N : Type 0} → Ghosts D N → D → D → Type 0
IsLeftUnlogged disk d e = logged_count (disk.image d) ≡ 0
    → (disk.image e ≡ disk.image d) × (disk.write_count e ≡ disk.write_count d)

-- the fault names a block of image x
abbrev pub IsOfBlock : Image → DiskFault → Type 0
IsOfBlock x fault = fault.0 < length x

-- why these bytes were not written whole, over a disk that was d and is e
abbrev pub IsPartly : {D N : Type 0} → Ghosts D N → D → D → List ℕ → Option (List ℕ)
    → Option (List ℕ) → CatRefusal → Type 0
IsPartly disk d e bytes old new (Disk fault) = IsOfBlock (disk.image d) fault
    × Rose (disk.fault_count d) (disk.fault_count e)
    × ((count : ℕ) × Appends old new (take count bytes))
IsPartly disk d e bytes old new Output = disk.fault_count e ≡ disk.fault_count d
IsPartly disk d e bytes old new _ = ⊥

-- why its file of number i was not; `none` says that nothing was written
abbrev pub IsUnshown : {D N : Type 0} → Ghosts D N → D → D → ℕ → Option (List ℕ)
    → Option (List ℕ) → Type 0 → CatRefusal → Type 0
IsUnshown disk d e i old new none NoFile = (disk.fault_count e ≡ disk.fault_count d)
    × (file_in (files_of (recovered (disk.image d))) i ≡ None) × none
IsUnshown disk d e i old new none (Disk fault) = IsOfBlock (disk.image d) fault
    × Rose (disk.fault_count d) (disk.fault_count e)
    × (none ⊎ ShowsFirst (recovered (disk.image d)) i old new)
IsUnshown disk d e i old new none Output = disk.fault_count e ≡ disk.fault_count d
IsUnshown disk d e i old new none _ = ⊥

-- Why the file of number i of the disk d, now e, was not written whole. After the recovery nothing
-- else was done to it.
abbrev pub IsNotShown : {D N : Type 0} → Ghosts D N → D → D → ℕ → Option (List ℕ)
    → Option (List ℕ) → Type 0 → CatRefusal → Type 0
IsNotShown disk d e i old new none NoMemory = (e ≡ d) × none
IsNotShown disk d e i old new none (Unrecovered r) = FailsToRecover disk d e r × none
IsNotShown disk d e i old new none NoFile =
    IsRecovered disk (logged_count (disk.image d)) d e × HasNoFile (disk.image d) i × none
IsNotShown disk d e i old new none (Disk fault) =
    IsOfBlock (disk.image d) fault × FailsRecovered disk d e
    × (none ⊎ ShowsPart (disk.image d) i old new)
IsNotShown disk d e i old new none Output = IsRecovered disk (logged_count (disk.image d)) d e

-- why it was not of a disk that was only read
abbrev pub IsUnread : {D N : Type 0} → Ghosts D N → D → D → ℕ → Option (List ℕ)
    → Option (List ℕ) → Type 0 → CatRefusal → Type 0
IsUnread disk d e i old new none NoMemory = (e ≡ d) × none
IsUnread disk d e i old new none (Unrecovered (Check fault)) =
    IsCause (verdict (disk.image d)) (disk.fault_count d) (disk.fault_count e) fault × none
IsUnread disk d e i old new none (Unrecovered (Recover fault)) = ⊥
IsUnread disk d e i old new none NoFile = (disk.fault_count e ≡ disk.fault_count d)
    × HasNoFile (disk.image d) i × none
IsUnread disk d e i old new none (Disk fault) = IsOfBlock (disk.image d) fault
    × (verdict (disk.image d) ≡ None) × Rose (disk.fault_count d) (disk.fault_count e)
    × (none ⊎ ShowsPart (disk.image d) i old new)
IsUnread disk d e i old new none Output = (disk.fault_count e ≡ disk.fault_count d)
    × (verdict (disk.image d) ≡ None)
