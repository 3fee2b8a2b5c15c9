-- What became of the image in a file of which one file's bytes were gathered and written.
use Rattle.std.specs.Prelude.{◌≡◌, ◌⊎◌, ⊤, ℕ, Bool, true, false, List, [], Option, Some, None, Result, Ok, Err}
use Rattle.std.specs.Io.KnownBytes.{Appends}
use Rattle.blocks.specs.Calls.{OnlyReads}
use Rattle.blocks.specs.declared.file.FileDisk.{FileDisk}
use Rattle.cmd.specs.Lemmas.Disks.{file_disk}
use Rattle.cmd.specs.Opened.{OpensDisk}
use Rattle.cmd.specs.declared.files.OnFile.{OnFile}
use Rattle.cmd.specs.declared.files.OnFile.TheVariants.{File, Of}
use Rattle.disk_commands.specs.Looks.{HasRead, HasShown}
use Rattle.disk_commands.specs.Showing.{IsNotShown, IsUnread}
use Rattle.disk_commands.specs.declared.refusals.CatRefusal.{CatRefusal}
use Rattle.disk_commands.specs.declared.refusals.CatRefusal.TheVariants.{NoMemory, Unrecovered, NoFile, Disk, Output}

-- the bytes of the file of number i of the disk d, now e, were gathered: it was only read; or, where that
-- is not asked for, it may have been recovered
abbrev pub Gathers : {F : Type 0} → Bool → ℕ → List ℕ → FileDisk F → FileDisk F → Type 0
Gathers true i bytes d e = HasRead file_disk i d e (Some []) (Some bytes)
Gathers false i bytes d e = HasRead file_disk i d e (Some []) (Some bytes)
    ⊎ HasShown file_disk i d e (Some []) (Some bytes)

abbrev pub HasGathered : {F : Type 0} → (F → Option (List ℕ)) → Bool → ℕ → List ℕ → Type 0
HasGathered remaining read_only i bytes =
    OpensDisk remaining file_disk false (Gathers read_only i bytes)

-- and written
pub record HasCat {F : Type 0} (remaining : F → Option (List ℕ)) (read_only : Bool) (i : ℕ)
    (old new : Option (List ℕ)) : Type 0 where
  pub bytes : List ℕ
  pub gathered : HasGathered remaining read_only i bytes
  pub written : Appends old new bytes

-- why they were not gathered: as it is refused to write them, but that it is memory into which they
-- can't be written
abbrev pub into_memory : (CatRefusal → Type 0) → CatRefusal → Type 0
into_memory Why NoMemory = Why NoMemory ⊎ Why Output
into_memory Why Output = ⊥
into_memory Why (Unrecovered r) = Why (Unrecovered r)
into_memory Why NoFile = Why NoFile
into_memory Why (Disk fault) = Why (Disk fault)

-- of a disk that was only read, and of one that was to be recovered
abbrev pub LeavesRead : {F : Type 0} → ℕ → CatRefusal → FileDisk F → FileDisk F → Type 0
LeavesRead i r d e = OnlyReads file_disk d e × into_memory (IsUnread file_disk d e i None None ⊤) r

abbrev pub LeavesRecovered : {F : Type 0} → ℕ → CatRefusal → FileDisk F → FileDisk F → Type 0
LeavesRecovered i r d e = into_memory (IsNotShown file_disk d e i None None ⊤) r

abbrev pub GathersNot : {F : Type 0} → Bool → ℕ → CatRefusal → FileDisk F → FileDisk F → Type 0
GathersNot true i r d e = LeavesRead i r d e
GathersNot false i r d e = LeavesRead i r d e ⊎ LeavesRecovered i r d e

abbrev pub IsUngathered : {F : Type 0} → (F → Option (List ℕ)) → Bool → ℕ → OnFile CatRefusal
    → Type 0
IsUngathered remaining read_only i (File fault) = ⊤
IsUngathered remaining read_only i (Of r) =
    OpensDisk remaining file_disk false (GathersNot read_only i r)

-- Why they were not written: they were not gathered, and then nothing was written, as `none` says; or
-- they were.
abbrev pub IsNotCat : {F : Type 0} → (F → Option (List ℕ)) → Bool → ℕ → Type 0 → OnFile CatRefusal
    → Type 0
IsNotCat remaining read_only i none (File fault) = none
IsNotCat remaining read_only i none (Of Output) =
    (bytes : List ℕ) × HasGathered remaining read_only i bytes
IsNotCat remaining read_only i none (Of NoMemory) =
    IsUngathered remaining read_only i (Of NoMemory) × none
IsNotCat remaining read_only i none (Of (Unrecovered r)) =
    IsUngathered remaining read_only i (Of (Unrecovered r)) × none
IsNotCat remaining read_only i none (Of NoFile) =
    IsUngathered remaining read_only i (Of NoFile) × none
IsNotCat remaining read_only i none (Of (Disk fault)) =
    IsUngathered remaining read_only i (Of (Disk fault)) × none

-- how it is told that bytes can't be written into memory
abbrev pub of_memory : Result (Unit {0}) (OnFile CatRefusal) → Result (Unit {0}) (OnFile CatRefusal)
of_memory (Ok done) = Ok done
of_memory (Err (File fault)) = Err (File fault)
of_memory (Err (Of Output)) = Err (Of NoMemory)
of_memory (Err (Of NoMemory)) = Err (Of NoMemory)
of_memory (Err (Of (Unrecovered r))) = Err (Of (Unrecovered r))
of_memory (Err (Of NoFile)) = Err (Of NoFile)
of_memory (Err (Of (Disk fault))) = Err (Of (Disk fault))
