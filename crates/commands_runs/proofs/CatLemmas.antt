-- Bytes that were gathered from an image, or were not.
use Rattle.std.proofs.Common.{◌≡◌, ℕ, Bool, true, false, List, [], Option, Some, None, Ok, Err, inl, inr, subst}
use Rattle.std.specs.Prelude.{◌⊎◌, ⊤, Result, OnOk, IfErr}
use Rattle.blocks.specs.Calls.{OnlyReads}
use Rattle.blocks.specs.declared.file.FileDisk.{FileDisk}
use Rattle.cmd.specs.Lemmas.Disks.{file_disk}
use Rattle.cmd.specs.Opened.{IsOpened, OpensDisk}
use Rattle.cmd.specs.Over.{IsRefusedOn}
use Rattle.cmd.specs.declared.files.OnFile.{OnFile}
use Rattle.cmd.specs.declared.files.OnFile.TheVariants.{File, Of}
use Rattle.opening.specs.declared.recovering.RecoverRefusal.TheVariants.{Check, Recover}
use Rattle.disk_commands.specs.Looks.{HasRead, HasShown}
use Rattle.disk_commands.specs.Showing.{IsNotShown, IsUnread, ShowsFirst, ShowsPart}
use Rattle.disk_commands.specs.declared.refusals.CatRefusal.{CatRefusal}
use Rattle.disk_commands.specs.declared.refusals.CatRefusal.TheVariants.{NoMemory, Unrecovered, NoFile, Disk, Output}
use Rattle.commands_runs.specs.Cats.{Gathers, GathersNot, HasGathered, IsNotCat, IsUngathered, into_memory, of_memory}

module _ {F : Type 0} (d e : FileDisk F) (i : ℕ) (old new : Option (List ℕ)) (none : Type 0) where
  -- what of a file's first bytes was written, unknown bytes may have grown by
  part_of : none ⊎ ShowsPart (file_disk.image d) i old new → ⊤ ⊎ ShowsPart (file_disk.image d) i None None
  part_of (inl _) = inl tt
  part_of (inr part) = inr (part.0, record { file = part.1.file; is = part.1.is; count = part.1.count; bytes = tt })

  -- it is not said what was gathered before a refusal
  unread_so : (r : CatRefusal) → IsUnread file_disk d e i old new none r → IsUnread file_disk d e i None None ⊤ r
  unread_so NoMemory why = (why.0, tt)
  unread_so (Unrecovered (Check fault)) why = (why.0, tt)
  unread_so (Unrecovered (Recover fault)) why = why
  unread_so NoFile why = (why.0, why.1, tt)
  unread_so (Disk fault) why = (why.0, why.1, why.2, part_of why.3)
  unread_so Output why = why

  unshown_so : (r : CatRefusal) → IsNotShown file_disk d e i old new none r → IsNotShown file_disk d e i None None ⊤ r
  unshown_so NoMemory why = (why.0, tt)
  unshown_so (Unrecovered r) why = (why.0, tt)
  unshown_so NoFile why = (why.0, why.1, tt)
  unshown_so (Disk fault) why = (why.0, why.1, part_of why.2)
  unshown_so Output why = why

-- ---- gathered into memory

-- as it is told
pub told : CatRefusal → CatRefusal
told NoMemory = NoMemory
told (Unrecovered r) = Unrecovered r
told NoFile = NoFile
told (Disk fault) = Disk fault
told Output = NoMemory

module _ {F : Type 0} (remaining : F → Option (List ℕ)) (read_only : Bool) (i : ℕ) where
  pub gathered_so : (r : Result (Unit {0}) (OnFile CatRefusal)) (P : FileDisk F → FileDisk F → Type 0) (bytes : List ℕ) → OnOk r (OpensDisk remaining file_disk false P) → ((d e : FileDisk F) → P d e → Gathers read_only i bytes d e)
      → OnOk (of_memory r) (HasGathered remaining read_only i bytes)
  gathered_so (Ok done) P bytes opens so = (opens.0, (opens.1.0, opens.1.1, so opens.0 opens.1.0 opens.1.2))
  gathered_so (Err (File fault)) P bytes opens so = tt
  gathered_so (Err (Of NoMemory)) P bytes opens so = tt
  gathered_so (Err (Of (Unrecovered r))) P bytes opens so = tt
  gathered_so (Err (Of NoFile)) P bytes opens so = tt
  gathered_so (Err (Of (Disk fault))) P bytes opens so = tt
  gathered_so (Err (Of Output)) P bytes opens so = tt

  pub ungathered_so : (none : Type 0) (r : Result (Unit {0}) (OnFile CatRefusal)) (P : FileDisk F → FileDisk F → CatRefusal → Type 0) → IfErr r (IsRefusedOn remaining false none P)
      → ((d e : FileDisk F) (why : CatRefusal) → P d e why → GathersNot read_only i (told why) d e) → IfErr (of_memory r) (IsUngathered remaining read_only i)
  unfolding told
  ungathered_so none (Ok done) P why so = tt
  ungathered_so none (Err (File fault)) P why so = tt
  ungathered_so none (Err (Of NoMemory)) P why so = (why.0, (why.1.0, why.1.1, so why.0 why.1.0 NoMemory why.1.2))
  ungathered_so none (Err (Of (Unrecovered r))) P why so = (why.0, (why.1.0, why.1.1, so why.0 why.1.0 (Unrecovered r) why.1.2))
  ungathered_so none (Err (Of NoFile)) P why so = (why.0, (why.1.0, why.1.1, so why.0 why.1.0 NoFile why.1.2))
  ungathered_so none (Err (Of (Disk fault))) P why so = (why.0, (why.1.0, why.1.1, so why.0 why.1.0 (Disk fault) why.1.2))
  ungathered_so none (Err (Of Output)) P why so = (why.0, (why.1.0, why.1.1, so why.0 why.1.0 Output why.1.2))

module _ {F : Type 0} (i : ℕ) (old new : Option (List ℕ)) (none : Type 0) (d e : FileDisk F) where
  pub leaves_read : (r : CatRefusal) → OnlyReads file_disk d e × IsUnread file_disk d e i old new none r → GathersNot true i (told r) d e
  unfolding told
  leaves_read NoMemory why = (why.0, inl (unread_so d e i old new none NoMemory why.1))
  leaves_read (Unrecovered r) why = (why.0, unread_so d e i old new none (Unrecovered r) why.1)
  leaves_read NoFile why = (why.0, unread_so d e i old new none NoFile why.1)
  leaves_read (Disk fault) why = (why.0, unread_so d e i old new none (Disk fault) why.1)
  leaves_read Output why = (why.0, inr (unread_so d e i old new none Output why.1))

  pub leaves_recovered : (r : CatRefusal) → IsNotShown file_disk d e i old new none r → GathersNot false i (told r) d e
  unfolding told
  leaves_recovered NoMemory why = inr (inl (unshown_so d e i old new none NoMemory why))
  leaves_recovered (Unrecovered r) why = inr (unshown_so d e i old new none (Unrecovered r) why)
  leaves_recovered NoFile why = inr (unshown_so d e i old new none NoFile why)
  leaves_recovered (Disk fault) why = inr (unshown_so d e i old new none (Disk fault) why)
  leaves_recovered Output why = inr (inr (unshown_so d e i old new none Output why))

-- an image that was only read, where a recovery was not forbidden
pub any_gathered : {F : Type 0} (remaining : F → Option (List ℕ)) (read_only : Bool) (i : ℕ) (bytes : List ℕ) → HasGathered remaining true i bytes → HasGathered remaining read_only i bytes
any_gathered remaining true i bytes opens = opens
any_gathered remaining false i bytes opens = (opens.0, (opens.1.0, opens.1.1, inl opens.1.2))

pub any_ungathered : {F : Type 0} (remaining : F → Option (List ℕ)) (read_only : Bool) (i : ℕ) (r : OnFile CatRefusal) → IsUngathered remaining true i r → IsUngathered remaining read_only i r
any_ungathered remaining read_only i (File fault) why = tt
any_ungathered remaining true i (Of r) why = why
any_ungathered remaining false i (Of r) why = (why.0, (why.1.0, why.1.1, inl why.1.2))

-- ---- and refused

-- memory into which nothing can be written is told as such
never_output : {F : Type 0} (read_only : Bool) (i : ℕ) (d e : FileDisk F) → GathersNot read_only i Output d e → ⊥
never_output true i d e why = why.1
never_output false i d e (inl why) = why.1
never_output false i d e (inr why) = why

pub not_cat : {F : Type 0} (remaining : F → Option (List ℕ)) (read_only : Bool) (i : ℕ) (none : Type 0) → none → (r : OnFile CatRefusal) → IsUngathered remaining read_only i r → IsNotCat remaining read_only i none r
not_cat remaining read_only i none silent (File fault) why = silent
not_cat remaining read_only i none silent (Of NoMemory) why = (why, silent)
not_cat remaining read_only i none silent (Of (Unrecovered r)) why = (why, silent)
not_cat remaining read_only i none silent (Of NoFile) why = (why, silent)
not_cat remaining read_only i none silent (Of (Disk fault)) why = (why, silent)
not_cat remaining read_only i none silent (Of Output) why = absurd (never_output read_only i why.0 why.1.0 why.1.2)
