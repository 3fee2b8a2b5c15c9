-- What became of a change of an image that is made anew.
use Rattle.std.specs.Prelude.{◌≡◌, ◌⊎◌, ⊤, ℕ, Bool, true, false, List, [], Option, Some}
use Rattle.std.specs.Io.KnownBytes.{Appends}
use Rattle.blocks.specs.declared.file.FileDisk.{FileDisk}
use Rattle.blocks.specs.declared.memory.MemDisk.{MemDisk}
use Rattle.cmd.specs.Lemmas.Disks.{file_disk}
use Rattle.cmd.specs.Opened.{IsOpened}
use Rattle.cmd.specs.declared.files.OnFile.{OnFile}
use Rattle.cmd.specs.declared.files.OnFile.TheVariants.{File, Of}
use Rattle.commands.specs.Copied.{memory}
use Rattle.commands_changes.specs.PutsAnew.{IsUnwrittenAnew, IsWrittenAnew}
use Rattle.kernel.specs.declared.types.OpenFault.TheVariants as unopened
use Rattle.model.specs.Files.{Files}
use Rattle.model.specs.declared.types.image.Form.{Form}
use Rattle.names.specs.declared.opening.TreeOpenFault.TheVariants as opening
use Rattle.transfer.specs.declared.refused.PutRefusal.{PutRefusal}
use Rattle.transfer.specs.declared.refused.PutRefusal.TheVariants as put
use Rattle.tree_changes.specs.Changes.{HasChanged, HasNotChanged, Turn}
use Rattle.tree_changes.specs.declared.faults.ChangeRefusal.{ChangeRefusal}
use Rattle.tree_changes.specs.declared.faults.ChangeRefusal.TheVariants as change

-- a change of files was made of an image in memory, which is another one now, and answers this text
abbrev pub ChangesIn : (Form → Option ℕ → Files → Files → Type 0) → MemDisk → MemDisk → List ℕ
    → Type 0
ChangesIn makes old new text = HasChanged memory makes false old new (Some []) (Some text)

-- or was not
pub record IsUnchangedIn (makes : Form → Option ℕ → Files → Files → Type 0)
    (undone : Turn → ChangeRefusal → Type 0) (old : MemDisk) (r : ChangeRefusal) : Type 0
  where
    pub now : MemDisk
    pub why : HasNotChanged memory makes undone false old now ⊤ r

-- ---- any change of an image in memory, which makes this of it, and answers a text

-- it was made of a copy in memory of the image of a disk that was opened from a file
pub record ChangesOpened {F : Type 0} (remaining : F → Option (List ℕ))
    (makes : MemDisk → MemDisk → List ℕ → Type 0) (text : List ℕ) (new : MemDisk) : Type 0 where
  pub opened : FileDisk F
  pub is : IsOpened remaining file_disk false opened
  pub copy : MemDisk
  pub alike : memory.image copy ≡ file_disk.image opened
  pub changed : makes copy new text

-- THE PROMISE of a change by way of a new file: it was made of a copy of the image that was opened, and
-- what came of it was written to another file, and synced
pub record HasChangedAnew {F : Type 0} (remaining : F → Option (List ℕ))
    (makes : MemDisk → MemDisk → List ℕ → Type 0) (text : List ℕ) : Type 0 where
  pub image : MemDisk
  pub changed : ChangesOpened remaining makes text image
  pub written : IsWrittenAnew F (memory.image image)

-- and that text was printed
pub record PrintsAnew {F : Type 0} (remaining : F → Option (List ℕ))
    (makes : MemDisk → MemDisk → List ℕ → Type 0) (old new : Option (List ℕ)) : Type 0 where
  pub text : List ℕ
  pub made : HasChangedAnew remaining makes text
  pub printed : Appends old new text

-- what is done where it is done so; else nothing was printed
abbrev pub HasChangedIfSo : {F : Type 0} → (F → Option (List ℕ))
    → (MemDisk → MemDisk → List ℕ → Type 0) → Option (List ℕ) → Option (List ℕ) → Type 0 → Bool
    → Type 0
HasChangedIfSo remaining makes old new none true = PrintsAnew remaining makes old new
HasChangedIfSo remaining makes old new none false = none

-- it was not made of a copy of the image that was opened
pub record IsUnchangedThere {F R : Type 0} (remaining : F → Option (List ℕ))
    (undone : MemDisk → R → Type 0) (r : R) : Type 0 where
  pub opened : FileDisk F
  pub is : IsOpened remaining file_disk false opened
  pub copy : MemDisk
  pub alike : memory.image copy ≡ file_disk.image opened
  pub why : undone copy r

-- memory for a copy of the image, or to write it, was refused
abbrev pub no_memory : ChangeRefusal
no_memory = change.Unopened (opening.Kernel unopened.NoMemory)

-- Why it was not: the image's file can't be had, or memory for a copy of it, or it was not made of that.
-- `told` is how a change tells a refusal of files, here and below.
abbrev pub IsUnchangedOpened : {F R : Type 0} → (F → Option (List ℕ)) → (MemDisk → R → Type 0)
    → (ChangeRefusal → R) → OnFile R → Type 0
IsUnchangedOpened remaining undone told (File fault) = ⊤
IsUnchangedOpened remaining undone told (Of r) =
    IsUnchangedThere remaining undone r ⊎ (r ≡ told no_memory)

-- how it is told that an image was not written
abbrev pub unwritten_as : PutRefusal → ChangeRefusal
unwritten_as (put.Disk fault) = change.Disk fault
unwritten_as put.NoMemory = no_memory
unwritten_as other = change.Output

-- to a new file
abbrev pub told_anew : {R : Type 0} → (ChangeRefusal → R) → OnFile PutRefusal → OnFile R
told_anew told (File fault) = File fault
told_anew told (Of refused) = Of (told (unwritten_as refused))

-- why one was not: that file can't be had, or memory, or its disk failed
pub record IsNotWritten (F : Type 0) {R : Type 0} (told : ChangeRefusal → R) (r : OnFile R) : Type 0
  where
    pub refused : OnFile PutRefusal
    pub why : IsUnwrittenAnew F refused
    pub told_so : r ≡ told_anew told refused

-- why no new image was made: the change was not made of a copy of the old one, or that was not written
abbrev pub IsNotChangedAnew : {F R : Type 0} → (F → Option (List ℕ)) → (MemDisk → R → Type 0)
    → (ChangeRefusal → R) → OnFile R → Type 0
IsNotChangedAnew {F} remaining undone told r =
    IsUnchangedOpened remaining undone told r ⊎ IsNotWritten F told r

-- one was made, but what the change answers not printed
abbrev pub IsUntoldAnew : {F R : Type 0} → (F → Option (List ℕ))
    → (MemDisk → MemDisk → List ℕ → Type 0) → (ChangeRefusal → R) → OnFile R → Type 0
IsUntoldAnew remaining makes told r =
    (r ≡ Of (told change.Output)) × ((text : List ℕ) × HasChangedAnew remaining makes text)

-- Why the change was not made so. `none` says that nothing was printed.
abbrev pub IsUnchangedAnew : {F R : Type 0} → (F → Option (List ℕ))
    → (MemDisk → MemDisk → List ℕ → Type 0) → (MemDisk → R → Type 0) → (ChangeRefusal → R) → Type 0
    → OnFile R → Type 0
IsUnchangedAnew remaining makes undone told none r =
    (IsNotChangedAnew remaining undone told r × none) ⊎ IsUntoldAnew remaining makes told r
