-- What became of many bytes that were put into an image in a file by way of a new file.
use Rattle.std.specs.Prelude.{◌≡◌, ◌<◌, ◌⊎◌, ⊤, ℕ, Bool, true, false, List, [], length, replicate, Option, Some}
use Rattle.std.specs.Io.KnownBytes.{Appends}
use Rattle.blocks.specs.Block.{zero_block}
use Rattle.blocks.specs.Disk.{Image, Rose}
use Rattle.blocks.specs.declared.file.FileDisk.{FileDisk}
use Rattle.blocks.specs.declared.memory.MemDisk.{MemDisk}
use Rattle.cmd.specs.Lemmas.Disks.{file_disk}
use Rattle.cmd.specs.Opened.{IsOpened}
use Rattle.cmd.specs.declared.files.OnFile.{OnFile}
use Rattle.cmd.specs.declared.files.OnFile.TheVariants.{File, Of}
use Rattle.model.specs.Operations.{transfer_limit}
use Rattle.transfer.specs.Writing.{WritesOut}
use Rattle.transfer.specs.Written.{device_fault}
use Rattle.transfer.specs.declared.refused.PutRefusal.{PutRefusal}
use Rattle.transfer.specs.declared.refused.PutRefusal.TheVariants as refusal
use Rattle.transfer.specs.declared.writing_out.WriteFault.{WriteFault}
use Rattle.commands.specs.Copied.{memory}
use Rattle.commands_changes.specs.PutsOver.{IsUnputOver, PutsOver}

-- the bytes were put into an image in memory, and this text tells the number of their file
abbrev pub PutsIn : Option ℕ → List ℕ → MemDisk → List ℕ → MemDisk → Type 0
PutsIn inum bytes old text new = PutsOver memory inum bytes false old new (Some []) (Some text)

-- or were not, for this reason
pub record IsUnputIn (inum : Option ℕ) (bytes : List ℕ) (old : MemDisk) (r : PutRefusal) : Type 0
  where
    pub now : MemDisk
    pub why : IsUnputOver memory inum bytes false ⊤ old now r

-- into a copy of the image of a disk that was opened from a file
pub record PutsOpened {F : Type 0} (remaining : F → Option (List ℕ)) (inum : Option ℕ)
    (bytes text : List ℕ) (new : MemDisk) : Type 0 where
  pub opened : FileDisk F
  pub is : IsOpened remaining file_disk false opened
  pub copy : MemDisk
  pub alike : memory.image copy ≡ file_disk.image opened
  pub put : PutsIn inum bytes copy text new

-- that image was written to a disk of zeroes, the superblock last, and that synced
pub record IsWrittenAnew (F : Type 0) (whole : Image) : Type 0 where
  pub zeroes : FileDisk F
  pub empty : file_disk.image zeroes ≡ replicate (length whole) zero_block
  pub written : FileDisk F
  pub writes : WritesOut file_disk whole true zeroes written

-- THE PROMISE of a put by way of a new file: the bytes were put into a copy of the image that was
-- opened, and what came of it was written to another file, and synced
pub record HasPutAnew {F : Type 0} (remaining : F → Option (List ℕ)) (inum : Option ℕ)
    (bytes text : List ℕ) : Type 0 where
  pub many : transfer_limit < length bytes
  pub image : MemDisk
  pub put : PutsOpened remaining inum bytes text image
  pub written : IsWrittenAnew F (memory.image image)

-- and that text was printed
pub record PrintsPut {F : Type 0} (remaining : F → Option (List ℕ)) (inum : Option ℕ)
    (bytes : List ℕ) (old new : Option (List ℕ)) : Type 0 where
  pub text : List ℕ
  pub put : HasPutAnew remaining inum bytes text
  pub printed : Appends old new text

-- what is done where it is done so; else nothing was printed
abbrev pub HasPutIfSo : {F : Type 0} → (F → Option (List ℕ)) → Option ℕ → List ℕ
    → Option (List ℕ) → Option (List ℕ) → Type 0 → Bool → Type 0
HasPutIfSo remaining inum bytes old new none true = PrintsPut remaining inum bytes old new
HasPutIfSo remaining inum bytes old new none false = none

-- the bytes were not put into a copy of the image that was opened
pub record IsUnputThere {F : Type 0} (remaining : F → Option (List ℕ)) (inum : Option ℕ)
    (bytes : List ℕ) (r : PutRefusal) : Type 0 where
  pub opened : FileDisk F
  pub is : IsOpened remaining file_disk false opened
  pub copy : MemDisk
  pub alike : memory.image copy ≡ file_disk.image opened
  pub why : IsUnputIn inum bytes copy r

-- Why they were not: the image's file can't be had, or memory for a copy of it, or they were not put
-- into that.
abbrev pub IsUnputOpened : {F : Type 0} → (F → Option (List ℕ)) → Option ℕ → List ℕ
    → OnFile PutRefusal → Type 0
IsUnputOpened remaining inum bytes (File fault) = ⊤
IsUnputOpened remaining inum bytes (Of r) =
    IsUnputThere remaining inum bytes r ⊎ (r ≡ refusal.NoMemory)

-- the disk in a new file failed
pub record FailsAnew (F : Type 0) (r : PutRefusal) : Type 0 where
  pub zeroes : FileDisk F
  pub failed : FileDisk F
  pub fault : WriteFault
  pub is : r ≡ refusal.Disk (device_fault fault)
  pub rose : Rose (file_disk.fault_count zeroes) (file_disk.fault_count failed)

-- why an image was not written to a new file: that can't be had, or memory, or its disk failed
abbrev pub IsUnwrittenAnew : Type 0 → OnFile PutRefusal → Type 0
IsUnwrittenAnew F (File fault) = ⊤
IsUnwrittenAnew F (Of r) = FailsAnew F r ⊎ (r ≡ refusal.NoMemory)

-- why no new image was made: the bytes were not put into a copy of the old one, or that was not written
abbrev pub IsNotPutAnew : {F : Type 0} → (F → Option (List ℕ)) → Option ℕ → List ℕ
    → OnFile PutRefusal → Type 0
IsNotPutAnew {F} remaining inum bytes r =
    IsUnputOpened remaining inum bytes r ⊎ IsUnwrittenAnew F r

-- one was made, but the number of the file not printed
abbrev pub IsUntoldAnew : {F : Type 0} → (F → Option (List ℕ)) → Option ℕ → List ℕ
    → OnFile PutRefusal → Type 0
IsUntoldAnew remaining inum bytes r =
    (r ≡ Of refusal.Output) × ((text : List ℕ) × HasPutAnew remaining inum bytes text)

-- Why the bytes were not put so. `none` says that nothing was printed.
abbrev pub IsUnputAnew : {F : Type 0} → (F → Option (List ℕ)) → Option ℕ → List ℕ → Type 0
    → OnFile PutRefusal → Type 0
IsUnputAnew remaining inum bytes none r =
    (IsNotPutAnew remaining inum bytes r × none) ⊎ IsUntoldAnew remaining inum bytes r
