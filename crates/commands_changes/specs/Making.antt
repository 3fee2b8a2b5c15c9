-- What became of the disk in a file in which an image was made.
use Rattle.std.specs.Prelude.{◌≡◌, ⊤, ℕ, Bool, true, false, IsTrue, List, replicate, Option}
use Rattle.std.specs.Io.KnownBytes.{Appends}
use Rattle.blocks.specs.Block.{zero_block}
use Rattle.blocks.specs.declared.disk.Disk.{Ghosts}
use Rattle.blocks.specs.declared.file.FileDisk.{FileDisk}
use Rattle.cmd.specs.declared.files.OnFile.{OnFile}
use Rattle.cmd.specs.declared.files.OnFile.TheVariants.{File, Of}
use Rattle.commands_changes.specs.declared.making.Making.{Making}
use Rattle.layout.specs.declared.geometry.MkfsFault.{MkfsFault}
use Rattle.layout.specs.declared.geometry.MkfsFault.TheVariants.{SizeRange, InodeRange, Disk, NoMemory}
use Rattle.messages.specs.Output.{numbers_text}
use Rattle.messages.specs.declared.printed.Printed.{Printed}
use Rattle.messages.specs.declared.printed.Printed.TheVariants.{Fault, Output}
use Rattle.model.specs.Layout.{is_inode_count, is_size, planned_super}
use Rattle.model.specs.declared.types.image.Form.{Form}
use Rattle.model.specs.declared.types.image.Super.{Super}
use Rattle.offline.specs.Making.{MakesAs}
use Rattle.disk_commands.specs.Causes.{IsUnmade}
use Rattle.disk_commands.specs.Looks.{EndsSynced}

-- an image was made on the disk d, and the last call to it, where one is asked for, was a sync that
-- was done
pub record IsFilledWith {D N : Type 0} (disk : Ghosts D N) (form : Form) (size inode_count : ℕ)
    (sync : Bool) (d : D) (fields : Super) : Type 0 where
  pub now : D
  pub makes : MakesAs disk form size inode_count d now
  pub synced : sync ≡ true → EndsSynced disk now
  pub told : fields ≡ planned_super size inode_count

-- or none was, for this reason
pub record IsNotFilledWith {D N : Type 0} (disk : Ghosts D N) (form : Form)
    (size inode_count : ℕ) (d : D) (fault : MkfsFault) : Type 0 where
  pub now : D
  pub cause : IsUnmade disk.image disk.fault_count form size inode_count d now fault

-- a disk of so many blocks of zeroes was created in a file, and an image made on it
pub record HasMadeIn {F N : Type 0} (disk : Ghosts (FileDisk F) N) (form : Form)
    (size inode_count : ℕ) (sync : Bool) (fields : Super) : Type 0 where
  pub created : FileDisk F
  pub zeroes : disk.image created ≡ replicate size zero_block
  pub filled : IsFilledWith disk form size inode_count sync created fields

abbrev pub HasMadeAs : {F N : Type 0} → Ghosts (FileDisk F) N → Making → Super → Type 0
HasMadeAs disk making fields =
    HasMadeIn disk making.form making.size making.ninodes making.sync fields

-- and its numbers were printed
pub record IsMade {F N : Type 0} (disk : Ghosts (FileDisk F) N) (form : Form)
    (size inode_count : ℕ) (sync : Bool) (old new : Option (List ℕ)) : Type 0 where
  pub fields : Super
  pub made : HasMadeIn disk form size inode_count sync fields
  pub printed : Appends old new (numbers_text (planned_super size inode_count))

-- there is an image of that size, with so many inode numbers
abbrev pub IsPlan : ℕ → ℕ → Type 0
IsPlan size inode_count = IsTrue (is_inode_count inode_count) × IsTrue (is_size size inode_count)

-- why none was made, where there is one
abbrev pub IsNotMadeIn : OnFile MkfsFault → Type 0
IsNotMadeIn (Of InodeRange) = ⊥
IsNotMadeIn (Of SizeRange) = ⊥
IsNotMadeIn r = ⊤

-- Why none was made in the file, or its numbers not printed. `none` says that nothing was.
abbrev pub IsNotMade : ℕ → ℕ → Type 0 → OnFile (Printed MkfsFault) → Type 0
IsNotMade size inode_count none (Of (Fault InodeRange)) =
    (is_inode_count inode_count ≡ false) × none
IsNotMade size inode_count none (Of (Fault SizeRange)) =
    (IsTrue (is_inode_count inode_count) × (is_size size inode_count ≡ false)) × none
IsNotMade size inode_count none (Of (Fault Disk)) = IsPlan size inode_count × none
IsNotMade size inode_count none (Of (Fault NoMemory)) = IsPlan size inode_count × none
IsNotMade size inode_count none (File fault) = none
IsNotMade size inode_count none (Of Output) = IsPlan size inode_count
