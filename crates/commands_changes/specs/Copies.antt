-- What became of the image in a file that was copied into a new one.
use Rattle.std.specs.Prelude.{◌≡◌, ◌⊎◌, ⊤, ℕ, Bool, false, List, replicate, Option, Some, None}
use Rattle.std.specs.Io.KnownBytes.{Appends}
use Rattle.blocks.specs.Block.{zero_block}
use Rattle.blocks.specs.Calls.{OnlyReads}
use Rattle.blocks.specs.Disk.{Image}
use Rattle.blocks.specs.declared.disk.Disk.{Ghosts}
use Rattle.blocks.specs.declared.file.FileDisk.{FileDisk}
use Rattle.transfer.specs.Copies.{IsCopied, IsUncopied}
use Rattle.transfer.specs.declared.fault.CopyFault.{CopyFault}
use Rattle.transfer.specs.declared.fault.CopyFault.TheVariants as fault
use Rattle.offline.specs.Cause.{IsCause}
use Rattle.layout.specs.declared.geometry.MkfsFault.TheVariants as mkfs
use Rattle.model.specs.Layout.{form_of, inode_count_of, is_size, super_of}
use Rattle.model.specs.Verdict.{verdict}
use Rattle.model.specs.declared.types.image.Form.TheVariants.{One, Two}
use Rattle.messages.specs.Output.{files_text}
use Rattle.cmd.specs.Opened.{IsOpened}
use Rattle.commands_changes.specs.declared.refused.CopyRefusal.{CopyRefusal}
use Rattle.commands_changes.specs.declared.refused.CopyRefusal.TheVariants.{File, Exists, Of, Unconverted, LogRange, Output}

-- the blocks of a copy of image x: those that were asked for, or as many as it has
abbrev pub size_asked : Option ℕ → Image → ℕ
size_asked (Some size) x = size
size_asked None x = (super_of x).size

-- a copy of the image of disk d can be made, of that size
pub record IsPlanned {D N : Type 0} (disk : Ghosts D N) (size : Option ℕ) (d : D) (planned : ℕ)
    : Type 0 where
  pub sound : verdict (disk.image d) ≡ None
  pub first : form_of (disk.image d) ≡ One
  pub asked : planned ≡ size_asked size (disk.image d)

-- or it can't, as is told before a file is made
abbrev pub IsUnplanned : {D N : Type 0} → Ghosts D N → Option ℕ → D → D → CopyFault → Type 0
IsUnplanned disk size d e (fault.Old cause) =
    IsCause (verdict (disk.image d)) (disk.fault_count d) (disk.fault_count e) cause
IsUnplanned disk size d e fault.NotFirst =
    (verdict (disk.image d) ≡ None) × (form_of (disk.image d) ≡ Two)
IsUnplanned disk size d e (fault.Mkfs mkfs.SizeRange) = (verdict (disk.image d) ≡ None)
    × (is_size (size_asked size (disk.image d)) (inode_count_of (disk.image d)) ≡ false)
IsUnplanned disk size d e _ = ⊥

-- the files of disk d were copied to the disk `new`, and so many there are; that was synced at the end
-- where `sync` says so, here and below
pub record IsFilled {D E M N : Type 0} (old : Ghosts D M) (over : Ghosts E N) (size : ℕ)
    (sync : Bool) (d : D) (new : E) (count : ℕ) : Type 0 where
  pub made : E
  pub copied : IsCopied old over size sync d new made count

-- or they were not, for this reason; d is d' then
pub record IsUnfilled {D E M N : Type 0} (old : Ghosts D M) (over : Ghosts E N) (size : ℕ)
    (d d' : D) (new : E) (cause : CopyFault) : Type 0 where
  pub made : E
  pub why : IsUncopied old over size d d' new made cause

-- a disk of so many blocks of zeroes was created in a new file, and the files of disk d copied to it
pub record HasFilled {F N : Type 0} (disk : Ghosts (FileDisk F) N) (size : ℕ) (sync : Bool)
    (d : FileDisk F) (count : ℕ) : Type 0 where
  pub created : FileDisk F
  pub zeroes : disk.image created ≡ replicate size zero_block
  pub filled : IsFilled disk disk size sync d created count

-- or they were not
pub record HasNotFilled {F N : Type 0} (disk : Ghosts (FileDisk F) N) (size : ℕ)
    (d d' : FileDisk F) (cause : CopyFault) : Type 0 where
  pub created : FileDisk F
  pub zeroes : disk.image created ≡ replicate size zero_block
  pub unfilled : IsUnfilled disk disk size d d' created cause

-- The disk of a file was opened, and only read before its files were copied to that disk. So many
-- there are.
pub record HasMade {F N : Type 0} (remaining : F → Option (List ℕ)) (disk : Ghosts (FileDisk F) N)
    (size : Option ℕ) (sync : Bool) (count : ℕ) : Type 0 where
  pub opened : FileDisk F
  pub read : FileDisk F
  pub is : IsOpened remaining disk false opened
  pub reads : OnlyReads disk opened read
  pub filled : HasFilled disk (size_asked size (disk.image opened)) sync read count

-- and how many was printed
pub record HasCopied {F N : Type 0} (remaining : F → Option (List ℕ))
    (disk : Ghosts (FileDisk F) N) (size : Option ℕ) (sync : Bool) (old new : Option (List ℕ))
    : Type 0 where
  pub count : ℕ
  pub made : HasMade remaining disk size sync count
  pub printed : Appends old new (files_text count)

-- the disk of a file was opened, and no copy planned, for this reason
pub record HasNotPlanned {F N : Type 0} (remaining : F → Option (List ℕ))
    (disk : Ghosts (FileDisk F) N) (size : Option ℕ) (cause : CopyFault) : Type 0 where
  pub opened : FileDisk F
  pub read : FileDisk F
  pub is : IsOpened remaining disk false opened
  pub reads : OnlyReads disk opened read
  pub why : IsUnplanned disk size opened read cause

-- a copy was planned, and ended with this fault
pub record HasNotCopied {F N : Type 0} (remaining : F → Option (List ℕ))
    (disk : Ghosts (FileDisk F) N) (size : Option ℕ) (cause : CopyFault) : Type 0 where
  pub opened : FileDisk F
  pub read : FileDisk F
  pub left : FileDisk F
  pub is : IsOpened remaining disk false opened
  pub reads : OnlyReads disk opened read
  pub why : HasNotFilled disk (size_asked size (disk.image opened)) read left cause

-- a path is to blame
abbrev pub IsOfPath : CopyRefusal → Type 0
IsOfPath (File fault) = ⊤
IsOfPath Exists = ⊤
IsOfPath refusal = ⊥

-- no file was made at the new path, for this reason; or one was, and no copy in it
abbrev pub IsUnmade : {F N : Type 0} → Ghosts (FileDisk F) N → ℕ → FileDisk F → FileDisk F
    → CopyRefusal → Type 0
IsUnmade disk size d d' (File fault) = ⊤
IsUnmade disk size d d' Exists = ⊤
IsUnmade disk size d d' (Of cause) = HasNotFilled disk size d d' cause
IsUnmade disk size d d' (Unconverted fault) = ⊥
IsUnmade disk size d d' LogRange = ⊥
IsUnmade disk size d d' Output = ⊥

-- Where the command was refused: a path is to blame; or no copy was planned, or none made; or how
-- many files there are could not be printed. `none` says that nothing was printed.
abbrev pub OnCopyRefusal : {F N : Type 0} → (F → Option (List ℕ)) → Ghosts (FileDisk F) N
    → Option ℕ → Bool → Type 0 → CopyRefusal → Type 0
OnCopyRefusal remaining disk size sync none (File fault) = none
OnCopyRefusal remaining disk size sync none Exists = none
OnCopyRefusal remaining disk size sync none (Of cause) =
    (HasNotPlanned remaining disk size cause ⊎ HasNotCopied remaining disk size cause) × none
OnCopyRefusal remaining disk size sync none (Unconverted fault) = ⊥
OnCopyRefusal remaining disk size sync none LogRange = ⊥
OnCopyRefusal remaining disk size sync none Output =
    (count : ℕ) × HasMade remaining disk size sync count
