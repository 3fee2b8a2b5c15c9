-- What became of the image in a file whose whole files were rescued into a new one.
use Rattle.std.specs.Prelude.{◌≡◌, ◌⊎◌, ⊤, ℕ, Bool, false, List, length, replicate, Option}
use Rattle.std.specs.Io.KnownBytes.{Appends}
use Rattle.blocks.specs.Block.{zero_block}
use Rattle.blocks.specs.Calls.{OnlyReads}
use Rattle.blocks.specs.declared.disk.Disk.{Ghosts}
use Rattle.blocks.specs.declared.file.FileDisk.{FileDisk}
use Rattle.transfer.specs.Rescues.{IsRescued, IsUnopened, IsUnrescued}
use Rattle.transfer.specs.declared.fault.CopyFault.{CopyFault}
use Rattle.transfer.specs.declared.picking.Rescued.{Rescued}
use Rattle.messages.specs.Output.{rescued_text}
use Rattle.cmd.specs.Opened.{IsOpened}
use Rattle.commands_changes.specs.declared.refused.CopyRefusal.{CopyRefusal}
use Rattle.commands_changes.specs.declared.refused.CopyRefusal.TheVariants.{File, Exists, Of, Unconverted, LogRange, Output}

-- the clean files of disk d were rescued to the disk `new`, and this is told of them; that was synced
-- at the end where `sync` says so, here and below
pub record IsFilledRescue {D E M N : Type 0} (old : Ghosts D M) (over : Ghosts E N) (sync : Bool)
    (d : D) (new : E) (told : Rescued) : Type 0 where
  pub made : E
  pub rescued : IsRescued old over sync d new made told

-- or they were not, for this reason; d is d' then
pub record IsUnfilledRescue {D E M N : Type 0} (old : Ghosts D M) (over : Ghosts E N)
    (d d' : D) (new : E) (cause : CopyFault) : Type 0 where
  pub made : E
  pub why : IsUnrescued old over d d' new made cause

-- a disk of as many blocks of zeroes was created in a new file, and the files rescued to it
pub record HasFilledRescue {F N : Type 0} (disk : Ghosts (FileDisk F) N) (sync : Bool)
    (d : FileDisk F) (told : Rescued) : Type 0 where
  pub created : FileDisk F
  pub zeroes : disk.image created ≡ replicate (length (disk.image d)) zero_block
  pub filled : IsFilledRescue disk disk sync d created told

-- or they were not
pub record HasNotFilledRescue {F N : Type 0} (disk : Ghosts (FileDisk F) N) (d d' : FileDisk F)
    (cause : CopyFault) : Type 0 where
  pub created : FileDisk F
  pub zeroes : disk.image created ≡ replicate (length (disk.image d)) zero_block
  pub unfilled : IsUnfilledRescue disk disk d d' created cause

-- The disk of a file was opened, and only read before its files were rescued, of which this is told.
pub record HasMadeRescue {F N : Type 0} (remaining : F → Option (List ℕ))
    (disk : Ghosts (FileDisk F) N) (sync : Bool) (told : Rescued) : Type 0 where
  pub opened : FileDisk F
  pub read : FileDisk F
  pub is : IsOpened remaining disk false opened
  pub reads : OnlyReads disk opened read
  pub filled : HasFilledRescue disk sync read told

-- and the numbers were printed
pub record HasRescued {F N : Type 0} (remaining : F → Option (List ℕ))
    (disk : Ghosts (FileDisk F) N) (sync : Bool) (old new : Option (List ℕ)) : Type 0 where
  pub told : Rescued
  pub made : HasMadeRescue remaining disk sync told
  pub printed : Appends old new (rescued_text told.clean.items told.left.items)

-- the disk of a file was opened, and its superblock or log not, for this reason
pub record HasNotOpened {F N : Type 0} (remaining : F → Option (List ℕ))
    (disk : Ghosts (FileDisk F) N) (cause : CopyFault) : Type 0 where
  pub opened : FileDisk F
  pub read : FileDisk F
  pub is : IsOpened remaining disk false opened
  pub why : IsUnopened disk opened read cause

-- a rescue was begun, and ended with this fault
pub record HasNotRescued {F N : Type 0} (remaining : F → Option (List ℕ))
    (disk : Ghosts (FileDisk F) N) (cause : CopyFault) : Type 0 where
  pub opened : FileDisk F
  pub read : FileDisk F
  pub left : FileDisk F
  pub is : IsOpened remaining disk false opened
  pub reads : OnlyReads disk opened read
  pub why : HasNotFilledRescue disk read left cause

-- no file was made at the new path, for this reason; or one was, and no rescue in it
abbrev pub IsUnmadeRescue : {F N : Type 0} → Ghosts (FileDisk F) N → FileDisk F → FileDisk F
    → CopyRefusal → Type 0
IsUnmadeRescue disk d d' (File fault) = ⊤
IsUnmadeRescue disk d d' Exists = ⊤
IsUnmadeRescue disk d d' (Of cause) = HasNotFilledRescue disk d d' cause
IsUnmadeRescue disk d d' (Unconverted fault) = ⊥
IsUnmadeRescue disk d d' LogRange = ⊥
IsUnmadeRescue disk d d' Output = ⊥

-- Where the command was refused: a path is to blame; or the image was not opened, or no rescue made;
-- or the numbers could not be printed. `none` says that nothing was printed.
abbrev pub OnRescueRefusal : {F N : Type 0} → (F → Option (List ℕ)) → Ghosts (FileDisk F) N
    → Bool → Type 0 → CopyRefusal → Type 0
OnRescueRefusal remaining disk sync none (File fault) = none
OnRescueRefusal remaining disk sync none Exists = none
OnRescueRefusal remaining disk sync none (Of cause) =
    (HasNotOpened remaining disk cause ⊎ HasNotRescued remaining disk cause) × none
OnRescueRefusal remaining disk sync none (Unconverted fault) = ⊥
OnRescueRefusal remaining disk sync none LogRange = ⊥
OnRescueRefusal remaining disk sync none Output =
    (told : Rescued) × HasMadeRescue remaining disk sync told
