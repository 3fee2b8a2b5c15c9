-- What became of the image in a file whose log has another length, and of the new file.
use Rattle.std.specs.Prelude.{◌≡◌, ◌==◌, ⊤, ℕ, Bool, false, if◌then◌else◌, IsTrue, List, Option, Some, None, length, replicate}
use Rattle.std.specs.Io.KnownBytes.{Appends}
use Rattle.blocks.specs.Block.{zero_block}
use Rattle.blocks.specs.Disk.{Image, Rose}
use Rattle.blocks.specs.declared.disk.Disk.{Ghosts}
use Rattle.blocks.specs.declared.file.FileDisk.{FileDisk}
use Rattle.conversion.specs.Converted.{IsConverted, IsRefusal, chosen_size}
use Rattle.conversion.specs.Older.{is_log_length}
use Rattle.conversion.specs.Shortened.{IsNotShortened, IsShortened}
use Rattle.conversion.specs.declared.fault.ConversionFault.{ConversionFault}
use Rattle.model.specs.Format.{log_blocks}
use Rattle.model.specs.Layout.{super_of}
use Rattle.messages.specs.Output.{numbers_text}
use Rattle.transfer.specs.Writing.{IsNoneOr, WritesOut}
use Rattle.transfer.specs.declared.fault.CopyFault.{CopyFault}
use Rattle.transfer.specs.declared.fault.CopyFault.TheVariants as fault
use Rattle.wal.specs.Recovery.{LeavesIfCalm}
use Rattle.cmd.specs.Opened.{IsOpened}
use Rattle.commands_changes.specs.declared.refused.CopyRefusal.{CopyRefusal}
use Rattle.commands_changes.specs.declared.refused.CopyRefusal.TheVariants.{File, Exists, Of, Unconverted, LogRange, Output}

-- image x was written to the disk d, and synced at the end where `sync` says so; a stop before left
-- block 1 as it was, or this very image
pub record IsWrittenTo {E N : Type 0} (disk : Ghosts E N) (x : Image) (sync : Bool) (d : E)
    : Type 0 where
  pub made : E
  pub written : WritesOut disk x sync d made
  pub stops : LeavesIfCalm disk d made (IsNoneOr (disk.image d) x)

-- or it was not, for this reason
abbrev pub IsUnwrittenTo : {E N : Type 0} → Ghosts E N → E → CopyFault → Type 0
IsUnwrittenTo disk d fault.NoMemory = ⊤
IsUnwrittenTo {E} disk d fault.Disk = (e : E) × Rose (disk.fault_count d) (disk.fault_count e)
IsUnwrittenTo disk d _ = ⊥

-- a disk of as many blocks of zeroes was created in a new file, and image x written to it
pub record HasWrittenAnew {F N : Type 0} (disk : Ghosts (FileDisk F) N) (x : Image) (sync : Bool)
    : Type 0 where
  pub created : FileDisk F
  pub zeroes : disk.image created ≡ replicate (length x) zero_block
  pub written : IsWrittenTo disk x sync created

-- or it was not written to it
pub record HasNotWritten {F N : Type 0} (disk : Ghosts (FileDisk F) N) (x : Image)
    (cause : CopyFault) : Type 0 where
  pub created : FileDisk F
  pub zeroes : disk.image created ≡ replicate (length x) zero_block
  pub why : IsUnwrittenTo disk created cause

-- no file was made at the new path, for this reason; or one was, and image x is not in it
abbrev pub IsNotWrittenAnew : {F N : Type 0} → Ghosts (FileDisk F) N → Image → CopyRefusal → Type 0
IsNotWrittenAnew disk x (File fault) = ⊤
IsNotWrittenAnew disk x Exists = ⊤
IsNotWrittenAnew disk x (Of cause) = HasNotWritten disk x cause
IsNotWrittenAnew disk x (Unconverted fault) = ⊥
IsNotWrittenAnew disk x LogRange = ⊥
IsNotWrittenAnew disk x Output = ⊥

-- image x is in a new file, and its numbers were printed
pub record IsKept {F N : Type 0} (disk : Ghosts (FileDisk F) N) (x : Image) (sync : Bool)
    (old new : Option (List ℕ)) : Type 0 where
  pub written : HasWrittenAnew disk x sync
  pub printed : Appends old new (numbers_text (super_of x))

-- or it is not, or its numbers could not be printed; `none` says that nothing was printed
abbrev pub IsUnkept : {F N : Type 0} → Ghosts (FileDisk F) N → Image → Bool → Type 0 → CopyRefusal
    → Type 0
IsUnkept disk x sync none (File fault) = none
IsUnkept disk x sync none Exists = none
IsUnkept disk x sync none (Of cause) = HasNotWritten disk x cause × none
IsUnkept disk x sync none (Unconverted fault) = ⊥
IsUnkept disk x sync none LogRange = ⊥
IsUnkept disk x sync none Output = HasWrittenAnew disk x sync

-- the length of another log than that of this format, where it is asked for
abbrev pub other_log : Option ℕ → Option ℕ
other_log None = None
other_log (Some log) = if log == log_blocks then None else Some log

-- image y is x with the log of this format, or with another one
abbrev pub HasLog : Option ℕ → Option ℕ → Image → Image → Type 0
HasLog None size x y = IsConverted x (chosen_size x log_blocks size) y
HasLog (Some log) size x y = IsShortened x log (chosen_size x log size) y

-- why image x doesn't get it, on a disk whose faults were and are so many
abbrev pub HasNoLog : Option ℕ → Option ℕ → Image → ℕ → ℕ → ConversionFault → Type 0
HasNoLog None size x was is cause = IsRefusal x size was is cause
HasNoLog (Some log) size x was is cause =
    IsTrue (is_log_length log) × IsNotShortened x log size was is cause

-- no log has the length that is asked for
abbrev pub IsNoLength : Option ℕ → Type 0
IsNoLength None = ⊥
IsNoLength (Some log) = is_log_length log ≡ false

-- why it doesn't get that which is asked for
abbrev pub IsUnlogged : Option ℕ → Option ℕ → Image → ℕ → ℕ → CopyRefusal → Type 0
IsUnlogged log size x was is (Unconverted cause) = HasNoLog (other_log log) size x was is cause
IsUnlogged log size x was is LogRange = IsNoLength (other_log log)
IsUnlogged log size x was is _ = ⊥

-- the disk of a file was opened, and x is its image with the log that is asked for
pub record IsConversion {F N : Type 0} (remaining : F → Option (List ℕ))
    (disk : Ghosts (FileDisk F) N) (log size : Option ℕ) (x : Image) : Type 0 where
  pub opened : FileDisk F
  pub is : IsOpened remaining disk false opened
  pub converted : HasLog (other_log log) size (disk.image opened) x

-- and x is in a new file, and its numbers were printed
pub record HasConverted {F N : Type 0} (remaining : F → Option (List ℕ))
    (disk : Ghosts (FileDisk F) N) (log size : Option ℕ) (sync : Bool)
    (old new : Option (List ℕ)) : Type 0 where
  pub x : Image
  pub of : IsConversion remaining disk log size x
  pub kept : IsKept disk x sync old new

-- the disk of a file was opened, and its image not converted, for this reason
pub record IsNoConversion {F N : Type 0} (remaining : F → Option (List ℕ))
    (disk : Ghosts (FileDisk F) N) (log size : Option ℕ) (cause : ConversionFault) : Type 0 where
  pub opened : FileDisk F
  pub read : FileDisk F
  pub is : IsOpened remaining disk false opened
  pub why : HasNoLog (other_log log) size (disk.image opened) (disk.fault_count opened)
      (disk.fault_count read) cause

-- Where the command was refused: a path is to blame, or the length of the log; or the image was not
-- converted; or it was, and could not be written; or its numbers could not be printed. `none` says that
-- nothing was printed.
abbrev pub OnConvertRefusal : {F N : Type 0} → (F → Option (List ℕ)) → Ghosts (FileDisk F) N
    → Option ℕ → Option ℕ → Bool → Type 0 → CopyRefusal → Type 0
OnConvertRefusal remaining disk log size sync none (File fault) = none
OnConvertRefusal remaining disk log size sync none Exists = none
OnConvertRefusal remaining disk log size sync none (Of cause) =
    (x : Image) × IsConversion remaining disk log size x × HasNotWritten disk x cause × none
OnConvertRefusal remaining disk log size sync none (Unconverted cause) =
    IsNoConversion remaining disk log size cause × none
OnConvertRefusal remaining disk log size sync none LogRange = IsNoLength (other_log log) × none
OnConvertRefusal remaining disk log size sync none Output =
    (x : Image) × IsConversion remaining disk log size x × HasWrittenAnew disk x sync
