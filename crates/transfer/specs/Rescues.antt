-- A rescue, and why there is none.
use Rattle.std.specs.Prelude.{◌≡◌, ◌⊎◌, ⊤, Bool, length, Option, None}
use Rattle.blocks.specs.Disk.{Image, Rose}
use Rattle.blocks.specs.declared.disk.Disk.{Ghosts}
use Rattle.model.specs.Layout.{form_of, inode_count_of}
use Rattle.model.specs.Log.{recovered}
use Rattle.model.specs.Verdict.{geometry_fault, log_fault, or_else}
use Rattle.model.specs.declared.types.fault.CheckFault.{CheckFault}
use Rattle.offline.specs.Cause.{IsCause}
use Rattle.offline.specs.Clean.{clean_numbers, left_numbers}
use Rattle.transfer.specs.Copies.{HoldsFiles, IsFilledOut, IsMkfsCause, IsNoneOrFilled}
use Rattle.transfer.specs.Fitting.{DontFit, data_count}
use Rattle.transfer.specs.Holding.{RunsShort}
use Rattle.transfer.specs.Source.{rescued_files}
use Rattle.transfer.specs.declared.fault.CopyFault.{CopyFault}
use Rattle.transfer.specs.declared.fault.CopyFault.TheVariants.{Old, NotFirst, Mkfs, Full, Leaked, NoMemory, Disk}
use Rattle.transfer.specs.declared.picking.Rescued.{Rescued}

-- the fault of an image's superblock or log, for which nothing of it is read
abbrev pub opening_fault : Image → Option CheckFault
opening_fault x = or_else (geometry_fault x) (log_fault x)

-- the numbers whose files are clean are told, and those left out
pub record TellsRescued (y : Image) (told : Rescued) : Type 0 where
  pub clean : told.clean.items ≡ clean_numbers y
  pub left : told.left.items ≡ left_numbers y

-- why the numbers of the disk d, which is d' then, were not read
abbrev pub IsUnopened : {D M : Type 0} → Ghosts D M → D → D → CopyFault → Type 0
IsUnopened old d d' (Old fault) =
    IsCause (opening_fault (old.image d)) (old.fault_count d) (old.fault_count d') fault
IsUnopened old d d' NotFirst = ⊥
IsUnopened old d d' (Mkfs fault) = ⊥
IsUnopened old d d' (Full i) = ⊥
IsUnopened old d d' (Leaked i) = ⊥
IsUnopened old d d' NoMemory = ⊤
IsUnopened old d d' Disk = ⊥

-- Image x has the clean files of image old, each with its number, as recovery would leave them, but
-- that one name leads to each. It is a sound one of its form and size.
abbrev pub IsRescueOf : Image → Image → Type 0
IsRescueOf old x = HoldsFiles (length old) (form_of old) (rescued_files (recovered old)) x

-- such a rescue of the image on d was made on e, and its numbers and the others are told
pub record IsRescued {D E M N : Type 0} (old : Ghosts D M) (new : Ghosts E N) (sync : Bool)
    (d : D) (n e : E) (told : Rescued) : Type 0 where
  pub opened : opening_fault (old.image d) ≡ None
  pub rescue : IsFilledOut new (length (old.image d)) (form_of (old.image d))
      (rescued_files (recovered (old.image d))) sync n e
  pub tells : TellsRescued (recovered (old.image d)) told

-- what a stop leaves of a rescue of image old to a disk with image n: block 1 as it was, or the whole
abbrev pub IsNoneOrRescued : Image → Image → Image → Type 0
IsNoneOrRescued old n x =
    IsNoneOrFilled (length old) (form_of old) (rescued_files (recovered old)) n x

-- why the clean files of the disk d, which is d' then, were not rescued to n, which is e then
abbrev pub IsUnrescued : {D E M N : Type 0} → Ghosts D M → Ghosts E N → D → D → E → E
    → CopyFault → Type 0
IsUnrescued old new d d' n e (Old fault) =
    IsCause (opening_fault (old.image d)) (old.fault_count d) (old.fault_count d') fault × (e ≡ n)
IsUnrescued old new d d' n e NotFirst = ⊥
IsUnrescued old new d d' n e (Mkfs fault) = (opening_fault (old.image d) ≡ None)
    × IsMkfsCause (length (old.image d)) (inode_count_of (old.image d)) (length (new.image n)) fault
    × (e ≡ n)
IsUnrescued old new d d' n e (Full i) = (opening_fault (old.image d) ≡ None)
    × DontFit (data_count (length (old.image d)) (inode_count_of (old.image d)))
    (form_of (old.image d)) (recovered (old.image d)) (rescued_files (recovered (old.image d))) i
    × (e ≡ n)
IsUnrescued old new d d' n e (Leaked i) = (opening_fault (old.image d) ≡ None)
    × RunsShort (length (old.image d)) (form_of (old.image d)) i
    (rescued_files (recovered (old.image d)))
    × (e ≡ n)
IsUnrescued old new d d' n e NoMemory = e ≡ n
IsUnrescued old new d d' n e Disk =
    (Rose (old.fault_count d) (old.fault_count d') × (e ≡ n))
    ⊎ Rose (new.fault_count n) (new.fault_count e)
