-- A copy, and why there is none.
use Rattle.std.specs.Prelude.{◌≡◌, ◌⊎◌, ℕ, ◌==◌, ◌&&◌, ⊤, Bool, false, length, replicate, None, Result, Ok, Err}
use Rattle.blocks.specs.Disk.{Image, Rose, counted}
use Rattle.blocks.specs.declared.disk.Disk.{Ghosts}
use Rattle.model.specs.declared.types.image.Form.{Form}
use Rattle.model.specs.declared.types.image.Form.TheVariants.{One, Two}
use Rattle.model.specs.Files.{Files, files_of, file_count}
use Rattle.model.specs.Layout.{form_of, inode_count_of, is_size}
use Rattle.model.specs.Log.{recovered}
use Rattle.model.specs.Soundness.{IsSound}
use Rattle.model.specs.Verdict.{verdict}
use Rattle.offline.specs.Cause.{IsCause}
use Rattle.layout.specs.declared.geometry.MkfsFault.{MkfsFault}
use Rattle.layout.specs.declared.geometry.MkfsFault.TheVariants as mkfs
use Rattle.calls.specs.Stepping.{Plain}
use Rattle.wal.specs.Recovery.{LeavesIfCalm}
use Rattle.transfer.specs.Fitting.{DontFit, data_count}
use Rattle.transfer.specs.Holding.{Holds, RunsShort}
use Rattle.transfer.specs.Source.{copied_files}
use Rattle.transfer.specs.Writing.{IsNoneOr, KeepsSuperblock, SettlesIf}
use Rattle.transfer.specs.declared.fault.CopyFault.{CopyFault}
use Rattle.transfer.specs.declared.fault.CopyFault.TheVariants.{Old, NotFirst, Mkfs, Full, Leaked, NoMemory, Disk}

-- ---- before anything is written

-- why the old disk d, which is d' then, can't be copied
abbrev pub IsUnread : {D M : Type 0} → Ghosts D M → D → D → CopyFault → Type 0
IsUnread old d d' (Old fault) =
    IsCause (verdict (old.image d)) (old.fault_count d) (old.fault_count d') fault
IsUnread old d d' NotFirst = (verdict (old.image d) ≡ None) × (form_of (old.image d) ≡ Two)
IsUnread old d d' (Mkfs fault) = ⊥
IsUnread old d d' (Full i) = ⊥
IsUnread old d d' (Leaked i) = ⊥
IsUnread old d d' NoMemory = ⊤
IsUnread old d d' Disk = Rose (old.fault_count d) (old.fault_count d')

-- why no image was made on the disk n, which is e then
abbrev pub IsMakingCause : {E N : Type 0} → Ghosts E N → ℕ → ℕ → E → E → MkfsFault → Type 0
IsMakingCause new size inode_count n e mkfs.SizeRange =
    (is_size size inode_count && (size == length (new.image n))) ≡ false
IsMakingCause new size inode_count n e mkfs.InodeRange = ⊥
IsMakingCause new size inode_count n e mkfs.Disk = Rose (new.fault_count n) (new.fault_count e)
IsMakingCause new size inode_count n e mkfs.NoMemory = ⊤

-- a kernel without files, over an image that was made on the disk n
pub record IsNewKernel {E N : Type 0} (new : Ghosts E N) (size inode_count : ℕ) (kind : Form)
    (n : E) (k : Plain E) : Type 0 where
  pub holds : Holds new 0 (replicate inode_count None) k
  pub device : k.store.volume.device ≡ k.opening
  pub long : length (new.image k.opening) ≡ size
  pub form : form_of (new.image k.opening) ≡ kind
  pub name : new.name k.opening ≡ new.name n
  pub faults : new.fault_count k.opening ≡ new.fault_count n

-- why there is none on the disk n, which is e then
abbrev pub IsUnmade : {E N : Type 0} → Ghosts E N → ℕ → ℕ → E → E → CopyFault → Type 0
IsUnmade new size inode_count n e (Old fault) = ⊥
IsUnmade new size inode_count n e NotFirst = ⊥
IsUnmade new size inode_count n e (Mkfs fault) = IsMakingCause new size inode_count n e fault
IsUnmade new size inode_count n e (Full i) = ⊥
IsUnmade new size inode_count n e (Leaked i) = ⊥
IsUnmade new size inode_count n e NoMemory = ⊤
IsUnmade new size inode_count n e Disk = Rose (new.fault_count n) (new.fault_count e)

-- why these files of the disk d, which is d' then, are not all in an image in memory
abbrev pub IsUnfilled : {D M : Type 0} → Ghosts D M → ℕ → ℕ → Form → Files → D → D → CopyFault
    → Type 0
IsUnfilled old size count form files d d' (Old fault) = ⊥
IsUnfilled old size count form files d d' NotFirst = ⊥
IsUnfilled old size count form files d d' (Mkfs fault) = fault ≡ mkfs.NoMemory
IsUnfilled old size count form files d d' (Full i) =
    DontFit (data_count size count) form (recovered (old.image d)) files i
IsUnfilled old size count form files d d' (Leaked i) =
    RunsShort size form i files × (old.fault_count d' ≡ old.fault_count d)
IsUnfilled old size count form files d d' NoMemory = ⊤
IsUnfilled old size count form files d d' Disk = Rose (old.fault_count d) (old.fault_count d')

-- ---- the whole

-- image x is a sound one of that form and size, with these files
pub record HoldsFiles (size : ℕ) (kind : Form) (these : Files) (x : Image) : Type 0 where
  pub sound : IsSound x
  pub form : form_of x ≡ kind
  pub long : length x ≡ size
  pub files : files_of x ≡ these

-- an image with these files was made on the disk n, which is e then, by one write for each of its
-- blocks and two syncs, and nothing is held; without a sync at the end by one sync. A stop before left
-- block 1 as it was, or this very image.
pub record IsFilledOut {E N : Type 0} (new : Ghosts E N) (size : ℕ) (form : Form) (files : Files)
    (sync : Bool) (n e : E) : Type 0 where
  pub holds : HoldsFiles size form files (new.image e)
  pub writes : new.write_count e ≡ counted (new.write_count n) size
  pub faults : new.fault_count e ≡ new.fault_count n
  pub settles : SettlesIf sync new n e
  pub stops : LeavesIfCalm new n e (IsNoneOr (new.image n) (new.image e))

-- what a stop leaves on a disk with image n: block 1 as it was, or an image with these files
abbrev pub IsNoneOrFilled : ℕ → Form → Files → Image → Image → Type 0
IsNoneOrFilled size form files n x = KeepsSuperblock n x ⊎ HoldsFiles size form files x

-- why a disk of so many blocks can't have an image of that size, with so many numbers
abbrev pub IsMkfsCause : ℕ → ℕ → ℕ → MkfsFault → Type 0
IsMkfsCause size inode_count long mkfs.SizeRange =
    (is_size size inode_count && (size == long)) ≡ false
IsMkfsCause size inode_count long mkfs.InodeRange = ⊥
IsMkfsCause size inode_count long mkfs.Disk = ⊥
IsMkfsCause size inode_count long mkfs.NoMemory = ⊤

-- why these files of the disk d, which is d' then, are not all on the disk n, which is e then
abbrev pub IsNotFilledOut : {D E M N : Type 0} → Ghosts D M → Ghosts E N → ℕ → ℕ → Form → Files
    → D → D → E → E → CopyFault → Type 0
IsNotFilledOut old new size count form files d d' n e (Old fault) = ⊥
IsNotFilledOut old new size count form files d d' n e NotFirst = ⊥
IsNotFilledOut old new size count form files d d' n e (Mkfs fault) =
    IsMkfsCause size count (length (new.image n)) fault × (e ≡ n)
IsNotFilledOut old new size count form files d d' n e (Full i) =
    DontFit (data_count size count) form (recovered (old.image d)) files i × (e ≡ n)
IsNotFilledOut old new size count form files d d' n e (Leaked i) =
    RunsShort size form i files × (e ≡ n)
IsNotFilledOut old new size count form files d d' n e NoMemory = e ≡ n
IsNotFilledOut old new size count form files d d' n e Disk =
    (Rose (old.fault_count d) (old.fault_count d') × (e ≡ n))
    ⊎ Rose (new.fault_count n) (new.fault_count e)

-- ---- a copy

-- Image x has the files of image old, each with its number, as recovery would leave them, but that one
-- name leads to each. It is a sound one of the second form and of that size.
abbrev pub IsCopyOf : ℕ → Image → Image → Type 0
IsCopyOf size old x = HoldsFiles size Two (copied_files (recovered old)) x

-- such a copy of the image on d was made on e, of an image of the first form without a fault
pub record IsCopied {D E M N : Type 0} (old : Ghosts D M) (new : Ghosts E N) (size : ℕ) (sync : Bool)
    (d : D) (n e : E) (count : ℕ) : Type 0 where
  pub old_sound : verdict (old.image d) ≡ None
  pub first : form_of (old.image d) ≡ One
  pub copy : IsFilledOut new size Two (copied_files (recovered (old.image d))) sync n e
  pub told : count ≡ file_count (files_of (recovered (old.image d)))

-- what a stop leaves of a copy of image old to a disk with image n: block 1 as it was, or the whole
abbrev pub IsNoneOrWhole : ℕ → Image → Image → Image → Type 0
IsNoneOrWhole size old n x = IsNoneOrFilled size Two (copied_files (recovered old)) n x

-- why the files of the disk d, which is d' then, were not copied to n, which is e then
abbrev pub IsUncopied : {D E M N : Type 0} → Ghosts D M → Ghosts E N → ℕ → D → D → E → E
    → CopyFault → Type 0
IsUncopied old new size d d' n e (Old fault) =
    IsCause (verdict (old.image d)) (old.fault_count d) (old.fault_count d') fault × (e ≡ n)
IsUncopied old new size d d' n e NotFirst =
    (verdict (old.image d) ≡ None) × (form_of (old.image d) ≡ Two) × (e ≡ n)
IsUncopied old new size d d' n e (Mkfs fault) =
    (verdict (old.image d) ≡ None) × (form_of (old.image d) ≡ One)
    × IsMkfsCause size (inode_count_of (old.image d)) (length (new.image n)) fault × (e ≡ n)
IsUncopied old new size d d' n e (Full i) =
    (verdict (old.image d) ≡ None) × (form_of (old.image d) ≡ One)
    × DontFit (data_count size (inode_count_of (old.image d))) Two (recovered (old.image d))
    (copied_files (recovered (old.image d))) i
    × (e ≡ n)
IsUncopied old new size d d' n e (Leaked i) =
    (verdict (old.image d) ≡ None) × (form_of (old.image d) ≡ One)
    × RunsShort size Two i (copied_files (recovered (old.image d))) × (e ≡ n)
IsUncopied old new size d d' n e NoMemory = e ≡ n
IsUncopied old new size d d' n e Disk =
    (Rose (old.fault_count d) (old.fault_count d') × (e ≡ n))
    ⊎ Rose (new.fault_count n) (new.fault_count e)

-- the new disk that is handed back, with what is told or with a fault
abbrev pub disk_of : {A E : Type 0} → Result (A × E) (CopyFault × E) → E
disk_of (Ok copied) = copied.1
disk_of (Err refused) = refused.1
