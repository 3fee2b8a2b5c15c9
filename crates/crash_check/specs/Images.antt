-- The images of runs, and the files that they have to have.
use Rattle.std.specs.Prelude.{◌≡◌, ℕ, Bool, true, false, List, replicate, Option, Some, None}
use Rattle.blocks.specs.Disk.{Image}
use Rattle.model.specs.declared.types.fault.CheckFault.TheVariants as check
use Rattle.model.specs.declared.types.image.Form.TheVariants.{One}
use Rattle.model.specs.declared.types.operations.Entry.{Entry}
use Rattle.model.specs.Codec.{made_image}
use Rattle.model.specs.Files.{Files, files_of}
use Rattle.model.specs.Journal.{kept, replay}
use Rattle.model.specs.Log.{logged_count, recovered}
use Rattle.model.specs.Verdict.{verdict}
use Rattle.wal.specs.declared.faults.RecoverFault.TheVariants as recover
use Rattle.kernel.specs.declared.types.OpenFault.{OpenFault}
use Rattle.kernel.specs.declared.types.OpenFault.TheVariants.{Check, Recover, NoMemory}
use Rattle.opening.specs.declared.recovering.RecoverRefusal.{RecoverRefusal}
use Rattle.opening.specs.declared.recovering.RecoverRefusal.TheVariants as refusal

-- a new image of 48 blocks with 16 inode numbers
abbrev pub new_image : Image
new_image = made_image One 48 16

-- the files after the operations of the committed groups, where there was none before; None where
-- one of them can't have its reply
abbrev pub kept_files : List Entry → ℕ → Option Files
kept_files entries committed = replay One (replicate 16 None) (kept 16 entries committed)

-- the image can be recovered, and then has exactly these files
pub record HasFiles (x : Image) (due : Option Files) : Type 0 where
  pub sound : verdict x ≡ None
  pub files : due ≡ Some (files_of (recovered x))

-- the image was recovered to that one, with so many blocks of its log copied home
pub record IsRecoveredTo (x : Image) (count : ℕ) (y : Image) : Type 0 where
  pub sound : verdict x ≡ None
  pub logged : count ≡ logged_count x
  pub image : y ≡ recovered x

-- the same, and these are the files of that one
pub record IsFound (x : Image) (count : ℕ) (y : Image) (found : Files) : Type 0 where
  pub recovered_to : IsRecoveredTo x count y
  pub files : found ≡ files_of y

-- the refusal of a recovery as that of an opening
abbrev pub as_of_opening : RecoverRefusal → OpenFault
as_of_opening (refusal.Check fault) = Check fault
as_of_opening (refusal.Recover fault) = Recover fault

-- the faults of an opening that memory was refused
abbrev pub is_want_of_memory : OpenFault → Bool
is_want_of_memory (Check check.NoMemory) = true
is_want_of_memory (Recover recover.NoMemory) = true
is_want_of_memory NoMemory = true
is_want_of_memory fault = false
