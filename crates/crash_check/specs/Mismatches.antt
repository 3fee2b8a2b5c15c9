-- What a mismatch tells: where it was met, and what is not as it has to be.
use Rattle.std.specs.Prelude.{◌≡◌, ◌≢◌, ⊤, ◌+◌, ◌*◌, ℕ, Bool, if◌then◌else◌, List, [], ◌∷◌, length, take, slice_get, Option, Some, None}
use Rattle.blocks.specs.Disk.{Image}
use Rattle.model.specs.Files.{Files, files_of}
use Rattle.model.specs.Log.{recovered}
use Rattle.model.specs.Verdict.{verdict}
use Rattle.crash_check.specs.declared.fault.StopsFault.{StopsFault}
use Rattle.crash_check.specs.declared.fault.StopsFault.TheVariants.{Mismatch, NoMemory}
use Rattle.crash_check.specs.declared.mismatch.Cause.{Cause}
use Rattle.crash_check.specs.declared.mismatch.Cause.TheVariants.{File, Unrecovered, Undue, Unopened, OtherRun}
use Rattle.crash_check.specs.declared.mismatch.Choice.{Choice}
use Rattle.crash_check.specs.declared.mismatch.Mismatch.{Mismatch as SomeMismatch}
use Rattle.crash_check.specs.declared.mismatch.Stop.{Stop}
use Rattle.crash_check.specs.declared.mismatch.Stop.TheVariants.{End}

-- truth values as the bits of a number, the first as the lowest
abbrev pub bits_value : List Bool → ℕ
bits_value [] = 0
bits_value (b ∷ rest) = (if b then 1 else 0) + 2 * bits_value rest

-- which of the held writes got through, by a truth value for each
abbrev pub choice_of : List Bool → Choice
choice_of keep = record { held = length keep; kept = bits_value keep }

-- one of the whole run, where no writes are held back
abbrev pub mismatch_of : Cause → SomeMismatch
mismatch_of cause = record { stop = End; choice = None; cause = cause }

-- the first place at which two lists differ
pub record DifferFirst {A : Type 0} (a b : List A) (k : ℕ) : Type 0 where
  pub before : take k a ≡ take k b
  pub here : slice_get a k ≢ slice_get b k

-- the image can be recovered, and this is the first number whose file differs from the one that is
-- due
pub record HasOtherFile (x : Image) (due : Option Files) (k : ℕ) : Type 0 where
  pub sound : verdict x ≡ None
  pub files : Files
  pub are_due : due ≡ Some files
  pub first : DifferFirst (files_of (recovered x)) files k

-- the image has not the files that are due, for this cause
abbrev pub LacksFiles : Image → Option Files → Cause → Type 0
LacksFiles x due (File k) = HasOtherFile x due k
LacksFiles x due Unrecovered = ¬ (verdict x ≡ None)
LacksFiles x due Undue = due ≡ None
LacksFiles x due Unopened = ⊥
LacksFiles x due OtherRun = ⊥

-- a check ended with a mismatch, of which this is so, or for want of memory
abbrev pub OnMismatch : StopsFault → (SomeMismatch → Type 0) → Type 0
OnMismatch (Mismatch m) P = P m
OnMismatch NoMemory P = ⊤

-- the same fault, met by a run that was stopped there
abbrev pub met_at : Stop → StopsFault → StopsFault
met_at stop (Mismatch m) = Mismatch (record m { stop = stop })
met_at stop NoMemory = NoMemory
