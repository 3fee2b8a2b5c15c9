-- Which of the held writes get through, and the files that the image is due then.
use Rattle.std.specs.Prelude.{◌≡◌, ◌<◌, ◌+◌, ◌==◌, ◌^◌, ℕ, zero, suc, Bool, true, false, List, [], ◌∷◌, length, take, nat_le, if◌then◌else◌, Option, Some, option_map}
use Rattle.blocks.specs.Disk.{Image}
use Rattle.blocks.specs.Held.{chosen}
use Rattle.blocks.specs.SyncDisk.{held_of, synced_of}
use Rattle.blocks.specs.declared.sync.SyncDisk.{SyncDisk}
use Rattle.model.specs.Files.{Files}
use Rattle.model.specs.Log.{logged_count}
use Rattle.crash_check.specs.Images.{HasFiles}
use Rattle.crash_check.specs.Mismatches.{LacksFiles, choice_of}
use Rattle.crash_check.specs.declared.choices.Due.{Due}
use Rattle.crash_check.specs.declared.mismatch.Mismatch.{Mismatch}

-- of n held writes the first k get through
abbrev pub beginning : ℕ → ℕ → List Bool
beginning zero k = []
beginning (suc n) zero = false ∷ beginning n zero
beginning (suc n) (suc k) = true ∷ beginning n k

-- A choice of so many held writes that is tried: any of up to 6, and of more the beginnings.
pub record IsChoice (held : ℕ) (keep : List Bool) : Type 0 where
  pub size : length keep ≡ held
  pub first : 6 < held → (k : ℕ) × (keep ≡ beginning held k)

-- how many choices of so many held writes there are
abbrev pub choice_count : ℕ → ℕ
choice_count held = if nat_le held 6 then 2 ^ held else held + 1

-- the image that a stop leaves of a disk, by the held writes that get through
abbrev pub left_by : SyncDisk → List Bool → Image
left_by d keep = chosen (synced_of d) (held_of d) keep

-- The files that an image of a run is due: those of the committed groups, and where its own header
-- logs something, those of all groups that were opened. For a commit is of the last of these.
abbrev pub due_files : Option Files → Option Files → Image → Option Files
due_files committed opened x = if logged_count x == 0 then committed else opened

abbrev pub due_of : Due → Image → Option Files
due_of due = due_files (option_map (λ f. f.items) due.committed)
    (option_map (λ f. f.items) due.opened)

-- the image that a choice leaves has exactly these
abbrev pub HasDue : SyncDisk → Due → List Bool → Type 0
HasDue d due keep = HasFiles (left_by d keep) (due_of due (left_by d keep))

-- each choice does
abbrev pub HasAllDue : SyncDisk → Due → Type 0
HasAllDue d due = (keep : List Bool) → IsChoice (length (held_of d)) keep → HasDue d due keep

-- this one doesn't, and a mismatch tells the choice and the cause
pub record LacksDueBy (d : SyncDisk) (due : Due) (keep : List Bool) (m : Mismatch) : Type 0 where
  pub choice : m.choice ≡ Some (choice_of keep)
  pub cause : LacksFiles (left_by d keep) (due_of due (left_by d keep)) m.cause

-- the choice that a mismatch tells doesn't
abbrev pub LacksDue : SyncDisk → Due → Mismatch → Type 0
LacksDue d due m =
    (keep : List Bool) × IsChoice (length (held_of d)) keep × LacksDueBy d due keep m

-- each that begins with the first of some choice does
abbrev pub HasRestDue : SyncDisk → Due → ℕ → List Bool → Type 0
HasRestDue d due from old = (keep : List Bool) → length keep ≡ length old
    → take from keep ≡ take from old → HasDue d due keep

-- one choice of as many doesn't
abbrev pub LacksSome : SyncDisk → Due → ℕ → Mismatch → Type 0
LacksSome d due held m = (keep : List Bool) × (length keep ≡ held) × LacksDueBy d due keep m
