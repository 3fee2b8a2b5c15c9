-- What became of the disk in a file over which a script's operations were made, told in objects of JSON.
use Rattle.std.specs.Prelude.{⊤, ℕ, Bool, List, Option}
use Rattle.blocks.specs.declared.file.FileDisk.{FileDisk}
use Rattle.cmd.specs.Lemmas.Disks.{faulty_disk, file_disk}
use Rattle.cmd.specs.Opened.{OpensDisk}
use Rattle.json_lines.specs.declared.written.Written.{Written}
use Rattle.player.specs.Opening.{IsNotReplayed}
use Rattle.player.specs.Told.{Told, in_objects}
use Rattle.player.specs.declared.refusals.ReplayRefusal.{ReplayRefusal}
use Rattle.player.specs.declared.refusals.ReplayRefusal.TheVariants.{Unrecovered, Unopened, Disk, Output}
use Rattle.scripts.specs.declared.schedule.Word.{Word}
use Rattle.scripts.specs.declared.script.Task.{Task}
use Rattle.commands_runs.specs.Runs.{IsReplayedSo}
use Rattle.commands_runs.specs.Writes.{AreItsWrites}
use Rattle.commands_runs.specs.declared.runs.ReplayFilesRefusal.{ReplayFilesRefusal}
use Rattle.commands_runs.specs.declared.runs.ReplayFilesRefusal.TheVariants.{Script, Schedule, File, Replay}

-- these are the writes of a replay of these operations over the disk d, now e
abbrev pub HasWrites : {F : Type 0} → Bool → ℕ → List Written → List Task → ℕ → List Word → List Told
    → FileDisk F → FileDisk F → Type 0
HasWrites holds stop written tasks processes words tolds d e =
    AreItsWrites holds (file_disk.image d) tasks processes words stop written

-- a script was replayed, and printed as objects, with the bytes of its writes
abbrev pub IsReplayedInObjects : {F : Type 0} → Bool → ℕ → Option (List ℕ) → Option (List ℕ)
    → FileDisk F → FileDisk F → Type 0
IsReplayedInObjects holds stop old new d e = (written : List Written)
    × IsReplayedSo (in_objects written) stop old new (HasWrites holds stop written) d e

-- with this something may have been printed of a replay: it was begun
abbrev pub MayPrint : ReplayRefusal → Type 0
MayPrint (Unrecovered refusal) = ⊥
MayPrint (Unopened fault) = ⊥
MayPrint (Disk fault) = ⊤
MayPrint Output = ⊤

-- Why some operations were not replayed over the disk d, now e, in the turns of some words, and what was
-- printed: objects with the bytes of these writes. They had been made by a replay of the same in memory,
-- but where that was refused: then, as where none began over the disk, nothing was printed.
pub record IsUnreplayedWith {F : Type 0} (holds : Bool) (stop : ℕ) (old new : Option (List ℕ))
    (none : Type 0) (r : ReplayRefusal) (d e : FileDisk F) : Type 0 where
  pub tasks : List Task
  pub processes : ℕ
  pub words : List Word
  pub written : List Written
  pub refused : IsNotReplayed file_disk faulty_disk d e tasks processes words stop
      (in_objects written) old new none r
  pub writes : MayPrint r
      → AreItsWrites holds (file_disk.image d) tasks processes words stop written

-- why a script was not: one of its files could not be had, or this was the disk's refusal
abbrev pub IsUnreplayedInObjects : {F : Type 0} → (F → Option (List ℕ)) → Bool → ℕ → Option (List ℕ)
    → Option (List ℕ) → Type 0 → ReplayFilesRefusal → Type 0
IsUnreplayedInObjects remaining holds stop old new none (Script fault) = none
IsUnreplayedInObjects remaining holds stop old new none (Schedule fault) = none
IsUnreplayedInObjects remaining holds stop old new none (File fault) = none
IsUnreplayedInObjects remaining holds stop old new none (Replay r) =
    OpensDisk remaining file_disk holds (IsUnreplayedWith holds stop old new none r)
