-- What became of the disk in a file over which a script's operations were made, with a page of them or
-- without: one that walks through their steps, or a plain one, on which they are drawn.
use Rattle.std.specs.Prelude.{ℕ, Bool, true, false, List, Option, Some, None}
use Rattle.blocks.specs.declared.file.FileDisk.{FileDisk}
use Rattle.messages.specs.declared.deeds.Detail.{Detail}
use Rattle.player.specs.Told.{Told, in_lines}
use Rattle.scripts.specs.declared.schedule.Word.{Word}
use Rattle.scripts.specs.declared.script.Task.{Task}
use Rattle.commands_runs.specs.Explored.{HasExplorer, IsUnexplored}
use Rattle.commands_runs.specs.Pictures.{HasPicture, IsUnpictured}
use Rattle.commands_runs.specs.Runs.{IsReplayed, IsReplayedSo}
use Rattle.commands_runs.specs.declared.picturing.PicturedRefusal.{PicturedRefusal}

-- a file got a page of the run, plain or not
abbrev pub HasPage : {F : Type 0} → (F → Option (List ℕ)) → Bool → ℕ → Bool → List Task → ℕ
    → List Word → List Told → FileDisk F → FileDisk F → Type 0
HasPage contents holds stop true = HasPicture contents holds
HasPage contents holds stop false = HasExplorer contents holds stop

-- a script was replayed over the disk in a file, with a page in the file at a path, where there is one
abbrev pub IsReplayedInto : {F P : Type 0} → (F → Option (List ℕ)) → Bool → Detail → ℕ
    → Option (List ℕ) → Option (List ℕ) → Option P → Bool → FileDisk F → FileDisk F → Type 0
IsReplayedInto contents holds detail stop old new None plain d e =
    IsReplayed (in_lines detail) stop old new d e
IsReplayedInto contents holds detail stop old new (Some path) plain d e =
    IsReplayedSo (in_lines detail) stop old new (HasPage contents holds stop plain) d e

-- why it wasn't
abbrev pub IsNotReplayedInto : {F : Type 0} → (F → Option (List ℕ)) → Bool → Detail → ℕ → Bool
    → Option (List ℕ) → Option (List ℕ) → Type 0 → PicturedRefusal → Type 0
IsNotReplayedInto remaining holds detail stop true = IsUnpictured remaining holds detail stop
IsNotReplayedInto remaining holds detail stop false = IsUnexplored remaining holds detail stop
