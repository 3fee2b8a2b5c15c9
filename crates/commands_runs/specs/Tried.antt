-- The page of a script that was tried at its stops, over a new image: its whole run, and these stops.
use Rattle.std.specs.Prelude.{◌≡◌, ◌≤◌, ◌<◌, ⊤, ℕ, min, Bool, true, false, List, Option, None}
use Rattle.blocks.specs.Disk.{Image}
use Rattle.blocks.specs.declared.disk.Disk.{Ghosts}
use Rattle.crash_check.specs.Images.{new_image}
use Rattle.model.specs.Layout.{inode_count_of}
use Rattle.pictures.specs.Along.{left_along}
use Rattle.pictures.specs.declared.stops.Column.{Column}
use Rattle.pictures.specs.declared.stops.Lost.{Lost}
use Rattle.player.specs.Disks.{faulty}
use Rattle.player.specs.Opening.{Replays}
use Rattle.player.specs.Told.{Saying, Told}
use Rattle.scripts.specs.declared.schedule.Word.{Word}
use Rattle.scripts.specs.declared.script.Task.{Task}
use Rattle.commands.specs.Copied.{memory}
use Rattle.commands_runs.specs.Explored.{HeardAll, IsBegun, IsExplored, steps_of}
use Rattle.commands_runs.specs.Filed.{held_memory, wants_then}
use Rattle.commands_runs.specs.declared.gathered.Gathered.{Gathered}
use Rattle.commands_runs.specs.declared.picturing.PicturedRefusal.{PicturedRefusal}
use Rattle.commands_runs.specs.declared.picturing.PicturedRefusal.TheVariants.{NoMemory, Replay, TooLong, Unfiled, Picture}

-- ---- a whole run in memory

-- A disk had the blocks of an image, and these were the turns of a replay over it of these operations,
-- in the turns of these words. Memory was refused to no operation of it.
pub record RunsTo {D N : Type 0} (below : Ghosts D N) (x : Image) (tasks : List Task)
    (processes : ℕ) (words : List Word) (tolds : List Told) : Type 0 where
  pub start : D
  pub left : D
  pub says : Saying
  pub text : Option (List ℕ)
  pub printed : Option (List ℕ)
  pub same : below.image start ≡ x
  pub replays : Replays below (faulty below) start left tasks processes words 0 says None
      text printed tolds
  pub served : left_along wants_then false tolds ≡ false

-- the same over a disk in memory that holds writes back or doesn't
abbrev pub RunsAll : Bool → Image → List Task → ℕ → List Word → List Told → Type 0
RunsAll false = RunsTo memory
RunsAll true = RunsTo held_memory

-- the turns of such a run were heard of
abbrev pub HearsOf : {D N : Type 0} → Ghosts D N → Image → List Task → ℕ → List Word → Gathered
    → Gathered → Type 0
HearsOf below x tasks processes words old new = (tolds : List Told)
    × RunsTo below x tasks processes words tolds × HeardAll tolds old new

abbrev pub HearsOfRun : Bool → Image → List Task → ℕ → List Word → Gathered → Gathered → Type 0
HearsOfRun holds x tasks processes words old new = (tolds : List Told)
    × RunsAll holds x tasks processes words tolds × HeardAll tolds old new

-- so it was from nothing on, with the writes of the run over a new image of n inode numbers
pub record IsHeardOf (holds : Bool) (tasks : List Task) (processes : ℕ) (words : List Word) (n : ℕ)
    (g : Gathered) : Type 0 where
  pub was : Gathered
  pub begun : IsBegun holds new_image tasks processes words 0 n was
  pub heard : HearsOfRun holds new_image tasks processes words was g

-- ---- its page

-- A file got the page of the whole run of these operations, in the turns of these words, over a new
-- image: of its turns, and of the stops that were tried.
pub record IsExploredNew {F : Type 0} (contents : F → Option (List ℕ)) (holds : Bool)
    (tasks : List Task) (processes : ℕ) (words : List Word) (tried : List Column)
    (lost : Option Lost) : Type 0 where
  pub tolds : List Told
  pub runs : RunsAll holds new_image tasks processes words tolds
  pub few : steps_of tolds ≤ 10000
  pub page : IsExplored contents holds new_image tasks processes words 0 (inode_count_of new_image)
      tolds tried lost

-- it has too many steps
pub record IsTooLong (holds : Bool) (tasks : List Task) (processes : ℕ) (words : List Word) (n : ℕ)
    : Type 0 where
  pub tolds : List Told
  pub runs : RunsAll holds new_image tasks processes words tolds
  pub many : 10000 < steps_of tolds
  pub count : n ≡ min (steps_of tolds) 4294967295

-- why none did
abbrev pub IsUnexploredNew : Bool → List Task → ℕ → List Word → PicturedRefusal → Type 0
IsUnexploredNew holds tasks processes words NoMemory = ⊥
IsUnexploredNew holds tasks processes words (Replay refusal) = ⊥
IsUnexploredNew holds tasks processes words (TooLong n) = IsTooLong holds tasks processes words n
IsUnexploredNew holds tasks processes words Unfiled = ⊤
IsUnexploredNew holds tasks processes words (Picture f) = ⊤
