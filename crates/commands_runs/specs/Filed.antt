-- The files that a replay leaves where it is stopped, once what it left is recovered.
use Rattle.std.specs.Prelude.{◌≡◌, ⊤, ℕ, Bool, true, false, ◌+◌, ◌==◌, ◌||◌, min, if◌then◌else◌, List, [], ◌∷◌, ◌++◌, Option, None}
use Rattle.blocks.specs.Disk.{Image, one_more}
use Rattle.blocks.specs.contracts.sync.SyncDiskDisk.TheImpl.{ghosts as held_ghosts}
use Rattle.blocks.specs.declared.disk.Disk.{Ghosts}
use Rattle.blocks.specs.declared.sync.SyncDisk.{SyncDisk}
use Rattle.messages.specs.Output.{counts_text}
use Rattle.messages.specs.declared.events.Event.{Event}
use Rattle.messages.specs.declared.events.Event.TheVariants.{Stepped, Answered, Shut, Stopped}
use Rattle.model.specs.Log.{recovered}
use Rattle.model.specs.declared.types.operations.Step.{Step}
use Rattle.model.specs.declared.types.operations.Step.TheVariants as step
use Rattle.pictures.specs.Along.{left_along}
use Rattle.pictures.specs.declared.types.FileLine.{FileLine}
use Rattle.pictures.specs.declared.types.FilesThen.{FilesThen}
use Rattle.pictures.specs.declared.types.Moment.{Moment}
use Rattle.player.specs.Disks.{faulty}
use Rattle.player.specs.Opening.{Replays}
use Rattle.player.specs.Told.{Saying, Told}
use Rattle.scripts.specs.declared.schedule.Word.{Word}
use Rattle.scripts.specs.declared.script.Task.{Task}
use Rattle.commands.specs.Copied.{memory}
use Rattle.commands_runs.specs.FileLines.{lines_of}
use Rattle.commands_runs.specs.declared.changes.Stop.{Stop}

-- what contracts see of a disk in memory that holds writes back
abbrev pub held_memory : Ghosts SyncDisk (Unit {0})
held_memory = held_ghosts

-- ---- where the files change

-- at the opening: a stop before the first write
abbrev pub first_stop : Stop
first_stop = record { column = 0; write = 1 }

-- from behind a step on: a stop before the next write
abbrev pub stop_behind : Moment → Stop
stop_behind m = record { column = min (m.column + 1) 4294967295; write = one_more m.note.writes }

-- where a group was committed with the step, and so many had been before
abbrev pub stops_at : ℕ → Moment → List Stop
stops_at committed m = if m.note.committed == committed then [] else stop_behind m ∷ []

abbrev pub stops_along : ℕ → List Moment → List Stop
stops_along committed [] = []
stops_along committed (m ∷ ms) = stops_at committed m ++ stops_along m.note.committed ms

-- at the opening, and behind each step with which a group was committed
abbrev pub stops_of : List Moment → List Stop
stops_of ms = first_stop ∷ stops_along 0 ms

-- ---- what a stop leaves

-- memory was refused to an operation
abbrev pub is_want : Step → Bool
is_want step.Moved = false
is_want step.Answered = false
is_want (step.Sleeping cause) = false
is_want step.Idle = false
is_want step.NoMemory = true
is_want step.ShutDown = false
is_want step.Halted = false

abbrev pub wants_in : Event → Bool
wants_in (Stepped p s) = is_want s
wants_in (Answered p a) = false
wants_in Shut = false
wants_in (Stopped n) = false

-- or was, in a turn before
abbrev pub wants_then : Bool → Told → Bool
wants_then before told = before || wants_in told.event

-- nothing is printed of a turn
abbrev pub mute : Saying
mute = record { of_turn = λ inode_count told. []; of_end = counts_text }

-- A disk had the blocks of an image, and a replay over it of these operations, in the turns of these
-- words, was stopped before the write of that number, from 1. Memory was refused to no operation of it.
-- What it left has the files of these lines, once it is recovered.
pub record LeavesLines {D N : Type 0} (below : Ghosts D N) (x : Image) (tasks : List Task)
    (processes : ℕ) (words : List Word) (write : ℕ) (lines : List FileLine) : Type 0 where
  pub start : D
  pub left : D
  pub tolds : List Told
  pub text : Option (List ℕ)
  pub printed : Option (List ℕ)
  pub same : below.image start ≡ x
  pub replays : Replays below (faulty below) start left tasks processes words write mute None
      text printed tolds
  pub served : left_along wants_then false tolds ≡ false
  pub has : lines ≡ lines_of (recovered (below.image left))

-- the same over a disk in memory that holds writes back or doesn't
abbrev pub LeavesFiles : Bool → Image → List Task → ℕ → List Word → ℕ → List FileLine → Type 0
LeavesFiles false = LeavesLines memory
LeavesFiles true = LeavesLines held_memory

-- the files from a step on are those that a stop there leaves
abbrev pub HasFiles : Bool → Image → List Task → ℕ → List Word → Stop → FilesThen → Type 0
HasFiles holds x tasks processes words stop files = (files.column ≡ stop.column)
    × LeavesFiles holds x tasks processes words stop.write files.lines.items

-- these are the files at each of these stops, in order
abbrev pub AreFiled : (Stop → FilesThen → Type 0) → List Stop → List FilesThen → Type 0
AreFiled P [] [] = ⊤
AreFiled P [] (f ∷ fs) = ⊥
AreFiled P (s ∷ ss) [] = ⊥
AreFiled P (s ∷ ss) (f ∷ fs) = P s f × AreFiled P ss fs
