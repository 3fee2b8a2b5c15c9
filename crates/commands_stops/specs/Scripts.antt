-- What became of a script that was checked at each of its stops.
use Rattle.std.specs.Prelude.{⊤, ℕ, Bool, List, [], Option}
use Rattle.scripts.specs.declared.schedule.Word.{Word}
use Rattle.scripts.specs.declared.script.Task.{Task}
use Rattle.crash_check.specs.Faults.{mismatch_text, stops_telling}
use Rattle.crash_check.specs.declared.fault.StopsFault.{StopsFault}
use Rattle.crash_check.specs.declared.fault.StopsFault.TheVariants.{Mismatch, NoMemory}
use Rattle.messages.specs.Telling.{Telling, printed_telling, schedule_telling, script_telling}
use Rattle.messages.specs.declared.printed.Printed.{Printed}
use Rattle.messages.specs.declared.printed.Printed.TheVariants.{Fault, Output}
use Rattle.pictures.specs.declared.stops.Column.{Column}
use Rattle.stops.specs.Checks.{ChecksAll, IsUnchecked}
use Rattle.commands_stops.specs.declared.stopping.StopsRefusal.{StopsRefusal}
use Rattle.commands_stops.specs.declared.stopping.StopsRefusal.TheVariants.{Script, Schedule, Stops}

-- how it is told
abbrev pub stops_files_telling : StopsRefusal → Telling
stops_files_telling (Script fault) = script_telling fault
stops_files_telling (Schedule fault) = schedule_telling fault
stops_files_telling (Stops refusal) = printed_telling stops_telling refusal

-- where a mismatch was met
abbrev pub place_text : StopsRefusal → List ℕ
place_text (Stops (Fault (Mismatch m))) = mismatch_text m
place_text (Stops (Fault NoMemory)) = []
place_text (Stops Output) = []
place_text (Script fault) = []
place_text (Schedule fault) = []

-- some operations were checked in the turns of some words, over a disk that holds writes back or over
-- one that doesn't, each image passed, and how many there were was printed, as JSON or as text;
-- these stops were tried
pub record ChecksScript (json held : Bool) (tried : List Column) (old new : Option (List ℕ))
    : Type 0 where
  pub tasks : List Task
  pub processes : ℕ
  pub words : List Word
  pub checks : ChecksAll json held tasks processes words tried old new

-- some operations were not, for this reason
pub record IsUncheckedFor (held : Bool) (tried : List Column) (none : Type 0)
    (r : Printed StopsFault) : Type 0 where
  pub tasks : List Task
  pub processes : ℕ
  pub words : List Word
  pub refused : IsUnchecked held tasks processes words tried none r

-- a script, or its schedule, could not be had
abbrev pub IsUnread : StopsRefusal → Type 0
IsUnread (Script fault) = ⊤
IsUnread (Schedule fault) = ⊤
IsUnread (Stops r) = ⊥
