-- The scripts and the schedules that readers give.
use Rattle.std.specs.Prelude.{◌≡◌, ◌⊎◌, ⊤, ℕ, List, Option, Some, None, IfSome}
use Rattle.scripts.specs.declared.script.Task.{Task}
use Rattle.scripts.specs.declared.script.ScriptFault.{ScriptFault}
use Rattle.scripts.specs.declared.script.ScriptFault.TheVariants as script_is
use Rattle.scripts.specs.Script.{tasks_of, fault_of}
use Rattle.scripts.specs.declared.schedule.ScheduleFault.{ScheduleFault}
use Rattle.scripts.specs.declared.schedule.ScheduleFault.TheVariants as schedule_fault
use Rattle.scripts.specs.declared.schedule.Word.{Word}
use Rattle.scripts.specs.Schedule.{schedule_of}
use Rattle.scripts.specs.Schedule.{fault_of as fault_of_schedule}

-- these are the operations of a text, which is a script
abbrev pub IsScriptOf : List ℕ → List Task → Type 0
IsScriptOf text tasks = (fault_of text ≡ None) × (tasks ≡ tasks_of text)

-- a script's reader gave no bytes
abbrev pub IsUnreadScript : ScriptFault → Type 0
IsUnreadScript script_is.NoMemory = ⊤
IsUnreadScript script_is.File = ⊤
IsUnreadScript script_is.TooLarge = ⊥
IsUnreadScript (script_is.BadLine line) = ⊥

-- these are the words of a text, each of which is one, for so many processes
abbrev pub IsScheduleOf : ℕ → List ℕ → List Word → Type 0
IsScheduleOf processes text words =
    (fault_of_schedule processes text ≡ None) × (words ≡ schedule_of processes text)

-- a schedule's reader gave no bytes
abbrev pub IsUnread : ScheduleFault → Type 0
IsUnread schedule_fault.NoMemory = ⊤
IsUnread schedule_fault.File = ⊤
IsUnread schedule_fault.TooLarge = ⊥
IsUnread (schedule_fault.BadWord _) = ⊥

-- a reader that has these bytes left, where they are known, gives a script
abbrev pub GivesScript : Option (List ℕ) → List Task → Type 0
GivesScript left tasks = (text : List ℕ) × IsScriptOf text tasks × IfSome left (λ all. all ≡ text)

-- it gave no bytes, or those of no script
abbrev pub GivesNoScript : Option (List ℕ) → ScriptFault → Type 0
GivesNoScript left fault =
    IsUnreadScript fault
    ⊎ ((text : List ℕ) × (fault_of text ≡ Some fault)
    × IfSome left (λ all. fault_of all ≡ Some fault))

-- it gives a schedule for so many processes
abbrev pub GivesSchedule : ℕ → Option (List ℕ) → List Word → Type 0
GivesSchedule processes left words =
    (text : List ℕ) × IsScheduleOf processes text words × IfSome left (λ all. all ≡ text)

-- it gave no bytes, or those of no schedule
abbrev pub GivesNoSchedule : ℕ → Option (List ℕ) → ScheduleFault → Type 0
GivesNoSchedule processes left fault =
    IsUnread fault
    ⊎ ((text : List ℕ) × (fault_of_schedule processes text ≡ Some fault)
    × IfSome left (λ all. fault_of_schedule processes all ≡ Some fault))
