-- One step of a process: what becomes of store and processes, by where the process stands and what
-- the step answers.
use Rattle.std.specs.Option.{option_map}
use Rattle.std.specs.Prelude.{◌≡◌, ◌⊎◌, ℕ, zero, suc, ◌∷◌, Bool, false, true, List, Option, Some, None}
use mathlib.Core.List.{IsPrefix}
use Rattle.blocks.specs.declared.disk.Disk.{Ghosts}
use Rattle.wal.specs.declared.types.DeviceFault.{DeviceFault}
use Rattle.model.specs.declared.types.operations.Op.{Op}
use Rattle.model.specs.declared.types.operations.Reply.{Reply}
use Rattle.model.specs.declared.types.operations.TaskProgress.{TaskProgress}
use Rattle.model.specs.declared.types.operations.Why.{Why}
use Rattle.wal.specs.declared.types.Committed.{Committed}
use Rattle.wal.specs.declared.types.Ended.{Ended}
use Rattle.wal.specs.Machine.{LogState, begin_cause, begun, ended, end_answer}
use Rattle.inodes.specs.Store.{StoreState, with_begun, with_log, with_look}
use Rattle.inodes.specs.Tasks.{task}
use Rattle.inodes.specs.Stages.{is_over}
use Rattle.inodes.specs.Steps.{Steps, Commits}
use Rattle.ports.specs.History.{Side, first_in}
use Rattle.history.specs.AtOnce.{at_once_reply}
use Rattle.history.specs.declared.types.Phase.{Phase}
use Rattle.history.specs.Journal.{entry_in}
use Rattle.history.specs.Processes.{World, process, with_more_room, taken, turned, decided, refused, over, committing, answered}
use Rattle.kernel.specs.declared.class.OpClass.{OpClass}
use Rattle.model.specs.declared.types.operations.Step.{Step}
use Rattle.kernel.specs.State.{class_of, room_for}

-- store and processes stay
abbrev pub Same : {D : Type 0} → StoreState D → World → StoreState D → World → Type 0
Same s w t z = (t ≡ s) × (z ≡ w)

-- The operation is the first of those that waited, and was taken: `side` is the process's side of
-- the intake then.
abbrev pub IsTaken : ℕ → List Op → Side → OpClass → Op → Type 0
IsTaken inode_count ahead side what op =
    (ahead ≡ op ∷ side.ahead) × (class_of inode_count op ≡ what)

-- an operation that changes files was taken, and its group is open
pub record TakesChange {D : Type 0} (what : Option OpClass) (s : StoreState D) (w : World) (p : ℕ)
    (ahead : List Op) (side : Side) (r : Step) (t : StoreState D) (z : World) : Type 0 where
  pub op : Op
  pub waits : what ≡ Some OpClass.Change
  pub taken : IsTaken s.table.inode_count ahead side OpClass.Change op
  pub room : side.has_room ≡ true
  pub free : begin_cause s.volume.log ≡ None
  pub answer : r ≡ Step.Moved
  pub store : t ≡ with_begun s p op
  pub world : z
      ≡ Rattle.history.specs.Processes.taken (with_more_room w) p (begun s.volume.log p).opened op None

-- an operation that looks at a file was taken; it is none of the log's, and has room for what it
-- reads and for its answer
pub record TakesLook {D : Type 0} (what : Option OpClass) (s : StoreState D) (w : World) (p : ℕ)
    (ahead : List Op) (side : Side) (r : Step) (t : StoreState D) (z : World) : Type 0 where
  pub op : Op
  pub count : Option ℕ
  pub waits : what ≡ Some (OpClass.Look count)
  pub taken : IsTaken s.table.inode_count ahead side (OpClass.Look count) op
  pub room : side.has_room ≡ true
  pub answer : r ≡ Step.Moved
  pub store : t ≡ with_look s p op (room_for count)
  pub world : z ≡ Rattle.history.specs.Processes.taken (with_more_room w) p 0 op (room_for count)

-- an operation that is refused by itself alone was taken, and answered at once
pub record TakesRefused {D : Type 0} (what : Option OpClass) (s : StoreState D) (w : World) (p : ℕ)
    (ahead : List Op) (side : Side) (r : Step) (t : StoreState D) (z : World) : Type 0 where
  pub op : Op
  pub waits : what ≡ Some OpClass.Refused
  pub taken : IsTaken s.table.inode_count ahead side OpClass.Refused op
  pub answer : r ≡ Step.Answered
  pub store : t ≡ s
  pub world : z ≡ refused (with_more_room w) p op (at_once_reply op)

-- there is room for an answer, but no memory
abbrev pub HasNoMemory : Bool → Step → Type 0
HasNoMemory room r = (r ≡ Step.NoMemory) × (room ≡ true)

-- there is no room for an answer
abbrev pub HasNoRoom : Bool → Step → Type 0
HasNoRoom room r = (r ≡ Step.Sleeping Why.AnswersFull) × (room ≡ false)

-- the log lets no operation begin
abbrev pub IsKeptOut : LogState → Bool → Step → Type 0
IsKeptOut l room r =
    (cause : Why) × (r ≡ Step.Sleeping cause) × (begin_cause l ≡ Some cause) × (room ≡ true)

-- why what waits first is not taken, as the answer says
abbrev pub IsNotTaken : Option OpClass → LogState → Bool → Step → Type 0
IsNotTaken None l room r = r ≡ Step.Idle
IsNotTaken (Some OpClass.Refused) l room r = HasNoRoom room r ⊎ HasNoMemory room r
IsNotTaken (Some (OpClass.Look count)) l room r = HasNoRoom room r ⊎ HasNoMemory room r
IsNotTaken (Some OpClass.Change) l room r =
    HasNoRoom room r ⊎ (IsKeptOut l room r ⊎ (HasNoMemory room r × (begin_cause l ≡ None)))

-- nothing was taken, and nothing changed
pub record TakesNone {D : Type 0} (what : Option OpClass) (s : StoreState D) (w : World)
    (ahead : List Op) (side : Side) (r : Step) (t : StoreState D) (z : World) : Type 0 where
  pub same : Same s w t z
  pub ahead_stays : side.ahead ≡ ahead
  pub answer : IsNotTaken what s.volume.log side.has_room r

-- by what waits first
abbrev pub BeginsWith : {D : Type 0} → Option OpClass → StoreState D → World → ℕ → List Op → Side
    → Step → StoreState D → World → Type 0
BeginsWith what s w p ahead side r t z =
    TakesChange what s w p ahead side r t z
    ⊎ (TakesLook what s w p ahead side r t z
    ⊎ (TakesRefused what s w p ahead side r t z ⊎ TakesNone what s w ahead side r t z))

-- no operation begins any more: the kernel was shut, or its herald told of a shutdown
pub record HearsShutdown {D : Type 0} (s : StoreState D) (w : World) (told : Bool) (r : Step)
    (t : StoreState D) (z : World) : Type 0 where
  pub heard : (w.is_shut ≡ true) ⊎ (told ≡ true)
  pub answer : r ≡ Step.ShutDown
  pub store : t ≡ s
  pub world : z ≡ record w { is_shut = true }

-- nobody told of a shutdown; what waits was looked up, and the first of it decides
pub record HearsNone {D : Type 0} (s : StoreState D) (w : World) (p : ℕ) (before : List Op)
    (side : Side) (told : Bool) (r : Step) (t : StoreState D) (z : World) : Type 0 where
  pub unshut : w.is_shut ≡ false
  pub untold : told ≡ false
  pub ahead : List Op
  pub prefix : IsPrefix before ahead
  pub begins : BeginsWith
      (option_map (class_of s.table.inode_count) (first_in ahead)) s w p ahead side r t z

-- The beginning of what waits for a process, where these operations were ahead before the step, the
-- intake's side is `side` after it, and `told` says whether the herald told of a shutdown.
abbrev pub BeginsNext : {D : Type 0} → StoreState D → World → ℕ → List Op → Side → Bool → Step
    → StoreState D → World → Type 0
BeginsNext s w p before side told r t z =
    HearsShutdown s w told r t z ⊎ HearsNone s w p before side told r t z

-- what a step answers, by what the task's step came to
abbrev pub step_of : TaskProgress → Step
step_of TaskProgress.Moved = Step.Moved
step_of (TaskProgress.Turned reply) = Step.Moved
step_of (TaskProgress.Decided reply) = Step.Moved
step_of TaskProgress.Over = Step.Moved
step_of (TaskProgress.Sleeping cause) = Step.Sleeping cause
step_of (TaskProgress.Fault fault) = Step.Halted

-- the turn of an operation brings its entry into the journal; nothing else of the processes changes
abbrev pub world_after : TaskProgress → Bool → World → ℕ → World
world_after TaskProgress.Moved over w p = w
world_after (TaskProgress.Turned reply) over w p = turned w p reply over
world_after (TaskProgress.Decided reply) over w p = w
world_after TaskProgress.Over over w p = w
world_after (TaskProgress.Sleeping cause) over w p = w
world_after (TaskProgress.Fault fault) over w p = w

-- a step of the task of a process whose operation has not had its turn
pub record Works {D N : Type 0} (disk : Ghosts D N) (s : StoreState D) (w : World) (p : ℕ) (op : Op)
    (r : Step) (t : StoreState D) (z : World) : Type 0 where
  pub progress : TaskProgress
  pub steps : Steps disk s p op progress t
  pub answer : r ≡ step_of progress
  pub world : z ≡ world_after progress (is_over (task t.tasks p).stage) w p

-- with the last step of its task an operation of no group is answered; one of a group goes on
abbrev pub step_of_last : ℕ → Step
step_of_last zero = Step.Answered
step_of_last (suc group) = Step.Moved

-- and it ends in the log next
abbrev pub world_of_last : ℕ → World → ℕ → World
world_of_last zero w p = answered w p
world_of_last (suc group) w p = over w p

-- with a reply that is decided behind the turn an operation of no group is answered; one of a group
-- goes on
abbrev pub step_of_told : ℕ → Step
step_of_told zero = Step.Answered
step_of_told (suc group) = Step.Moved

-- its entry is told the reply; the answer of one of a group is given at its end
abbrev pub world_of_told : ℕ → World → ℕ → Reply → World
world_of_told zero w p reply = answered (decided w p reply) p
world_of_told (suc group) w p reply = decided w p reply

-- what a step behind the turn of an operation of this group answers
abbrev pub step_behind : ℕ → TaskProgress → Step
step_behind group TaskProgress.Moved = Step.Moved
step_behind group (TaskProgress.Turned reply) = Step.Moved
step_behind group (TaskProgress.Decided reply) = step_of_told group
step_behind group TaskProgress.Over = step_of_last group
step_behind group (TaskProgress.Sleeping cause) = Step.Sleeping cause
step_behind group (TaskProgress.Fault fault) = Step.Halted

-- and what it makes of the processes
abbrev pub world_behind : ℕ → TaskProgress → World → ℕ → World
world_behind group TaskProgress.Moved w p = w
world_behind group (TaskProgress.Turned reply) w p = w
world_behind group (TaskProgress.Decided reply) w p = world_of_told group w p reply
world_behind group TaskProgress.Over w p = world_of_last group w p
world_behind group (TaskProgress.Sleeping cause) w p = w
world_behind group (TaskProgress.Fault fault) w p = w

-- a step of the task of a process whose operation, which has this index in the journal, had its
-- turn
pub record Finishes {D N : Type 0} (disk : Ghosts D N) (s : StoreState D) (w : World)
    (p group k : ℕ) (r : Step) (t : StoreState D) (z : World) : Type 0 where
  pub progress : TaskProgress
  pub steps : Steps disk s p (entry_in w.journal.list k).op progress t
  pub answer : r ≡ step_behind group progress
  pub world : z ≡ world_behind group progress w p

-- what a step answers, by what an end in the log came to
abbrev pub step_of_end : Ended → Step
step_of_end Ended.Commit = Step.Moved
step_of_end Ended.Left = Step.Answered

-- the process commits its group, or it is answered
abbrev pub world_ended : Ended → World → ℕ → World
world_ended Ended.Commit w p = committing w p
world_ended Ended.Left w p = answered w p

-- an operation ends: with its last one a group that has homes is closed
pub record Ends {D : Type 0} (s : StoreState D) (w : World) (p : ℕ) (r : Step) (t : StoreState D)
    (z : World) : Type 0 where
  pub answer : r ≡ step_of_end (end_answer s.volume.log)
  pub store : t ≡ with_log s (ended s.volume.log p)
  pub world : z ≡ world_ended (end_answer s.volume.log) w p

-- what a step answers, by what a commit's write came to
abbrev pub step_of_write : Committed → Step
step_of_write Committed.More = Step.Moved
step_of_write (Committed.Durable group) = Step.Moved
step_of_write Committed.Done = Step.Answered
step_of_write (Committed.Fault fault) = Step.Halted

-- with the last write the operation is answered
abbrev pub world_written : Committed → World → ℕ → World
world_written Committed.More w p = w
world_written (Committed.Durable group) w p = w
world_written Committed.Done w p = answered w p
world_written (Committed.Fault fault) w p = w

-- a write of a commit
pub record Writes {D N : Type 0} (disk : Ghosts D N) (s : StoreState D) (w : World) (p : ℕ)
    (r : Step) (t : StoreState D) (z : World) : Type 0 where
  pub result : Committed
  pub commits : Commits disk s result t
  pub answer : r ≡ step_of_write result
  pub world : z ≡ world_written result w p

-- by where the process stands
abbrev pub NextAt : {D N : Type 0} → Ghosts D N → Phase → StoreState D → World → ℕ → List Op → Side
    → Bool → Step → StoreState D → World → Type 0
NextAt disk Phase.Idle s w p before side told r t z = BeginsNext s w p before side told r t z
NextAt disk (Phase.BeforeTurn group op) s w p before side told r t z = Works disk s w p op r t z
NextAt disk (Phase.AfterTurn group k) s w p before side told r t z = Finishes disk s w p group k r t z
NextAt disk (Phase.Ending group k) s w p before side told r t z = Ends s w p r t z
NextAt disk (Phase.Committing group k) s w p before side told r t z = Writes disk s w p r t z

-- after a fault nothing is done any more
abbrev pub NextIf : {D N : Type 0} → Ghosts D N → Option DeviceFault → StoreState D → World → ℕ
    → List Op → Side → Bool → Step → StoreState D → World → Type 0
NextIf disk None s w p before side told r t z =
    NextAt disk (process w p).at s w p before side told r t z
NextIf disk (Some fault) s w p before side told r t z = (r ≡ Step.Halted) × Same s w t z

-- A kernel before a step of a process: its store, its processes, and the operations that were known
-- to wait for this one.
pub record StepFrom (D : Type 0) : Type 0 where
  pub store : StoreState D
  pub world : World
  pub ahead : List Op

-- and behind it: what the step answered, the process's side of the intake, whether the herald told of
-- a shutdown
pub record StepTo (D : Type 0) : Type 0 where
  pub answer : Step
  pub side : Side
  pub told : Bool
  pub store : StoreState D
  pub world : World

-- WHAT A STEP OF PROCESS p MAKES of store and processes
abbrev pub Next : {D N : Type 0} → Ghosts D N → ℕ → StepFrom D → StepTo D → Type 0
Next disk p from to =
    NextIf disk from.store.volume.fault from.store from.world p from.ahead to.side to.told to.answer
    to.store to.world
