-- What each event makes of the processes.
use Rattle.std.specs.Prelude.{◌<◌, ℕ, ◌+◌, Bool, true, false, List, [], length, replicate, slice_index_or, slice_set, nat_lt, if◌then◌else◌, Option, Some, None}
use Rattle.model.specs.Gathered.{GatheredBytes}
use Rattle.model.specs.declared.types.operations.Answer.{Answer}
use Rattle.model.specs.declared.types.operations.Entry.{Entry}
use Rattle.model.specs.declared.types.operations.Op.{Op}
use Rattle.model.specs.declared.types.operations.Reply.{Reply}
use Rattle.history.specs.declared.types.Phase.{Phase}
use Rattle.history.specs.declared.types.Process.{Process}
pub use Rattle.history.specs.World.{World}
use Rattle.history.specs.Journal.{reserved, journal_with, journal_told, entry_in, entry_of, answer_of}

abbrev pub idle : Process
idle = record { begun = 0; at = Phase.Idle; room = None }

-- a process; one past the last is idle
abbrev pub process : World → ℕ → Process
process w p = slice_index_or w.processes p idle

abbrev pub fresh_world : ℕ → World
fresh_world count = record {
  processes = replicate count idle;
  journal = record { list = []; room = 0 };
  is_shut = false;
}

-- a process is another
abbrev pub with_process : World → ℕ → Process → World
with_process w p t = record w { processes = slice_set w.processes p t }

-- a process stands elsewhere
abbrev pub at_phase : World → ℕ → Phase → World
at_phase w p phase = with_process w p (record (process w p) { at = phase })

-- there is room in the journal for one operation more
abbrev pub with_more_room : World → World
with_more_room w = record w { journal = reserved w.journal }

-- an operation was taken for a process, in that group, with that room for its answer's bytes
abbrev pub taken : World → ℕ → ℕ → Op → Option GatheredBytes → World
taken w p group op room =
    with_process w p (record {
      begun = (process w p).begun + 1;
      at = Phase.BeforeTurn group op;
      room = room;
    })

-- the entry of an operation that is answered at once
abbrev pub refusal : World → ℕ → Op → Reply → Entry
refusal w p op reply = entry_of p ((process w p).begun + 1) op 0 (Some reply)

-- an operation of a process was answered at once
abbrev pub refused : World → ℕ → Op → Reply → World
refused w p op reply =
    record (with_process w p (record (process w p) { begun = (process w p).begun + 1 }))
    { journal = journal_with w.journal (refusal w p op reply) }

abbrev pub refusal_answer : World → ℕ → Reply → Answer
refusal_answer w p reply = record { seq = (process w p).begun + 1; reply = reply; group = 0 }

-- where an operation stands behind its turn: its task goes on, or is over
abbrev pub phase_behind : Bool → ℕ → ℕ → Phase
phase_behind true group k = Phase.Ending group k
phase_behind false group k = Phase.AfterTurn group k

abbrev pub turned_from : Phase → World → ℕ → Option Reply → Bool → World
turned_from Phase.Idle w p reply over = w
turned_from (Phase.BeforeTurn group op) w p reply over =
    record (at_phase w p (phase_behind over group (length w.journal.list)))
    { journal = journal_with w.journal (entry_of p (process w p).begun op group reply) }
turned_from (Phase.AfterTurn group k) w p reply over = w
turned_from (Phase.Ending group k) w p reply over = w
turned_from (Phase.Committing group k) w p reply over = w

-- the turn: the entry is in the journal
abbrev pub turned : World → ℕ → Option Reply → Bool → World
turned w p reply over = turned_from (process w p).at w p reply over

-- where the entry of an operation stands that had its turn
abbrev pub entry_index : Phase → Option ℕ
entry_index Phase.Idle = None
entry_index (Phase.BeforeTurn group op) = None
entry_index (Phase.AfterTurn group k) = Some k
entry_index (Phase.Ending group k) = Some k
entry_index (Phase.Committing group k) = Some k

-- an entry stands there
abbrev pub HasEntryIndex : World → Option ℕ → Type 0
HasEntryIndex w None = ⊥
HasEntryIndex w (Some k) = k < length w.journal.list

abbrev pub operation_at : World → Option ℕ → Option Op
operation_at w None = None
operation_at w (Some k) = Some (entry_in w.journal.list k).op

abbrev pub told_at : Option ℕ → World → Reply → World
told_at None w reply = w
told_at (Some k) w reply = record w { journal = journal_told w.journal k reply }

-- the reply of an operation that had its turn is decided
abbrev pub decided : World → ℕ → Reply → World
decided w p reply = told_at (entry_index (process w p).at) w reply

abbrev pub over_at : Phase → Phase
over_at Phase.Idle = Phase.Idle
over_at (Phase.BeforeTurn group op) = Phase.BeforeTurn group op
over_at (Phase.AfterTurn group k) = Phase.Ending group k
over_at (Phase.Ending group k) = Phase.Ending group k
over_at (Phase.Committing group k) = Phase.Committing group k

-- the task of an operation is over behind its turn, and it ends in the log next
abbrev pub over : World → ℕ → World
over w p = at_phase w p (over_at (process w p).at)

abbrev pub is_before : Phase → Bool
is_before Phase.Idle = false
is_before (Phase.BeforeTurn group op) = true
is_before (Phase.AfterTurn group k) = false
is_before (Phase.Ending group k) = false
is_before (Phase.Committing group k) = false

-- it had its turn, and goes on
abbrev pub is_behind : Phase → Bool
is_behind Phase.Idle = false
is_behind (Phase.BeforeTurn group op) = false
is_behind (Phase.AfterTurn group k) = true
is_behind (Phase.Ending group k) = false
is_behind (Phase.Committing group k) = false

-- its operation ends next
abbrev pub is_ending : Phase → Bool
is_ending Phase.Idle = false
is_ending (Phase.BeforeTurn group op) = false
is_ending (Phase.AfterTurn group k) = false
is_ending (Phase.Ending group k) = true
is_ending (Phase.Committing group k) = false

abbrev pub committing_at : Phase → Phase
committing_at Phase.Idle = Phase.Idle
committing_at (Phase.BeforeTurn group op) = Phase.BeforeTurn group op
committing_at (Phase.AfterTurn group k) = Phase.AfterTurn group k
committing_at (Phase.Ending group k) = Phase.Committing group k
committing_at (Phase.Committing group k) = Phase.Committing group k

-- the operation's end was the last of its group
abbrev pub committing : World → ℕ → World
committing w p = at_phase w p (committing_at (process w p).at)

-- the answer of the entry at an index, if there is one
abbrev pub answer_in : List Entry → ℕ → Option Answer
answer_in es k = if nat_lt k (length es) then answer_of (entry_in es k) else None

-- the answer of an operation that had its turn
abbrev pub last_answer : World → Phase → Option Answer
last_answer w Phase.Idle = None
last_answer w (Phase.BeforeTurn group op) = None
last_answer w (Phase.AfterTurn group k) = answer_in w.journal.list k
last_answer w (Phase.Ending group k) = answer_in w.journal.list k
last_answer w (Phase.Committing group k) = answer_in w.journal.list k

-- it was answered
abbrev pub answered : World → ℕ → World
answered w p = with_process w p (record (process w p) { at = Phase.Idle; room = None })
