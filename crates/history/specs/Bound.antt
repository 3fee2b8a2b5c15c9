-- How many steps an operation has left at most.
use Rattle.std.specs.Prelude.{◌≡◌, ◌≢◌, ◌<◌, ◌≤◌, ℕ, ◌+◌, ◌-◌, Bool, true, false, not, length}
use Rattle.model.specs.declared.types.operations.TaskProgress.{TaskProgress}
use Rattle.wal.specs.declared.types.Commit.{Commit}
use Rattle.wal.specs.declared.types.Part.{Part}
use Rattle.wal.specs.Machine.{LogState}
use Rattle.history.specs.declared.types.Phase.{Phase}

-- the sync of a header commits its group
abbrev pub is_header : Part → Bool
is_header Part.Log = false
is_header Part.Header = true
is_header Part.Homes = false
is_header Part.Clear = false

-- The next step of a commit commits its group: the write of the header, or the sync behind it over
-- a disk that holds writes back.
abbrev pub is_durable : Bool → Commit → Bool
is_durable holds Commit.Quiet = false
is_durable holds (Commit.Logging k) = false
is_durable holds Commit.Heading = not holds
is_durable holds (Commit.Homing k) = false
is_durable holds Commit.Clearing = false
is_durable holds (Commit.Syncing part) = is_header part

-- the steps that a commit of n homes has left while a part waits for its sync
abbrev pub synced_left : Part → ℕ → ℕ
synced_left Part.Log n = 1 + 2 + (n + 1) + 2
synced_left Part.Header n = 1 + (n + 1) + 2
synced_left Part.Homes n = 1 + 2
synced_left Part.Clear n = 1

-- the steps that a commit of n homes has left at most: its writes, and a sync behind each part
abbrev pub writes_left : Commit → ℕ → ℕ
writes_left Commit.Quiet n = 0
writes_left (Commit.Logging k) n = (n - k) + 1 + 2 + (n + 1) + 2
writes_left Commit.Heading n = 2 + (n + 1) + 2
writes_left (Commit.Homing k) n = (n - k) + 1 + 2
writes_left Commit.Clearing n = 2
writes_left (Commit.Syncing part) n = synced_left part n

-- An operation's steps: those that its task has left, one for its end in the log, and at most 66
-- for its group's commit.
abbrev pub all_steps_left : Phase → ℕ → LogState → ℕ
all_steps_left Phase.Idle left l = 0
all_steps_left (Phase.BeforeTurn group op) left l = left + 67
all_steps_left (Phase.AfterTurn group k) left l = left + 67
all_steps_left (Phase.Ending group k) left l = 67
all_steps_left (Phase.Committing group k) left l = writes_left l.commit (length l.homes)

-- an operation is under way
abbrev pub is_busy_at : Phase → Bool
is_busy_at Phase.Idle = false
is_busy_at (Phase.BeforeTurn group op) = true
is_busy_at (Phase.AfterTurn group k) = true
is_busy_at (Phase.Ending group k) = true
is_busy_at (Phase.Committing group k) = true

-- what a step of a store's task makes of the steps that the task has left
abbrev pub Lowers : TaskProgress → ℕ → ℕ → Type 0
Lowers TaskProgress.Moved old left = left < old
Lowers (TaskProgress.Turned reply) old left = left < old
Lowers (TaskProgress.Decided reply) old left = left < old
Lowers TaskProgress.Over old left = 1 ≤ old
Lowers (TaskProgress.Sleeping why) old left = Unit {0}
Lowers (TaskProgress.Fault fault) old left = Unit {0}

-- A step of process p took one of the steps that its operation had left, and gave no other process
-- more of them. A store's tasks had as many left as `old` says, and have as many as `left` says.
pub record TakesStep (p : ℕ) (ats : ℕ → Phase) (old : ℕ → ℕ) (l : LogState)
    (new : ℕ → Phase) (left : ℕ → ℕ) (m : LogState) : Type 0 where
  pub falls : is_busy_at (ats p) ≡ true
      → all_steps_left (new p) (left p) m < all_steps_left (ats p) (old p) l
  pub others : (q : ℕ) → q ≢ p
      → all_steps_left (new q) (left q) m ≤ all_steps_left (ats q) (old q) l
