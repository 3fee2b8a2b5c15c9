-- Why the next step of a process has to wait, and that some process need not.
use Rattle.std.specs.Prelude.{◌≡◌, ◌<◌, ℕ, true, Option, None}
use Rattle.blocks.specs.Disk.{Image}
use Rattle.model.specs.declared.types.operations.Why.{Why}
use Rattle.wal.specs.Machine.{begin_cause}
use Rattle.inodes.specs.Waiting.{sleep_cause}
use Rattle.history.specs.declared.types.Phase.{Phase}
use Rattle.history.specs.Bound.{is_busy_at}
use Rattle.history.specs.Processes.{World}
use Rattle.kernel.specs.Bound.{left_of}
use Rattle.kernel.specs.State.{State, ats_of}

-- each process has no operation under way
abbrev pub AreIdle : World → Type 0
AreIdle w = (p : ℕ) → ats_of w p ≡ Phase.Idle

-- an operation of process p is under way
abbrev pub IsBusy : {D I H : Type 0} → State D I H → ℕ → Type 0
IsBusy k p = is_busy_at (ats_of k.world p) ≡ true

-- Why an operation under way has to wait, by why its task has to; none where it goes on. An end and
-- a commit wait for nobody.
abbrev pub cause_by : Phase → Option Why → Option Why
cause_by Phase.Idle cause = None
cause_by (Phase.BeforeTurn group op) cause = cause
cause_by (Phase.AfterTurn group index) cause = cause
cause_by (Phase.Ending group index) cause = None
cause_by (Phase.Committing group index) cause = None

abbrev pub cause_of : {D I H : Type 0} → State D I H → ℕ → Option Why
cause_of k p = cause_by (ats_of k.world p) (sleep_cause k.store p)

-- an operation is under way whose next step need not wait
pub record OneGoesOn {D I H : Type 0} (k : State D I H) : Type 0 where
  pub pid : ℕ
  pub busy : IsBusy k pid
  pub goes : cause_of k pid ≡ None

-- NOBODY WAITS FOR EVER: where an operation is under way, one is that goes on; and where none is,
-- the log lets each begin. Who is under way has steps left.
pub record IsAwake {D I H : Type 0} (image : D → Image) (k : State D I H) : Type 0 where
  pub under_way : (p : ℕ) → IsBusy k p → OneGoesOn k
  pub begins : AreIdle k.world → begin_cause k.store.volume.log ≡ None
  pub left : (p : ℕ) → IsBusy k p → 0 < left_of image k p
