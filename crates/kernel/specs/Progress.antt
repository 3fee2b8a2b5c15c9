-- How a kernel goes on with each step of a process: its counts, the steps that are left, and that
-- nobody waits for ever.
use Rattle.std.specs.Prelude.{◌≡◌, ℕ, ◌+◌, ◌==◌, ◌&&◌, if◌then◌else◌, Bool, true, false, length, IfNone}
use Rattle.blocks.specs.Disk.{Image}
use Rattle.blocks.specs.declared.disk.Disk.{Ghosts}
use Rattle.model.specs.Layout.{inode_count_of}
use Rattle.wal.specs.Joint.{Joint}
use Rattle.wal.specs.Machine.{LogState}
use Rattle.history.specs.declared.types.Phase.{Phase}
use Rattle.history.specs.Bound.{is_durable}
use Rattle.history.specs.Grows.{Grows}
use Rattle.history.specs.Processes.{World, process}
use Rattle.model.specs.declared.types.operations.Step.{Step}
use Rattle.kernel.specs.Awake.{IsAwake}
use Rattle.kernel.specs.Bound.{TakesOne, GivesNone}
use Rattle.kernel.specs.State.{State}

-- The step of a process that stands so commits its group: it writes the header, or syncs it over a
-- disk that holds writes back, or it is the last end of a group without homes.
abbrev pub commits_at : Bool → Phase → LogState → Bool
commits_at holds Phase.Idle l = false
commits_at holds (Phase.BeforeTurn group op) l = false
commits_at holds (Phase.AfterTurn group k) l = false
commits_at holds (Phase.Ending group k) l = (l.outstanding == 1) && (length l.homes == 0)
commits_at holds (Phase.Committing group k) l = is_durable holds l.commit

-- a step that is made; one that halts is not
abbrev pub commits : Bool → Step → Phase → LogState → Bool
commits holds Step.Moved a l = commits_at holds a l
commits holds Step.Answered a l = commits_at holds a l
commits holds (Step.Sleeping cause) a l = false
commits holds Step.Idle a l = false
commits holds Step.NoMemory a l = false
commits holds Step.ShutDown a l = false
commits holds Step.Halted a l = false

-- one group more is committed by such a step, and none by any other
abbrev pub CountsCommitted : Bool → Step → Phase → LogState → LogState → Type 0
CountsCommitted holds r a l m = m.committed ≡ l.committed + (if commits holds r a l then 1 else 0)

-- a shutdown is kept, and once there is one, no operation is taken
pub record KeepsShutdown (w z : World) : Type 0 where
  pub stays : w.is_shut ≡ true → z.is_shut ≡ true
  pub none : z.is_shut ≡ true → (p : ℕ) → (process z p).begun ≡ (process w p).begun

-- there is a shutdown still, and no operation was taken
pub record StaysShut (w z : World) : Type 0 where
  pub shut : z.is_shut ≡ true
  pub none : (p : ℕ) → (process z p).begun ≡ (process w p).begun

-- unless the disk has a fault, disk, buffers and log agree on what is written, pinned and logged
abbrev pub IsJoint : {D I H : Type 0} → (D → Image) → State D I H → Type 0
IsJoint image k = IfNone k.store.volume.fault
    (Joint (image k.store.volume.device) k.store.volume.buffers k.store.volume.log)

-- how a kernel goes on with a step of process p that answers r
pub record MakesProgress {D N I H : Type 0} (disk : Ghosts D N) (p : ℕ) (r : Step)
    (k m : State D I H) : Type 0 where
  pub many : length m.world.processes ≡ length k.world.processes
  pub committed : CountsCommitted (disk.holding (disk.name k.store.volume.device)) r
      (process k.world p).at k.store.volume.log m.store.volume.log
  pub shut : KeepsShutdown k.world m.world
  -- an operation has fewer steps than the bound
  pub bound : r ≡ Step.Moved → TakesOne disk.image k p m
  pub others : GivesNone disk.image k p m
  -- where an operation is under way then, one goes on
  pub awake : IfNone m.store.volume.fault (IsAwake disk.image m)
  -- disk, buffers and log agree then
  pub joint : IsJoint disk.image m
  pub grows : Grows
      (inode_count_of (disk.image k.opening)) k.store.volume k.world.journal.list m.store.volume
      m.world.journal.list
