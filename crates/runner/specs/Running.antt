-- What a run by threads comes to.
use Rattle.std.specs.Prelude.{◌≡◌, ⊤, ℕ, Bool, false, true, List, Option, Some, None, IfNone, length}
use Rattle.blocks.specs.Disk.{Image}
use Rattle.blocks.specs.declared.disk.Disk.{Ghosts}
use Rattle.wal.specs.declared.types.DeviceFault.{DeviceFault}
use Rattle.model.specs.Layout.{inode_count_of}
use Rattle.model.specs.Log.{recovered}
use Rattle.model.specs.Verdict.{verdict}
use Rattle.model.specs.declared.types.operations.Op.{Op}
use Rattle.wal.specs.Recovery.{LeavesFromSync}
use Rattle.wal.specs.Volume.{faults_after}
use Rattle.rings.specs.declared.herald.BoardHerald.{BoardHerald}
use Rattle.rings.specs.declared.intake.RingIntake.{RingIntake}
use Rattle.history.specs.Keeps.{KeepsBetween, KeepsNow}
use Rattle.history.specs.Most.{most_of}
use Rattle.history.specs.Own.{KeepsOwn}
use Rattle.history.specs.Follows.{IsJournal}
use Rattle.kernel.specs.Invariant.{CanReplay}
use Rattle.kernel.specs.Known.{IsCurrent}
use Rattle.kernel.specs.Lasting.{AreUnderWay}
use Rattle.kernel.specs.Opening.{LeavesRecovered}
use Rattle.kernel.specs.State.{State}
use Rattle.scripts.specs.declared.script.Task.{Task}
use Rattle.clients.specs.Backlogs.{ops_of}
use Rattle.kernel.specs.declared.types.OpenFault.{OpenFault}
use Rattle.opening.specs.Openings.{IsNotOpened}
use Rattle.runner.specs.declared.refusals.RunRefusal.{RunRefusal}
use Rattle.runner.specs.declared.refusals.RunRefusal.TheVariants.{Unopened, Thread, Disk, Unanswered, NoMemory, Output}
use Rattle.runner.specs.Reports.{IsReported}

-- a kernel over rings and a board
abbrev pub Ringed : Type 0 → Type 0
Ringed D = State D RingIntake BoardHerald

-- A kernel of so many processes was opened over the disk d, whose image was sound, and steps made m
-- of it. What a stop leaves on its disk e keeps all groups that it committed; at any moment since
-- the recovery's first sync one leaves an image that keeps some of them, in order, and at any since
-- the recovery began where nothing was held on d.
pub record IsServed {D N H : Type 0} (disk : Ghosts D N) (d e : D) (processes : ℕ)
    (m : State D RingIntake H) : Type 0 where
  pub sound : verdict (disk.image d) ≡ None
  pub opening : disk.image m.opening ≡ recovered (disk.image d)
  pub many : length m.world.processes ≡ processes
  pub now : e ≡ m.store.volume.device
  pub keeps : (x : Image) → disk.leaves e (disk.moment e) x
      → KeepsNow m.store.volume.log.committed (most_of m.store.volume) (disk.image m.opening) m.world.journal.list x
  pub current : IfNone m.store.volume.fault (IsCurrent disk.image m)
  -- its answers are right: the answered entries can be replayed, and each other one is under way
  pub replays : CanReplay (disk.image m.opening) m.world
  pub unanswered : AreUnderWay m.world
  pub journal : IsJournal
      (inode_count_of (disk.image m.opening)) m.store.volume.log.opened m.world.journal.list
  -- the disk counted no fault, or the one after which nothing is done
  pub faults : disk.fault_count e ≡ faults_after m.store.volume.fault (disk.fault_count d)
  pub leaves : LeavesFromSync disk d e (KeepsBetween 0 (most_of m.store.volume)
      (disk.image m.opening) m.world.journal.list)

-- what a kernel's processes came to was printed, and this fault is told of its disk; each operation
-- has its answer, or not
pub record Ends {D I H : Type 0} (inode_count : ℕ) (k : State D I H) (ops : ℕ → List Op)
    (processes : ℕ) (fault : Option DeviceFault) (all : Bool) (old new : Option (List ℕ))
    : Type 0 where
  pub tells : k.store.volume.fault ≡ fault
  pub reported : IsReported inode_count k ops processes all old new

-- the same where it was refused: the disk had failed, an operation had no answer, with memory
-- refused for long or not, or the output failed
abbrev pub IsEndedBy : {D I H : Type 0} → ℕ → State D I H → (ℕ → List Op) → ℕ → Bool
    → Option (List ℕ) → Option (List ℕ) → RunRefusal → Type 0
IsEndedBy inode_count k ops processes starved old new (Disk fault) =
    (all : Bool) × Ends inode_count k ops processes (Some fault) all old new
IsEndedBy inode_count k ops processes starved old new Unanswered =
    Ends inode_count k ops processes None false old new × (starved ≡ false)
IsEndedBy inode_count k ops processes starved old new NoMemory =
    Ends inode_count k ops processes None false old new × (starved ≡ true)
IsEndedBy inode_count k ops processes starved old new Output = ⊤
IsEndedBy inode_count k ops processes starved old new r = ⊥

-- up to any group, what is kept of each process is a beginning of its changing operations
abbrev pub KeepsTasks : {D N H : Type 0} → Ghosts D N → List Task → ℕ → State D RingIntake H
    → Type 0
KeepsTasks disk tasks processes m = KeepsOwn (inode_count_of (disk.image m.opening))
    m.world.journal.list processes (λ p. ops_of p tasks)

-- The operations of a script were handed in over the disk d, now e, and what its processes came to
-- was printed; this fault is told of the disk. Each of the operations has its answer, or not.
pub record Runs {D N : Type 0} (disk : Ghosts D N) (d e : D) (tasks : List Task) (processes : ℕ)
    (fault : Option DeviceFault) (all : Bool) (old new : Option (List ℕ)) : Type 0 where
  pub last : Ringed D
  pub served : IsServed disk d e processes last
  pub own : KeepsTasks disk tasks processes last
  pub ends : Ends (inode_count_of (disk.image last.opening)) last (λ p. ops_of p tasks) processes
      fault all old new

-- the same where not all was printed
pub record RunsPart {D N : Type 0} (disk : Ghosts D N) (d e : D) (tasks : List Task)
    (processes : ℕ) : Type 0 where
  pub last : Ringed D
  pub served : IsServed disk d e processes last
  pub own : KeepsTasks disk tasks processes last

-- a kernel was opened over the disk d, now e, and no thread could be started for it
pub record IsUndriven {D N : Type 0} (disk : Ghosts D N) (d e : D) (processes : ℕ) : Type 0 where
  pub last : Ringed D
  pub served : IsServed disk d e processes last

-- no kernel was opened over the disk d, now e, for this reason; whatever a stop left is recovered
-- as d is, as a recovery promises it
pub record HasNotBegun {D N : Type 0} (disk : Ghosts D N) (d e : D) (processes : ℕ)
    (fault : OpenFault) : Type 0 where
  pub cause : IsNotOpened disk processes d e fault
  pub name : disk.name e ≡ disk.name d
  pub leaves : LeavesRecovered disk d e

-- why a script's operations were not run over the disk d, now e, and what it came to; `none` says
-- that nothing was printed
abbrev pub IsNotRun : {D N : Type 0} → Ghosts D N → D → D → List Task → ℕ → Option (List ℕ)
    → Option (List ℕ) → Type 0 → RunRefusal → Type 0
IsNotRun disk d e tasks processes old new none (Unopened fault) =
    HasNotBegun disk d e processes fault × none
IsNotRun disk d e tasks processes old new none Thread = IsUndriven disk d e processes × none
IsNotRun disk d e tasks processes old new none (Disk fault) =
    (all : Bool) × Runs disk d e tasks processes (Some fault) all old new
IsNotRun disk d e tasks processes old new none Unanswered =
    Runs disk d e tasks processes None false old new
IsNotRun disk d e tasks processes old new none NoMemory =
    Runs disk d e tasks processes None false old new
IsNotRun disk d e tasks processes old new none Output = RunsPart disk d e tasks processes
