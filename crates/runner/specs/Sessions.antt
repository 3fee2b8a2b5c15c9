-- What a run printed belongs to a session of the kernel that was opened.
use Rattle.std.specs.Prelude.{◌≡◌, ⊤, ℕ, Bool, false, List, Option, Some, None}
use Rattle.blocks.specs.declared.disk.Disk.{Ghosts}
use Rattle.wal.specs.declared.types.DeviceFault.{DeviceFault}
use Rattle.model.specs.Layout.{inode_count_of}
use Rattle.rings.specs.contracts.herald.BoardHeraldHerald.TheImpl.{ghosts as board_ghosts}
use Rattle.rings.specs.contracts.intake.RingIntakeIntake.TheImpl.{ghosts as ring_ghosts}
use Rattle.rings.specs.declared.herald.BoardHerald.{BoardHerald}
use Rattle.rings.specs.declared.intake.RingIntake.{RingIntake}
use Rattle.scripts.specs.declared.script.Task.{Task}
use Rattle.clients.specs.Backlogs.{ops_of}
use Rattle.kernel.specs.Known.{Known}
use Rattle.kernel.specs.Opening.{IsOpened}
use Rattle.sysring.specs.Sessions.{HasTurnsOf}
use Rattle.runner.specs.Running.{Ends, Ringed}
use Rattle.runner.specs.declared.refusals.RunRefusal.{RunRefusal}
use Rattle.runner.specs.declared.refusals.RunRefusal.TheVariants.{Unopened, Thread, Disk, Unanswered, NoMemory, Output}

-- A kernel of so many processes was opened over the disk d. Turns, one after the other, with anything
-- handed in and fetched between them, made `last` of it, and left the disk e.
pub record ComesBySession {D N : Type 0} (disk : Ghosts D N) (d e : D) (processes : ℕ)
    (last : Ringed D) : Type 0 where
  pub intake : RingIntake
  pub herald : BoardHerald
  pub first : Ringed D
  pub opened : IsOpened disk d intake herald processes first
  pub known : Known disk ring_ghosts board_ghosts first
  pub turns : HasTurnsOf disk board_ghosts first last
  pub left : e ≡ last.store.volume.device

-- of such a kernel it was printed what its processes came to, and this fault is told of its disk; each
-- operation has its answer, or not
pub record PrintsSession {D N : Type 0} (disk : Ghosts D N) (d e : D) (tasks : List Task)
    (processes : ℕ) (fault : Option DeviceFault) (all : Bool) (old new : Option (List ℕ)) : Type 0
  where
    pub last : Ringed D
    pub comes : ComesBySession disk d e processes last
    pub ends : Ends (inode_count_of (disk.image last.opening)) last (λ p. ops_of p tasks) processes
        fault all old new

-- the same of a run that was refused, as far as it was made
abbrev pub RefusesSession : {D N : Type 0} → Ghosts D N → D → D → List Task → ℕ → Option (List ℕ)
    → Option (List ℕ) → RunRefusal → Type 0
RefusesSession disk d e tasks processes old new (Unopened fault) = ⊤
RefusesSession {D} disk d e tasks processes old new Thread =
    (last : Ringed D) × ComesBySession disk d e processes last
RefusesSession disk d e tasks processes old new (Disk fault) =
    (all : Bool) × PrintsSession disk d e tasks processes (Some fault) all old new
RefusesSession disk d e tasks processes old new Unanswered =
    PrintsSession disk d e tasks processes None false old new
RefusesSession disk d e tasks processes old new NoMemory =
    PrintsSession disk d e tasks processes None false old new
RefusesSession {D} disk d e tasks processes old new Output =
    (last : Ringed D) × ComesBySession disk d e processes last
