-- That all answers of a kernel are durable once no operation of it is under way.
use Rattle.std.specs.Prelude.{◌≡◌, ◌≤◌, ◌*◌, List, length, None}
use Rattle.std.specs.List.{All}
use Rattle.blocks.specs.Disk.{Image}
use Rattle.blocks.specs.declared.disk.Disk as disk_trait
use Rattle.model.specs.Layout.{form_of}
use Rattle.model.specs.Log.{recovered}
use Rattle.ports.specs.declared.herald.Herald as herald_trait
use Rattle.ports.specs.declared.intake.Intake as intake_trait
use Rattle.history.specs.Keeps.{AreUpTo}
use Rattle.kernel.specs.declared.types.Turn.{Turn}
use Rattle.kernel.specs.Awake.{AreIdle}
use Rattle.kernel.specs.Bound.{step_bound}
use Rattle.kernel.specs.Known.{Known}
use Rattle.kernel.specs.Rounds.{BeginsNone, IsRound, turns_of}
use Rattle.kernel.specs.Runs.{Session}
use Rattle.kernel.specs.State.{State}
use Rattle.kernel.specs.Theorem.{IsRecoveredRun}

-- recovery of x keeps the operations of some count of groups, and no entry is of a later one
pub record KeepsAll {D I H : Type 0} (opening : Image) (m : State D I H) (x : Image) : Type 0 where
  pub run : IsRecoveredRun opening m.store.volume.log.committed m (recovered x)
  pub all : AreUpTo run.groups m.world.journal.list

-- IDLE IS DURABLE: where no operation is under way and the disk works, each image x that a stop may
-- leave now
abbrev pub IdleIsDurable : {D N I M H : Type 0} → disk_trait.Ghosts D N
    → intake_trait.Ghosts I M → herald_trait.Ghosts H → Type 0
IdleIsDurable {D} {N} {I} {M} {H} disk intake herald =
    (x : Image) (m : State D I H) → Known disk intake herald m →
    m.store.volume.fault ≡ None → AreIdle m.world →
    disk.leaves m.store.volume.device (disk.moment m.store.volume.device) x →
    KeepsAll (disk.image m.opening) m x

-- ROUNDS MAKE DURABLE: the same behind that many rounds of all processes in which none begins
abbrev pub RoundsMakeDurable : {D N I M H : Type 0} → disk_trait.Ghosts D N
    → intake_trait.Ghosts I M → herald_trait.Ghosts H → Type 0
RoundsMakeDurable {D} {N} {I} {M} {H} disk intake herald =
    (x : Image) (rounds : List (List Turn)) (k m : State D I H) → Known disk intake herald k →
    All (IsRound (length k.world.processes)) rounds →
    length k.world.processes * step_bound (form_of (disk.image k.opening)) ≤ length rounds →
    Session disk intake herald (turns_of rounds) k m → BeginsNone k.world m.world →
    m.store.volume.fault ≡ None → Known disk intake herald m →
    disk.leaves m.store.volume.device (disk.moment m.store.volume.device) x →
    KeepsAll (disk.image m.opening) m x
