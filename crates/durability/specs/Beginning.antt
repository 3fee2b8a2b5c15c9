-- That behind a flush the log keeps out no operation.
use Rattle.std.specs.Prelude.{◌≡◌, ◌≢◌, ◌+◌, ◌<◌, ℕ, true, length, IsSome, None}
use Rattle.blocks.specs.declared.disk.Disk as disk_trait
use Rattle.model.specs.declared.types.operations.Step.{Step}
use Rattle.ports.specs.History.{first_in}
use Rattle.ports.specs.declared.herald.Herald as herald_trait
use Rattle.ports.specs.declared.intake.Intake as intake_trait
use Rattle.history.specs.Processes.{process}
use Rattle.kernel.specs.Awake.{AreIdle}
use Rattle.kernel.specs.Known.{Known}
use Rattle.kernel.specs.State.{State}
use Rattle.kernel.specs.Steps.{MakesStep}

-- An operation waits for process p, its answer has room, and a step of p answers r: neither that
-- memory was refused nor that there was a shutdown.
pub record HasAllButTheLog {D I M H : Type 0} (intake : intake_trait.Ghosts I M) (p : ℕ) (r : Step)
    (k m : State D I H) : Type 0 where
  pub waits : IsSome (first_in (intake.side k.intake p).ahead)
  pub room : (intake.side m.intake p).has_room ≡ true
  pub granted : r ≢ Step.NoMemory
  pub unshut : r ≢ Step.ShutDown

-- NONE IS KEPT OUT: where no operation is under way and the disk works, whichever process is stepped
-- next begins the operation that waits for it
abbrev pub NoneIsKeptOut : {D N I M H : Type 0} → disk_trait.Ghosts D N
    → intake_trait.Ghosts I M → herald_trait.Ghosts H → Type 0
NoneIsKeptOut {D} {N} {I} {M} {H} disk intake herald =
    (p : ℕ) (r : Step) (k m : State D I H) → Known disk intake herald k →
    k.store.volume.fault ≡ None → AreIdle k.world → p < length k.world.processes →
    MakesStep disk intake herald p r k m → HasAllButTheLog intake p r k m →
    (process m.world p).begun ≡ (process k.world p).begun + 1
