-- When a step answers that it has to wait.
use Rattle.std.specs.Prelude.{◌≡◌, ◌<◌, ℕ, false, length, Some, None}
use Rattle.blocks.specs.declared.disk.Disk as disk_trait
use Rattle.model.specs.declared.types.operations.Why.{Why}
use Rattle.ports.specs.declared.herald.Herald as herald_trait
use Rattle.ports.specs.declared.intake.Intake as intake_trait
use Rattle.history.specs.declared.types.Phase.{Phase}
use Rattle.model.specs.declared.types.operations.Step.{Step}
use Rattle.kernel.specs.Awake.{IsBusy, cause_of}
use Rattle.kernel.specs.State.{State, ats_of}
use Rattle.kernel.specs.Steps.{MakesStep}

-- an operation under way that has to wait has this cause
abbrev pub SleepsForCause : {D N I M H : Type 0} → disk_trait.Ghosts D N
    → intake_trait.Ghosts I M → herald_trait.Ghosts H → Type 0
SleepsForCause {D} {N} {I} {M} {H} disk intake herald =
    (k m : State D I H) (p : ℕ) (cause : Why) → IsBusy k p →
    MakesStep disk intake herald p (Step.Sleeping cause) k m → cause_of k p ≡ Some cause

-- and one that has a cause does wait, unless the disk failed before
abbrev pub WaitsWithCause : {D N I M H : Type 0} → disk_trait.Ghosts D N
    → intake_trait.Ghosts I M → herald_trait.Ghosts H → Type 0
WaitsWithCause {D} {N} {I} {M} {H} disk intake herald =
    (k m : State D I H) (p : ℕ) (r : Step) (cause : Why) → k.store.volume.fault ≡ None →
    cause_of k p ≡ Some cause → MakesStep disk intake herald p r k m → r ≡ Step.Sleeping cause

-- process p has no operation under way, no room is kept for an answer, and nothing changed
pub record WaitsForRoom {D I M H : Type 0} (intake : intake_trait.Ghosts I M) (k : State D I H)
    (p : ℕ) (cause : Why) (m : State D I H) : Type 0 where
  pub full : cause ≡ Why.AnswersFull
  pub idle : ats_of k.world p ≡ Phase.Idle
  pub room : (intake.side m.intake p).has_room ≡ false
  pub world : m.world ≡ k.world

-- THE ONLY PROCESS of a kernel waits for nothing but room for its answers
abbrev pub SoleWaitsForAnswers : {D N I M H : Type 0} → disk_trait.Ghosts D N
    → intake_trait.Ghosts I M → herald_trait.Ghosts H → Type 0
SoleWaitsForAnswers {D} {N} {I} {M} {H} disk intake herald =
    (k m : State D I H) (p : ℕ) (cause : Why) → length k.world.processes ≡ 1 → p < 1 →
    MakesStep disk intake herald p (Step.Sleeping cause) k m → WaitsForRoom intake k p cause m
