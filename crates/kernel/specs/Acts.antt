-- What a step of a process does: to store and processes, to the disk, and at its ports.
use Rattle.std.specs.Prelude.{◌≡◌, ◌≢◌, ◌&&◌, not, is_none, ℕ, Bool, true, false}
use mathlib.Core.List.{IsPrefix}
use Rattle.blocks.specs.declared.disk.Disk as disk_trait
use Rattle.ports.specs.declared.herald.Herald as herald_trait
use Rattle.ports.specs.declared.intake.Intake as intake_trait
use Rattle.history.specs.Bound.{is_busy_at}
use Rattle.history.specs.Processes.{process}
use Rattle.model.specs.declared.types.operations.Step.{Step}
use Rattle.kernel.specs.Device.{UsesDisk}
use Rattle.kernel.specs.Heralds.{IsUnasked, SameBoard}
use Rattle.kernel.specs.Next.{Next, StepFrom, StepTo}
use Rattle.kernel.specs.Ports.{KeepsOthers}
use Rattle.kernel.specs.State.{State}

-- process p comes to a beginning: only then the herald is asked for a shutdown
abbrev pub may_begin : {D I H : Type 0} → State D I H → ℕ → Bool
may_begin k p =
    is_none k.store.volume.fault && not k.world.is_shut && not (is_busy_at (process k.world p).at)

-- where a step of process p begins
abbrev pub step_from : {D I M H : Type 0} → intake_trait.Ghosts I M → ℕ → State D I H → StepFrom D
step_from intake p k =
    record { store = k.store; world = k.world; ahead = (intake.side k.intake p).ahead }

-- and where it comes to, with its answer
abbrev pub step_to : {D I M H : Type 0} → intake_trait.Ghosts I M → herald_trait.Ghosts H → ℕ → Step
    → State D I H → StepTo D
step_to intake herald p r m = record {
  answer = r;
  side = intake.side m.intake p;
  told = herald.told m.herald;
  store = m.store;
  world = m.world;
}

-- what it does at its ports
pub record UsesPorts {D I M H : Type 0} (intake : intake_trait.Ghosts I M)
    (herald : herald_trait.Ghosts H) (p : ℕ) (r : Step) (k m : State D I H) : Type 0 where
  pub board : SameBoard herald k.herald m.herald
  -- a step that comes to a beginning asks the herald once, and no other asks it
  pub asked : may_begin k p ≡ true → herald.asks k.herald m.herald
  pub unasked : may_begin k p ≡ false → IsUnasked herald k.herald m.herald
  pub sides : KeepsOthers intake p k.intake m.intake
  -- what waits goes on waiting, but for what is taken
  pub waits : r ≢ Step.Moved → r ≢ Step.Answered
      → IsPrefix (intake.side k.intake p).ahead (intake.side m.intake p).ahead
  pub ahead : is_busy_at (process k.world p).at ≡ true
      → (intake.side m.intake p).ahead ≡ (intake.side k.intake p).ahead

-- What a step of process p does, which answers r and makes m of k.
pub record Acts {D N I M H : Type 0} (disk : disk_trait.Ghosts D N)
    (intake : intake_trait.Ghosts I M) (herald : herald_trait.Ghosts H) (p : ℕ) (r : Step)
    (k m : State D I H) : Type 0 where
  pub next : Next disk p (step_from intake p k) (step_to intake herald p r m)
  pub device : UsesDisk disk (process k.world p).at p r k.store m.store
  pub opening : m.opening ≡ k.opening
  pub ports : UsesPorts intake herald p r k m
