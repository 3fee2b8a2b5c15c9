-- Steps of a process, one after the other.
use Rattle.std.specs.Prelude.{◌≡◌, ◌≢◌, ℕ, zero, suc, ◌<◌}
use Rattle.blocks.specs.declared.disk.Disk.{Ghosts}
use Rattle.model.specs.Layout.{form_of}
use Rattle.ports.specs.declared.herald.Herald.{Ghosts as Heralds}
use Rattle.ports.specs.declared.intake.Intake.{Ghosts as Intakes}
use Rattle.kernel.specs.Bound.{step_bound}
use Rattle.kernel.specs.State.{State}
use Rattle.kernel.specs.Steps.{MakesStep}
use Rattle.model.specs.declared.types.operations.Step.{Step}

-- n steps, each of which moves, make m of k, where one step does as `steps` says
unfoldable pub Moves : {K : Type 0} → (Step → K → K → Type 0) → ℕ → K → K → Type 0
Moves steps zero k m = m ≡ k
Moves {K} steps (suc n) k m = (mid : K) × steps Step.Moved k mid × Moves steps n mid m

-- Steps of process p make m of k: fewer that move than an operation may have, and one that doesn't
-- and answers r.
pub record MakesSteps {D N I M H : Type 0} (disk : Ghosts D N) (intake : Intakes I M)
    (herald : Heralds H) (p : ℕ) (r : Step) (k m : State D I H) : Type 0 where
  pub moved : ℕ
  pub mid : State D I H
  pub moves : Moves (MakesStep disk intake herald p) moved k mid
  pub few : moved < step_bound (form_of (disk.image k.opening))
  pub last : r ≢ Step.Moved
  pub made : MakesStep disk intake herald p r mid m
