-- The promise of a step, in three parts.
use Rattle.std.specs.Prelude.{ℕ}
use Rattle.blocks.specs.declared.disk.Disk as disk_trait
use Rattle.ports.specs.declared.herald.Herald as herald_trait
use Rattle.ports.specs.declared.intake.Intake as intake_trait
use Rattle.model.specs.declared.types.operations.Step.{Step}
use Rattle.kernel.specs.Acts.{Acts}
use Rattle.kernel.specs.Progress.{MakesProgress}
use Rattle.kernel.specs.State.{State, StopsIn}

-- THE PROMISE OF A STEP of process p, which answers r and makes m of k: what it does, how the kernel
-- goes on, and what a stop leaves of it.
pub record MakesStep {D N I M H : Type 0} (disk : disk_trait.Ghosts D N)
    (intake : intake_trait.Ghosts I M) (herald : herald_trait.Ghosts H) (p : ℕ) (r : Step)
    (k m : State D I H) : Type 0 where
  pub acts : Acts disk intake herald p r k m
  pub progress : MakesProgress disk p r k m
  pub stop : StopsIn disk k m
