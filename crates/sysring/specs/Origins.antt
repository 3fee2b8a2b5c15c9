-- What stays of a kernel while threads share it.
use Rattle.std.specs.Prelude.{◌≤◌, ℕ, length, Option, Some, None}
use Rattle.blocks.specs.declared.disk.Disk as disk_trait
use Rattle.ports.specs.declared.herald.Herald as herald_trait
use Rattle.ports.specs.History.{SameNames}
use Rattle.rings.specs.declared.intake.RingIntake.{RingIntake}
use Rattle.rings.specs.Callers.{intake_names}
use Rattle.kernel.specs.Heralds.{SameBoard}
use Rattle.kernel.specs.Runs.{RunsOn}
use Rattle.kernel.specs.State.{State}

-- m is k after steps: all that any turns keep of a kernel is kept, above all its opening and the
-- groups that were committed, and it has the same rings and the same board
pub record HasOriginOf {D N H : Type 0} (disk : disk_trait.Ghosts D N)
    (herald : herald_trait.Ghosts H) (k m : State D RingIntake H) : Type 0 where
  pub runs : RunsOn disk k m
  pub rings : SameNames (intake_names k.intake) (intake_names m.intake)
  pub board : SameBoard herald k.herald m.herald

-- the same of the kernel that threads began to share
abbrev pub IsOfOrigin : {D N H : Type 0} → disk_trait.Ghosts D N → herald_trait.Ghosts H
    → Option (State D RingIntake H) → State D RingIntake H → Type 0
IsOfOrigin disk herald None m = ⊥
IsOfOrigin disk herald (Some k) m = HasOriginOf disk herald k m

-- how many processes it has
abbrev pub processes_in : {D H : Type 0} → Option (State D RingIntake H) → ℕ
processes_in None = 0
processes_in (Some k) = length k.world.processes

-- so many threads may make the steps
abbrev pub AreWorkers : ℕ → Type 0
AreWorkers n = (1 ≤ n) × (n ≤ 32)
