-- By which turns threads made a kernel of the one that they began to share.
use Rattle.std.specs.Prelude.{◌≡◌, ℕ, List, Option, Some, None, Result, IfErr, OnOk}
use Rattle.blocks.specs.declared.disk.Disk as disk_trait
use Rattle.ports.specs.declared.herald.Herald as herald_trait
use Rattle.rings.specs.contracts.intake.RingIntakeIntake.TheImpl.{ghosts}
use Rattle.rings.specs.declared.intake.RingIntake.{RingIntake}
use Rattle.model.specs.declared.types.operations.Step.{Step}
use Rattle.wal.specs.declared.types.DeviceFault.{DeviceFault}
use Rattle.kernel.specs.Awake.{AreIdle}
use Rattle.kernel.specs.Flush.{Flushes}
use Rattle.kernel.specs.Runs.{Session}
use Rattle.kernel.specs.State.{State}
use Rattle.kernel.specs.Steps.{MakesStep}
use Rattle.kernel.specs.declared.types.Turn.{Turn}
use Rattle.sysring.specs.Origins.{IsOfOrigin}

-- these turns, one after the other, made m of k, with anything handed in and fetched between them
pub record HasTurnsOf {D N H : Type 0} (disk : disk_trait.Ghosts D N)
    (herald : herald_trait.Ghosts H) (k m : State D RingIntake H) : Type 0 where
  pub turns : List Turn
  pub session : Session disk ghosts herald turns k m

-- the same of the kernel that threads began to share
abbrev pub IsOfTurns : {D N H : Type 0} → disk_trait.Ghosts D N → herald_trait.Ghosts H
    → Option (State D RingIntake H) → State D RingIntake H → Type 0
IsOfTurns disk herald None m = ⊥
IsOfTurns disk herald (Some k) m = HasTurnsOf disk herald k m

-- a kernel that threads share: it is of its origin, by turns
pub record IsShared {D N H : Type 0} (disk : disk_trait.Ghosts D N)
    (herald : herald_trait.Ghosts H) (outset : Option (State D RingIntake H))
    (m : State D RingIntake H) : Type 0 where
  pub origin : IsOfOrigin disk herald outset m
  pub turns : IsOfTurns disk herald outset m

-- a kernel that threads share was flushed: none is under way then, or its disk has the fault that is
-- told
pub record FlushesShared {D N H : Type 0} (disk : disk_trait.Ghosts D N)
    (herald : herald_trait.Ghosts H) (outset : Option (State D RingIntake H))
    (r : Result (Unit {0}) DeviceFault) : Type 0 where
  pub before : State D RingIntake H
  pub after : State D RingIntake H
  pub shared : IsShared disk herald outset before
  pub flushes : Flushes disk ghosts herald before after
  pub idle : OnOk r (AreIdle after.world)
  pub works : OnOk r (after.store.volume.fault ≡ None)
  pub fault : IfErr r (λ fault. after.store.volume.fault ≡ Some fault)

-- a step of process p was made of a kernel that threads share, and answered r
pub record StepsShared {D N H : Type 0} (disk : disk_trait.Ghosts D N)
    (herald : herald_trait.Ghosts H) (outset : Option (State D RingIntake H)) (p : ℕ) (r : Step)
    : Type 0 where
  pub before : State D RingIntake H
  pub after : State D RingIntake H
  pub shared : IsShared disk herald outset before
  pub makes : MakesStep disk ghosts herald p r before after
