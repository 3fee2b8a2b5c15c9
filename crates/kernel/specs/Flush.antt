-- That every operation under way ends, while none begins.
use Rattle.std.specs.Prelude.{◌≡◌, ◌<◌, ◌≤◌, ◌*◌, ℕ, Bool, true, false, List, length, IfNone}
use Rattle.blocks.specs.Disk.{Image}
use Rattle.blocks.specs.declared.disk.Disk as disk_trait
use Rattle.model.specs.Layout.{form_of}
use Rattle.ports.specs.declared.herald.Herald as herald_trait
use Rattle.ports.specs.declared.intake.Intake as intake_trait
use Rattle.kernel.specs.declared.types.Turn.{Turn}
use Rattle.kernel.specs.Awake.{AreIdle}
use Rattle.kernel.specs.Bound.{step_bound}
use Rattle.kernel.specs.Rounds.{BeginsNone, all_left}
use Rattle.kernel.specs.Runs.{Runs}
use Rattle.kernel.specs.State.{State}

-- so many turns at most, in which no operation begins, make m of k
pub record EndsOnly {D N I M H : Type 0} (disk : disk_trait.Ghosts D N)
    (intake : intake_trait.Ghosts I M) (herald : herald_trait.Ghosts H) (most : ℕ)
    (k m : State D I H) : Type 0 where
  pub turns : List Turn
  pub runs : Runs disk intake herald turns k m
  pub few : length turns ≤ most
  pub none : BeginsNone k.world m.world

-- no operation is under way, or the disk has a fault
abbrev pub AreOver : {D I H : Type 0} → State D I H → Type 0
AreOver m = IfNone m.store.volume.fault (AreIdle m.world)

-- An operation goes on where `goes` says so: steps that were left are fewer. Else all are over.
pub record GoesOn {D I H : Type 0} (image : D → Image) (goes : Bool) (k m : State D I H) : Type 0 where
  pub falls : goes ≡ true → all_left image m < all_left image k
  pub over : goes ≡ false → AreOver m

-- FLUSHES: such turns, for each pair of processes at most as many as an operation has steps
abbrev pub Flushes : {D N I M H : Type 0} → disk_trait.Ghosts D N → intake_trait.Ghosts I M
    → herald_trait.Ghosts H → State D I H → State D I H → Type 0
Flushes disk intake herald k m =
    EndsOnly disk intake herald (length k.world.processes
    * (length k.world.processes * step_bound (form_of (disk.image k.opening)))) k m
