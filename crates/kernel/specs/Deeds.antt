-- What the next step of a process does, told before it, and that it does so.
use Rattle.std.specs.Option.{option_map}
use Rattle.std.specs.Prelude.{◌≢◌, ℕ, Option, Some, None}
use Rattle.blocks.specs.declared.disk.Disk as disk_trait
use Rattle.model.specs.declared.types.operations.Step.{Step}
use Rattle.ports.specs.declared.herald.Herald as herald_trait
use Rattle.ports.specs.declared.intake.Intake as intake_trait
use Rattle.wal.specs.Deeds.{DoesAs, commit_deed, commit_of}
use Rattle.wal.specs.declared.deeds.Deed.{Deed}
use Rattle.wal.specs.declared.types.DeviceFault.{DeviceFault}
use Rattle.inodes.specs.Deeds.{task_deed}
use Rattle.inodes.specs.Store.{StoreState}
use Rattle.history.specs.declared.types.Phase.{Phase}
use Rattle.kernel.specs.State.{State, ats_of}
use Rattle.kernel.specs.Steps.{MakesStep}

-- by where the process stands
abbrev pub deed_standing : {D : Type 0} → Phase → StoreState D → ℕ → Option Deed
deed_standing Phase.Idle s p = Some Deed.Begin
deed_standing (Phase.BeforeTurn group op) s p = option_map Deed.Task (task_deed s p)
deed_standing (Phase.AfterTurn group k) s p = option_map Deed.Task (task_deed s p)
deed_standing (Phase.Ending group k) s p = Some Deed.End
deed_standing (Phase.Committing group k) s p = option_map Deed.Commit (commit_deed s.volume.log)

-- after a fault nothing is done any more
abbrev pub deed_unless : Option DeviceFault → Option Deed → Option Deed
deed_unless None deed = deed
deed_unless (Some fault) deed = None

-- WHAT THE NEXT STEP of process p DOES, unless it has to wait
abbrev pub next_deed : {D I H : Type 0} → State D I H → ℕ → Option Deed
next_deed k p = deed_unless k.store.volume.fault (deed_standing (ats_of k.world p) k.store p)

-- IT DOES TO THE DISK what was told, and nothing else, unless it halts: the write of the block that
-- was told, with the bytes that belong there, or a sync; and nothing where neither was told
abbrev pub DoesItsDeed : {D N I M H : Type 0} → disk_trait.Ghosts D N → intake_trait.Ghosts I M
    → herald_trait.Ghosts H → Type 0
DoesItsDeed {D} {N} {I} {M} {H} disk intake herald =
    (k m : State D I H) (p : ℕ) (r : Step) → r ≢ Step.Halted →
    MakesStep disk intake herald p r k m →
    DoesAs disk (commit_of (next_deed k p)) k.store.volume m.store.volume.device
