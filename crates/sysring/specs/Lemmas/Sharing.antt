-- A kernel that threads begin to share.
use Rattle.std.proofs.Common.{[], refl, Some}
use Rattle.blocks.specs.declared.disk.Disk as disk_trait
use Rattle.ports.specs.declared.herald.Herald as herald_trait
use Rattle.rings.specs.contracts.intake.RingIntakeIntake.TheImpl.{ghosts}
use Rattle.rings.specs.declared.intake.RingIntake.{RingIntake}
use Rattle.kernel.specs.Known.{Known}
use Rattle.kernel.specs.Lemmas.Turns.{runs_on_none}
use Rattle.kernel.specs.State.{State}
use Rattle.sysring.specs.Sessions.{IsShared}

module _ {D N H : Type 0} (disk : disk_trait.Ghosts D N) (herald : herald_trait.Ghosts H) where
  -- it is its own origin, by no turns
  pub shared_now : (k : State D RingIntake H) → Known disk ghosts herald k → IsShared disk herald (Some k) k
  shared_now k known = record {
    origin = record { runs = runs_on_none disk ghosts herald k known.stop.keeps; rings = λ p. refl; board = refl };
    turns = record { turns = []; session = (k.intake, k.herald, refl) };
  }
