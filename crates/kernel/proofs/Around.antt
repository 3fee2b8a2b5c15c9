-- What is true of a kernel stays where nothing but its ports goes on.
use Rattle.blocks.specs.declared.disk.Disk as disk_trait
use Rattle.kernel.specs.Common.{ArePorts, State, StoreState, World}
use Rattle.kernel.specs.Invariant.{Inv}
use Rattle.ports.specs.declared.herald.Herald as herald_trait
use Rattle.ports.specs.declared.intake.Intake as intake_trait

module _ {D N I M H : Type 0} (disk : disk_trait.Ghosts D N) (intake : intake_trait.Ghosts I M) (herald : herald_trait.Ghosts H) (o : D) (s : StoreState D) (w : World) where
  abbrev pub with_ports : I → H → State D I H
  with_ports i h = record { store = s; opening = o; intake = i; herald = h; world = w }

  pub inv_around : (i j : I) (h g : H) → Inv disk intake herald (with_ports i h) → ArePorts intake herald j g s.volume.log.committed w → Inv disk intake herald (with_ports j g)
  inv_around i j h g inv ports = record { right = inv.right; since = inv.since; ports = ports }
