-- A disk of which one call fails, as a disk.
use Rattle.blocks.specs.declared.disk.Disk.{Ghosts}
use Rattle.blocks.specs.declared.faulty.FaultyDisk.{FaultyDisk}
use Rattle.blocks.specs.declared.faulty.Trap.{Trap}

-- what contracts see of it, over what they see of the disk below
abbrev pub faulty : {D N : Type 0} → Ghosts D N → Ghosts (FaultyDisk D) (N × Trap)
faulty disk = record {
  name = λ d. (disk.name d.inner, d.trap);
  image = λ d. disk.image d.inner;
  moment = λ d. disk.moment d.inner;
  leaves = λ d. disk.leaves d.inner;
  write_count = λ d. d.writes;
  fault_count = λ d. d.faults;
  sync_count = λ d. disk.sync_count d.inner;
  holding = λ n. disk.holding n.0;
}
