-- The disks over a file, as contracts see them.
use Rattle.std.specs.Prelude.{Bool, length}
use Rattle.blocks.specs.Held.{LeftSince}
use Rattle.blocks.specs.contracts.memory.MemDiskDisk.TheImpl.{ghosts}
use Rattle.blocks.specs.declared.disk.Disk.{Ghosts}
use Rattle.blocks.specs.declared.faulty.FaultyDisk.{FaultyDisk}
use Rattle.blocks.specs.declared.faulty.Trap.{Trap}
use Rattle.blocks.specs.declared.file.FileDisk.{FileDisk}

abbrev pub file_disk : {F : Type 0} → Ghosts (FileDisk F) Bool
file_disk = record {
  name = λ d. d.holds;
  image = λ d. ghosts.image d.copy;
  moment = λ d. length d.shadow.past;
  leaves = λ d. LeftSince d.shadow;
  write_count = λ d. ghosts.write_count d.copy;
  fault_count = λ d. d.faults;
  sync_count = λ d. ghosts.sync_count d.copy;
  holding = λ n. n;
}

-- the same with one call that fails
abbrev pub faulty_disk : {F : Type 0} → Ghosts (FaultyDisk (FileDisk F)) (Bool × Trap)
faulty_disk = record {
  name = λ d. (d.inner.holds, d.trap);
  image = λ d. file_disk.image d.inner;
  moment = λ d. file_disk.moment d.inner;
  leaves = λ d. file_disk.leaves d.inner;
  write_count = λ d. d.writes;
  fault_count = λ d. d.faults;
  sync_count = λ d. file_disk.sync_count d.inner;
  holding = λ n. n.0;
}
