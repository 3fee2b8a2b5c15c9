use Rattle.std.proofs.Common.{◌≡◌, ◌-◌}
use Rattle.blocks.specs.Disk.{counted}
use Rattle.blocks.specs.contracts.memory.MemDiskDisk.TheImpl.{ghosts}
use Rattle.wal.specs.Recovery.{LeavesIfCalm}
use Rattle.transfer.specs.Writing.{HasWritten, KeepsSuperblock}
use Rattle.transfer.proofs.writing_out.write_rest.Given as goal

-- the blocks so far were written, but for block 1
abbrev pub invariant-loop-b : goal.invariant-loop-b
invariant-loop-b g l =
    let d = g.E.Disk in
    let whole = ghosts.image l.fn.memory in
    record {
      keeps : ghosts.image l.memory ≡ whole;
      image : HasWritten l.b whole (d.image l.fn.disk) (d.image l.disk);
      name : d.name l.disk ≡ d.name l.fn.disk;
      writes : d.write_count l.disk ≡ counted (d.write_count l.fn.disk) (l.b - 1);
      faults : d.fault_count l.disk ≡ d.fault_count l.fn.disk;
      syncs : d.sync_count l.disk ≡ d.sync_count l.fn.disk;
      stops : LeavesIfCalm d l.fn.disk l.disk (KeepsSuperblock (d.image l.fn.disk));
    }
