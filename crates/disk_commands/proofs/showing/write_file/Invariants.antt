use Rattle.std.proofs.Common.{◌≡◌, ◌≤◌, ◌-◌, take}
use Rattle.std.specs.Io.KnownBytes.{Appends}
use Rattle.blocks.specs.Calls.{OnlyReads}
use Rattle.model.specs.Files.{bytes_in}
use Rattle.model.specs.Log.{recovered}
use Rattle.disk_commands.proofs.showing.write_file.Given as goal

abbrev pub decreases-loop-at : goal.decreases-loop-at
decreases-loop-at g l = l.inode.size - l.at

-- the bytes so far were written
abbrev pub invariant-loop-at : goal.invariant-loop-at
invariant-loop-at g l =
    let d = g.D.Disk in
    record {
      reads : OnlyReads d l.fn.disk l.disk;
      faults : d.fault_count l.disk ≡ d.fault_count l.fn.disk;
      inside : l.at ≤ l.inode.size;
      written : Appends (g.O.Write.contents l.fn.out) (g.O.Write.contents l.out) (take l.at (bytes_in (recovered (d.image l.fn.disk)) l.inode));
    }
