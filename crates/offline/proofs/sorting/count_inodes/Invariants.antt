use Rattle.std.proofs.Common.{◌≡◌}
use Rattle.offline.specs.Common.{OnlyReads, places_below, recovered}
use Rattle.offline.specs.Clean.{Counts}
use Rattle.offline.proofs.sorting.count_inodes.Given as goal

abbrev pub invariant-loop-i : goal.invariant-loop-i
invariant-loop-i g l =
    record {
      reads : OnlyReads g.D.Disk l.fn.disk l.disk;
      faults : g.D.Disk.fault_count l.disk ≡ g.D.Disk.fault_count l.fn.disk;
      counts : Counts l.table (recovered (g.D.Disk.image l.fn.disk)) (places_below (recovered (g.D.Disk.image l.fn.disk)) l.i);
    }
