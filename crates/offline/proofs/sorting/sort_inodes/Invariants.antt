use Rattle.std.proofs.Common.{◌≡◌, ◌-◌}
use Rattle.std.specs.List.{range_with_len}
use Rattle.offline.specs.Common.{OnlyReads, recovered}
use Rattle.offline.specs.Clean.{Sorts}
use Rattle.offline.proofs.sorting.sort_inodes.Given as goal

abbrev pub invariant-loop-i : goal.invariant-loop-i
invariant-loop-i g l =
    record {
      reads : OnlyReads g.D.Disk l.fn.disk l.disk;
      faults : g.D.Disk.fault_count l.disk ≡ g.D.Disk.fault_count l.fn.disk;
      sorted : Sorts (recovered (g.D.Disk.image l.fn.disk)) (range_with_len 1 (l.i - 1)) l.sorted;
    }
