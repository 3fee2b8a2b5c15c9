use Rattle.std.proofs.Common.{◌≡◌, ◌*◌, ◌≤◌, drop}
use Rattle.offline.specs.Common.{OnlyReads, pointers_along, recovered}
use Rattle.offline.specs.Taking.{HasTaken}
use Rattle.offline.proofs.walking.take_pointers.Given as goal

abbrev pub invariant-loop-k : goal.invariant-loop-k
invariant-loop-k g l =
    let y = recovered (g.D.Disk.image l.fn.disk) in
    record {
      reads : OnlyReads g.D.Disk l.fn.disk l.disk;
      counts : g.D.Disk.fault_count l.disk ≡ g.D.Disk.fault_count l.fn.disk;
      early : l.first ≤ l.k * 65536;
      taken : HasTaken g.T.TakesPointers.takes l.i (pointers_along y l.inode.size 0 l.depths l.inode.addrs)
          (pointers_along y l.inode.size l.first (drop l.k l.depths) (drop l.k l.inode.addrs)) l.fn.taker l.taker;
    }
