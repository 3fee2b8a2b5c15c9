use Rattle.std.proofs.Common.{◌≡◌, ◌+◌, ◌*◌, ◌≤◌, drop}
use Rattle.offline.specs.Common.{entry_pointers, OnlyReads, pointers_under, recovered}
use Rattle.offline.specs.Taking.{HasTaken}
use Rattle.offline.proofs.walking.+take_under.Given as goal

abbrev pub decreases-take_under : goal.decreases-take_under
decreases-take_under g l = l.branch.depth

abbrev pub invariant-loop-k : goal.invariant-loop-k
invariant-loop-k g l =
    let y = recovered (g.D.Disk.image l.fn.disk) in
    let branch = l.fn.branch in
    record {
      reads : OnlyReads g.D.Disk l.fn.disk l.disk;
      counts : g.D.Disk.fault_count l.disk ≡ g.D.Disk.fault_count l.fn.disk;
      early : l.first ≤ branch.first + l.k * 256;
      taken : HasTaken g.T.TakesPointers.takes l.i (pointers_under y l.size branch.depth branch.first branch.address)
          (entry_pointers y l.size l.depth l.first (drop l.k l.addresses)) l.fn.taker l.taker;
    }
