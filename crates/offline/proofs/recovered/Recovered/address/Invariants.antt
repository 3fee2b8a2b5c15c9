use Rattle.std.proofs.Common.{◌≡◌, drop}
use Rattle.offline.specs.Common.{address_along, LeadsAlong, recovered}
use Rattle.offline.proofs.recovered.Recovered.address.Given as goal

abbrev pub invariant-loop-j : goal.invariant-loop-j
invariant-loop-j g l =
    let y = recovered (g.D.Disk.image l.fn.disk) in
    record {
      disk : l.disk ≡ l.fn.disk;
      same : address_along y l.rest (drop l.j l.depths) (drop l.j l.inode.addrs) ≡ address_along y l.k l.depths l.inode.addrs;
      leads : LeadsAlong y l.rest (drop l.j l.depths) (drop l.j l.inode.addrs);
    }
