use Rattle.std.proofs.Common.{◌≡◌, ◌-◌}
use Rattle.offline.specs.Common.{counted, LeavesOnly, UnlessHolds}
use Rattle.offline.specs.Making.{HasMade, IsMadeInPartAs, made_first}
use Rattle.offline.proofs.making.write_behind.Given as goal

abbrev pub invariant-loop-b : goal.invariant-loop-b
invariant-loop-b g l =
    let d = g.D.Disk in
    record {
      made : HasMade l.image.form l.image.size l.image.ninodes l.b (d.image l.fn.disk) (d.image l.disk);
      first : d.image l.disk ≡ made_first l.image.form l.image.size l.image.ninodes (l.b - 1) (d.image l.fn.disk);
      name : d.name l.disk ≡ d.name l.fn.disk;
      syncs : d.sync_count l.disk ≡ d.sync_count l.fn.disk;
      writes : d.write_count l.disk ≡ counted (d.write_count l.fn.disk) (l.b - 1);
      faults : d.fault_count l.disk ≡ d.fault_count l.fn.disk;
      order : UnlessHolds d l.fn.disk (LeavesOnly d.moment d.leaves l.fn.disk l.disk (IsMadeInPartAs l.image.form (d.image l.fn.disk) l.image.size l.image.ninodes));
    }
