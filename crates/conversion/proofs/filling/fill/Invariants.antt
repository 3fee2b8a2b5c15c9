use Rattle.std.proofs.Common.{◌≡◌}
use Rattle.blocks.specs.contracts.memory.MemDiskDisk.TheImpl.{ghosts}
use Rattle.conversion.specs.Common.{OnlyReads}
use Rattle.conversion.proofs.FillLemmas.{IsFilledTo}
use Rattle.conversion.proofs.filling.fill.Given as goal

abbrev pub invariant-loop-b : goal.invariant-loop-b
invariant-loop-b g l = record {
  reads : OnlyReads g.D.Disk l.fn.old l.old;
  faults : g.D.Disk.fault_count l.old ≡ g.D.Disk.fault_count l.fn.old;
  filled : IsFilledTo (g.D.Disk.image l.fn.old) l.prepared.plan.to l.prepared.plan.size l.b (ghosts.image l.new);
}
