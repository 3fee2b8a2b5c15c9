use Rattle.std.proofs.Common.{◌≡◌, ◌-◌}
use Rattle.std.specs.List.{range_with_len}
use Rattle.conversion.specs.Common.{AreNoted, OnlyReads}
use Rattle.conversion.proofs.nodes.note_nodes.Given as goal

abbrev pub invariant-loop-i : goal.invariant-loop-i
invariant-loop-i g l = record {
  reads : OnlyReads g.D.Disk l.fn.old l.old;
  faults : g.D.Disk.fault_count l.old ≡ g.D.Disk.fault_count l.fn.old;
  noted : AreNoted (g.D.Disk.image l.fn.old) (range_with_len 1 (l.i - 1)) l.nodes;
}
