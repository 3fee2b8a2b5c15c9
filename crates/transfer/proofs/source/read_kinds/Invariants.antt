use Rattle.std.proofs.Common.{◌≡◌, ◌+◌, ◌<◌, ℕ, length, get_or}
use Rattle.blocks.specs.Calls.{OnlyReads}
use Rattle.model.specs.Layout.{inode_of}
use Rattle.model.specs.Log.{recovered}
use Rattle.transfer.proofs.source.read_kinds.Given as goal

abbrev pub invariant-loop-i : goal.invariant-loop-i
invariant-loop-i g l = record {
  reads : OnlyReads g.D.Disk l.fn.old l.old;
  faults : g.D.Disk.fault_count l.old ≡ g.D.Disk.fault_count l.fn.old;
  count : length l.kinds.items + 1 ≡ l.i;
  each : (k : ℕ) → k < length l.kinds.items →
      get_or l.kinds.items k 0 ≡ (inode_of (recovered (g.D.Disk.image l.fn.old)) (k + 1)).kind;
}
