use Rattle.std.proofs.Common.{◌≡◌}
use Rattle.blocks.specs.Calls.{OnlyReads}
use Rattle.model.specs.Files.{files_of}
use Rattle.model.specs.Log.{recovered}
use Rattle.directories.specs.Tallying.{AreTaken}
use Rattle.directories.proofs.Takings.{names_below}
use Rattle.directories.proofs.tallying.take_names.Given as goal

abbrev pub invariant-loop-from : goal.invariant-loop-from
invariant-loop-from g l = record {
  reads : OnlyReads g.D.Disk l.fn.disk l.disk;
  faults : g.D.Disk.fault_count l.disk ≡ g.D.Disk.fault_count l.fn.disk;
  taken : AreTaken (names_below (files_of (recovered (g.D.Disk.image l.fn.disk))) l.from) l.fn.left l.left;
}
