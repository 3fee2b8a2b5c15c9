use Rattle.std.proofs.Common.{◌≡◌, ◌-◌}
use Rattle.blocks.specs.Calls.{OnlyReads}
use Rattle.model.specs.Files.{files_of}
use Rattle.model.specs.Log.{recovered}
use Rattle.directories.specs.Checks.{HasFound}
use Rattle.directories.proofs.judging.look_through.Given as goal

abbrev pub decreases-loop-looked : goal.decreases-loop-looked
decreases-loop-looked g l = l.image.sup.ninodes - l.looked

abbrev pub invariant-loop-looked : goal.invariant-loop-looked
invariant-loop-looked g l = record {
  reads : OnlyReads g.D.Disk l.fn.disk l.disk;
  faults : g.D.Disk.fault_count l.disk ≡ g.D.Disk.fault_count l.fn.disk;
  found : HasFound (files_of (recovered (g.D.Disk.image l.fn.disk))) l.looked l.numbers.items l.parents.items l.again.items;
}
