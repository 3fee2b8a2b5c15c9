use Rattle.std.proofs.Common.{◌≡◌, ◌<◌, ℕ}
use Rattle.blocks.specs.Calls.{OnlyReads}
use Rattle.model.specs.Files.{files_of}
use Rattle.model.specs.Log.{recovered}
use Rattle.directories.specs.Checks.{IsAmong}
use Rattle.directories.specs.Trees.{IsFile}
use Rattle.directories.proofs.judging.are_among.Given as goal

abbrev pub invariant-loop-i : goal.invariant-loop-i
invariant-loop-i g l = record {
  reads : OnlyReads g.D.Disk l.fn.disk l.disk;
  faults : g.D.Disk.fault_count l.disk ≡ g.D.Disk.fault_count l.fn.disk;
  among : (k : ℕ) → k < l.i → IsFile (files_of (recovered (g.D.Disk.image l.fn.disk))) k → IsAmong l.numbers k;
}
