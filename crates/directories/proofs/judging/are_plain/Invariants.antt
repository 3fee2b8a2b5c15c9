use Rattle.std.proofs.Common.{◌≡◌, ◌<◌, ℕ, get_or}
use Rattle.blocks.specs.Calls.{OnlyReads}
use Rattle.model.specs.Files.{files_of}
use Rattle.model.specs.Log.{recovered}
use Rattle.directories.specs.Trees.{IsDirectory}
use Rattle.directories.proofs.judging.are_plain.Given as goal

abbrev pub invariant-loop-number : goal.invariant-loop-number
invariant-loop-number g l = record {
  reads : OnlyReads g.D.Disk l.fn.disk l.disk;
  faults : g.D.Disk.fault_count l.disk ≡ g.D.Disk.fault_count l.fn.disk;
  plain : (j : ℕ) → j < l.number-index → IsDirectory (files_of (recovered (g.D.Disk.image l.fn.disk))) (get_or l.numbers j 0) → ⊥;
}
