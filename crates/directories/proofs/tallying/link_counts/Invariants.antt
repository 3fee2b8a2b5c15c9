use Rattle.std.proofs.Common.{◌≡◌, ◌<◌, ℕ, get_or, length}
use Rattle.blocks.specs.Calls.{OnlyReads}
use Rattle.model.specs.Files.{file_in, files_of}
use Rattle.model.specs.Log.{recovered}
use Rattle.directories.specs.Trees.{links_of}
use Rattle.directories.proofs.tallying.link_counts.Given as goal

abbrev pub invariant-loop-i : goal.invariant-loop-i
invariant-loop-i g l = record {
  reads : OnlyReads g.D.Disk l.fn.disk l.disk;
  faults : g.D.Disk.fault_count l.disk ≡ g.D.Disk.fault_count l.fn.disk;
  long : length l.counts.items ≡ l.i;
  links : (k : ℕ) → k < l.i → get_or l.counts.items k 0 ≡ links_of (file_in (files_of (recovered (g.D.Disk.image l.fn.disk))) k);
}
