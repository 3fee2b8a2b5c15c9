use Rattle.std.proofs.Common.{◌≡◌, map}
use Rattle.std.specs.List.{range_with_len}
use Rattle.blocks.specs.Calls.{OnlyReads}
use Rattle.model.specs.Files.{file_at}
use Rattle.model.specs.Log.{recovered}
use Rattle.tree_looks.proofs.loading.read_files.Given as goal

-- the files of the first numbers were read
abbrev pub invariant-loop-number : goal.invariant-loop-number
invariant-loop-number g l = record {
  reads : OnlyReads g.D.Disk l.fn.disk l.disk;
  faults : g.D.Disk.fault_count l.disk ≡ g.D.Disk.fault_count l.fn.disk;
  files : l.files.items ≡ map (file_at (recovered (g.D.Disk.image l.fn.disk))) (range_with_len 0 l.number);
}
