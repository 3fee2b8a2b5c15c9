use Rattle.std.proofs.Common.{◌≡◌, ◌*◌, length, take}
use Rattle.std.specs.Simd.{first_chunks}
use Rattle.blocks.specs.Calls.{OnlyReads}
use Rattle.blocks.specs.FileDisk.{file_of}
use Rattle.cmd.specs.Lemmas.Disks.{file_disk}
use Rattle.commands.proofs.copied.Copied.of.Given as goal

abbrev pub invariant-loop-b : goal.invariant-loop-b
invariant-loop-b g l = record {
  reads : OnlyReads file_disk l.fn.disk l.disk;
  file : file_of l.disk ≡ file_of l.fn.disk;
  size : length l.bytes.items ≡ l.b * 1024;
  blocks : first_chunks 1024 l.b l.bytes.items ≡ take l.b (file_disk.image l.fn.disk);
}
