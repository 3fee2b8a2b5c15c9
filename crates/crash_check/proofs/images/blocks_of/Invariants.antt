use Rattle.std.proofs.Common.{◌≡◌, take}
use Rattle.blocks.specs.contracts.memory.MemDiskDisk.TheImpl.{ghosts}
use Rattle.crash_check.proofs.images.blocks_of.Given as goal

abbrev pub invariant-loop-b : goal.invariant-loop-b
invariant-loop-b l = record {
  blocks : l.blocks.items ≡ take l.b (ghosts.image l.disk);
  same : ghosts.image l.disk ≡ ghosts.image l.fn.disk;
}
