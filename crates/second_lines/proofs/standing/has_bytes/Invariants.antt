use Rattle.std.proofs.Common.{◌≡◌, ◌≤◌, ◌-◌, take}
use Rattle.blocks.specs.Calls.{OnlyReads}
use Rattle.model.specs.Files.{bytes_in}
use Rattle.model.specs.Log.{recovered}
use Rattle.second_lines.proofs.standing.has_bytes.Given as goal

abbrev pub decreases-loop-at : goal.decreases-loop-at
decreases-loop-at g l = l.inode.size - l.at

-- the bytes so far are the same
abbrev pub invariant-loop-at : goal.invariant-loop-at
invariant-loop-at g l = record {
  reads : OnlyReads g.D.Disk l.fn.disk l.disk;
  inside : l.at ≤ l.inode.size;
  same : take l.at (bytes_in (recovered (g.D.Disk.image l.fn.disk)) l.inode) ≡ take l.at l.bytes;
}
