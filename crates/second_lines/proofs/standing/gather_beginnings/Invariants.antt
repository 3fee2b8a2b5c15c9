use Rattle.std.proofs.Common.{◌≡◌, ◌++◌, ◌-◌}
use Rattle.std.specs.List.{flat_map, range_with_len}
use Rattle.blocks.specs.Calls.{OnlyReads}
use Rattle.model.specs.Layout.{inode_count_of}
use Rattle.model.specs.Log.{recovered}
use Rattle.second_lines.specs.Beginnings.{beginning_at, beginnings_of}
use Rattle.second_lines.proofs.standing.gather_beginnings.Given as goal

abbrev pub invariant-loop-i : goal.invariant-loop-i
invariant-loop-i g l =
    let y = recovered (g.D.Disk.image l.fn.disk) in
    record {
      reads : OnlyReads g.D.Disk l.fn.disk l.disk;
      added : l.found.items ++ flat_map (beginning_at y l.bytes) (range_with_len l.i (inode_count_of y - l.i)) ≡ beginnings_of y l.bytes;
    }
