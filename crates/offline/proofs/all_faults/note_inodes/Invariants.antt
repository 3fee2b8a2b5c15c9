use Rattle.std.proofs.Common.{◌≡◌, ◌⊎◌, ◌-◌, []}
use Rattle.std.specs.List.{flat_map, range_with_len}
use Rattle.offline.specs.Common.{block_at, inode_block, OnlyReads, places_below, recovered, SameLimits, Stand}
use Rattle.model.specs.Faults.{inode_faults}
use Rattle.offline.proofs.all_faults.note_inodes.Given as goal

abbrev pub invariant-loop-i : goal.invariant-loop-i
invariant-loop-i g l =
    let y = recovered (g.D.Disk.image l.initial.disk) in
    record {
      reads : OnlyReads g.D.Disk l.initial.disk l.disk;
      counts : g.D.Disk.fault_count l.disk ≡ g.D.Disk.fault_count l.initial.disk;
      limits : SameLimits l.initial.owners l.owners;
      loaded : (l.i ≡ 1) ⊎ (l.block ≡ block_at y (inode_block (l.i - 1)));
      stand : Stand l.initial.owners y [] → Stand l.owners y (places_below y l.i);
      heard : Stand l.initial.owners y [] → g.H.HearsFaults.hears l.initial.hearer (flat_map (inode_faults y) (range_with_len 1 (l.i - 1))) l.hearer;
    }
