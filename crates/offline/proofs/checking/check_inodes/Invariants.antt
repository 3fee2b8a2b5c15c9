use Rattle.std.proofs.Common.{◌≡◌, ◌⊎◌, ◌-◌, ◌<◌, []}
use Rattle.offline.specs.Common.{block_at, inode_block, OnlyReads, recovered, SameLimits, Stand}
use Rattle.offline.proofs.InodeLemmas.{AreJudged}
use Rattle.offline.proofs.checking.check_inodes.Given as goal

abbrev pub invariant-loop-i : goal.invariant-loop-i
invariant-loop-i g l =
    let y = recovered (g.D.Disk.image l.initial.disk) in
    record {
      reads : OnlyReads g.D.Disk l.initial.disk l.disk;
      faults : g.D.Disk.fault_count l.disk ≡ g.D.Disk.fault_count l.initial.disk;
      limits : SameLimits l.initial.owners l.owners;
      loaded : (l.i ≡ 1) ⊎ (l.block ≡ block_at y (inode_block (l.i - 1)));
      few : l.files < l.i;
      judged : Stand l.initial.owners y [] → AreJudged y l.i l.files l.owners;
    }
