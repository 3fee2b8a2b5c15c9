use Rattle.std.proofs.Common.{◌≡◌}
use Rattle.wal.specs.Common.{counted, HasCopied, Image, IsRecoveredInPart, LeavesOnly, RecoversAs, UnlessHolds}
use Rattle.wal.proofs.CopyLemmas.{SameBesides}
use Rattle.wal.proofs.recovery.copy_home.Given as goal

-- the first k blocks are copied, and a crash leaves what is recovered to the same image
abbrev pub invariant-loop-k : goal.invariant-loop-k
invariant-loop-k g l =
    let d = g.D.Disk in
    let x = d.image l.fn.disk in
    record {
      copied : HasCopied l.k x (d.image l.disk);
      besides : (z : Image) → d.leaves l.disk (d.moment l.disk) z → SameBesides x z;
      name : d.name l.disk ≡ d.name l.fn.disk;
      writes : d.write_count l.disk ≡ counted (d.write_count l.fn.disk) l.k;
      syncs : d.sync_count l.disk ≡ d.sync_count l.fn.disk;
      faults : d.fault_count l.disk ≡ d.fault_count l.fn.disk;
      any_moment : LeavesOnly d.moment d.leaves l.fn.disk l.disk (RecoversAs x);
      in_order : UnlessHolds d l.fn.disk (LeavesOnly d.moment d.leaves l.fn.disk l.disk (IsRecoveredInPart x));
    }
