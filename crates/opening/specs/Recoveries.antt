-- What a recovery of a disk's image comes to.
use Rattle.std.specs.Prelude.{◌≡◌, ◌⊎◌, ⊤, ℕ, None}
use Rattle.blocks.specs.Calls.{UnlessHolds}
use Rattle.blocks.specs.Disk.{counted}
use Rattle.blocks.specs.declared.disk.Disk.{Ghosts}
use Rattle.offline.specs.Cause.{IsCause}
use Rattle.model.specs.Log.{logged_count, recovered}
use Rattle.model.specs.Verdict.{verdict}
use Rattle.wal.specs.Recovery.{syncs_to_recover, writes_to_recover}
use Rattle.wal.specs.declared.faults.RecoverFault.TheVariants as recover
use Rattle.kernel.specs.Opening.{IsRecoverCause}
use Rattle.messages.specs.Telling.{Telling, check_telling, recover_telling}
use Rattle.opening.specs.declared.recovering.RecoverRefusal.{RecoverRefusal}
use Rattle.opening.specs.declared.recovering.RecoverRefusal.TheVariants.{Check, Recover}

-- how it is told that an image isn't recovered
abbrev pub unrecovered_telling : RecoverRefusal → Telling
unrecovered_telling (Check fault) = check_telling fault
unrecovered_telling (Recover fault) = recover_telling fault

-- the disk d, now e, was checked and not recovered
abbrev pub IsUnrecovered : {D N : Type 0} → Ghosts D N → D → D → RecoverRefusal → Type 0
IsUnrecovered disk d e (Check fault) =
    IsCause (verdict (disk.image d)) (disk.fault_count d) (disk.fault_count e) fault
    × (disk.image e ≡ disk.image d)
IsUnrecovered disk d e (Recover recover.NoMemory) =
    (verdict (disk.image d) ≡ None) × (disk.image e ≡ disk.image d)
IsUnrecovered disk d e (Recover fault) =
    (verdict (disk.image d) ≡ None) × IsRecoverCause disk d e fault

-- the refusals at which blocks may have been written: a write of the recovery failed, or a sync
abbrev pub MayHaveWritten : RecoverRefusal → Type 0
MayHaveWritten (Recover recover.Disk) = ⊤
MayHaveWritten (Recover recover.Sync) = ⊤
MayHaveWritten _ = ⊥

-- of the disk d, now e, nothing was written but by a recovery that failed
pub record IsUnwritten {D N : Type 0} (disk : Ghosts D N) (d e : D) (r : RecoverRefusal) : Type 0
  where
    pub writes : MayHaveWritten r ⊎ (disk.write_count e ≡ disk.write_count d)
    -- a disk that holds no writes back is not synced
    pub plain : UnlessHolds disk d (disk.sync_count e ≡ disk.sync_count d)

-- the disk of an image without a fault was recovered, with so many blocks copied, and nothing is
-- logged any more
pub record IsRecovered {D N : Type 0} (disk : Ghosts D N) (copied : ℕ) (old new : D) : Type 0 where
  pub sound : verdict (disk.image old) ≡ None
  pub count : copied ≡ logged_count (disk.image old)
  pub image : disk.image new ≡ recovered (disk.image old)
  pub none : logged_count (disk.image new) ≡ 0
  pub writes : disk.write_count new ≡ counted (disk.write_count old) (writes_to_recover copied)
  pub syncs : disk.sync_count new
      ≡ counted (disk.sync_count old) (syncs_to_recover (disk.holding (disk.name old)) copied)
  pub faults : disk.fault_count new ≡ disk.fault_count old
