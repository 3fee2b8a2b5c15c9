-- How many groups recovery may keep at most, by what a commit has come to.
use Rattle.std.specs.Prelude.{ℕ, ◌+◌, ◌==◌, if◌then◌else◌, Option, Some, None}
use Rattle.wal.specs.declared.types.Commit.{Commit}
use Rattle.wal.specs.declared.types.DeviceFault.{DeviceFault}
use Rattle.wal.specs.declared.types.DeviceFault.TheVariants.{Block, Sync}
use Rattle.wal.specs.declared.types.Part.{Part}
use Rattle.wal.specs.Volume.{VolumeState}

-- The groups that recovery may keep at most while a header is still to be written: one more than
-- are committed, where that write failed, which is block 2.
abbrev pub most_headed : Option DeviceFault → ℕ → ℕ
most_headed None committed = committed
most_headed (Some (Block fault)) committed = if fault.0 == 2 then committed + 1 else committed
most_headed (Some (Sync fault)) committed = committed

-- and while a part waits for its sync: the header may be on the disk, or not
abbrev pub most_synced : Part → ℕ → ℕ
most_synced Part.Log committed = committed
most_synced Part.Header committed = committed + 1
most_synced Part.Homes committed = committed
most_synced Part.Clear committed = committed

-- The groups that recovery may keep at most.
abbrev pub most_kept : Option DeviceFault → Commit → ℕ → ℕ
most_kept fault Commit.Quiet committed = committed
most_kept fault (Commit.Logging j) committed = committed
most_kept fault Commit.Heading committed = most_headed fault committed
most_kept fault (Commit.Homing j) committed = committed
most_kept fault Commit.Clearing committed = committed
most_kept fault (Commit.Syncing part) committed = most_synced part committed

-- those of a volume
abbrev pub most_of : {D : Type 0} → VolumeState D → ℕ
most_of v = most_kept v.fault v.log.commit v.log.committed
