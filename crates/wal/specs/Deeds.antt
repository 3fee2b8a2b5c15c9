-- What a step does, and what it makes of the disk.
use Rattle.std.specs.Prelude.{◌≡◌, ◌+◌, ℕ, List, length, slice_index, slice_set, Option, Some, None}
use Rattle.blocks.specs.Block.{zero_block}
use Rattle.blocks.specs.Disk.{block_at, one_more}
use Rattle.blocks.specs.declared.disk.Disk.{Ghosts}
use Rattle.model.specs.Codec.{header_block}
use Rattle.wal.specs.declared.deeds.CommitDeed.{CommitDeed}
use Rattle.wal.specs.declared.deeds.Deed.{Deed}
use Rattle.wal.specs.declared.deeds.TaskDeed.{TaskDeed}
use Rattle.wal.specs.declared.types.Commit.{Commit}
use Rattle.wal.specs.Joint.{seen}
use Rattle.wal.specs.Machine.{LogState}
use Rattle.wal.specs.Volume.{VolumeState}

-- ---- what is told

-- what the next step of a commit does that stands there; none where no commit is under way
abbrev pub deed_at : Commit → LogState → Option CommitDeed
deed_at Commit.Quiet l = None
deed_at (Commit.Logging k) l = Some (CommitDeed.LogBlock k (slice_index l.homes k))
deed_at Commit.Heading l = Some (CommitDeed.Header (length l.homes) l.opened)
deed_at (Commit.Homing k) l = Some (CommitDeed.Home (slice_index l.homes k))
deed_at Commit.Clearing l = Some CommitDeed.Clear
deed_at (Commit.Syncing part) l = Some (CommitDeed.Sync part)

abbrev pub commit_deed : LogState → Option CommitDeed
commit_deed l = deed_at l.commit l

-- a block is got, or used in the slot where it was got
abbrev pub with_block : Option ℕ → ℕ → TaskDeed
with_block None b = TaskDeed.Get b
with_block (Some i) b = TaskDeed.Use b

-- what of it is a commit's
abbrev pub commit_of : Option Deed → Option CommitDeed
commit_of None = None
commit_of (Some Deed.Begin) = None
commit_of (Some (Deed.Task deed)) = None
commit_of (Some Deed.End) = None
commit_of (Some (Deed.Commit deed)) = Some deed

-- ---- what is done

-- nothing was written or synced
pub record WritesNothing {D N : Type 0} (disk : Ghosts D N) (d e : D) : Type 0 where
  pub image : disk.image e ≡ disk.image d
  pub writes : disk.write_count e ≡ disk.write_count d
  pub syncs : disk.sync_count e ≡ disk.sync_count d

-- one write was made, of these bytes to block b
pub record WritesBlock {D N : Type 0} (disk : Ghosts D N) (b : ℕ) (bytes : List ℕ) (d e : D)
    : Type 0 where
  pub image : disk.image e ≡ slice_set (disk.image d) b bytes
  pub writes : disk.write_count e ≡ one_more (disk.write_count d)
  pub syncs : disk.sync_count e ≡ disk.sync_count d

-- one sync was made
pub record SyncsOnce {D N : Type 0} (disk : Ghosts D N) (d e : D) : Type 0 where
  pub image : disk.image e ≡ disk.image d
  pub writes : disk.write_count e ≡ disk.write_count d
  pub syncs : disk.sync_count e ≡ one_more (disk.sync_count d)

-- The header was written that names the homes of the log's group, as many as were told, and it is
-- the group that was told.
pub record WritesHeader {D N : Type 0} (disk : Ghosts D N) (count group : ℕ) (l : LogState)
    (d e : D) : Type 0 where
  pub write : WritesBlock disk 2 (header_block l.homes) d e
  pub count_is : count ≡ length l.homes
  pub group_is : group ≡ l.opened

-- A step of a commit did what was told: a log block and a home are written with what the current
-- image has at the home.
abbrev pub DoesCommit : {D N : Type 0} → Ghosts D N → CommitDeed → VolumeState D → D → Type 0
DoesCommit disk (CommitDeed.LogBlock place home) v e =
    WritesBlock disk (3 + place) (block_at (seen (disk.image v.device) v.buffers) home) v.device e
DoesCommit disk (CommitDeed.Header count group) v e =
    WritesHeader disk count group v.log v.device e
DoesCommit disk (CommitDeed.Home b) v e =
    WritesBlock disk b (block_at (seen (disk.image v.device) v.buffers) b) v.device e
DoesCommit disk CommitDeed.Clear v e = WritesBlock disk 2 zero_block v.device e
DoesCommit disk (CommitDeed.Sync part) v e = SyncsOnce disk v.device e

-- WHAT WAS TOLD WAS DONE to the disk of a volume, and nothing else
abbrev pub DoesAs : {D N : Type 0} → Ghosts D N → Option CommitDeed → VolumeState D → D → Type 0
DoesAs disk None v e = WritesNothing disk v.device e
DoesAs disk (Some deed) v e = DoesCommit disk deed v e
