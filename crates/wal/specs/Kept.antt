-- What recovery gives before and after a write of a commit.
use Rattle.std.specs.Prelude.{◌≡◌, ◌≢◌, ◌⊎◌, slice_set}
use Rattle.blocks.specs.Block.{zero_block}
use Rattle.blocks.specs.Disk.{Image}
use Rattle.model.specs.Log.{logged_count, recovered}
use Rattle.wal.specs.declared.types.Commit.{Commit}
use Rattle.wal.specs.declared.types.Part.{Part}
use Rattle.wal.specs.Joint.{SameButLog}

-- the same while a part waits for its sync
abbrev pub CommittedSynced : Part → Image → Image → Type 0
CommittedSynced Part.Log x cur = recovered x ≡ x
CommittedSynced Part.Header x cur = SameButLog (slice_set cur 2 zero_block) (recovered x)
CommittedSynced Part.Homes x cur = SameButLog (slice_set cur 2 zero_block) (recovered x)
CommittedSynced Part.Clear x cur = recovered x ≡ x

-- Before the header is written, recovery gives the image as it is; from then on, the current image
-- with an empty header.
abbrev pub Committed : Commit → Image → Image → Type 0
Committed Commit.Quiet x cur = recovered x ≡ x
Committed (Commit.Logging k) x cur = recovered x ≡ x
Committed Commit.Heading x cur = recovered x ≡ x
Committed (Commit.Homing k) x cur = SameButLog (slice_set cur 2 zero_block) (recovered x)
Committed Commit.Clearing x cur = SameButLog (slice_set cur 2 zero_block) (recovered x)
Committed (Commit.Syncing part) x cur = CommittedSynced part x cur

-- A write in this phase turned x into y: but for the header with the homes, recovery gives the same
-- outside the log blocks.
abbrev pub KeepsCommitted : Commit → Image → Image → Image → Type 0
KeepsCommitted Commit.Quiet x cur y = SameButLog (recovered x) (recovered y)
KeepsCommitted (Commit.Logging k) x cur y = SameButLog (recovered x) (recovered y)
KeepsCommitted Commit.Heading x cur y = SameButLog (slice_set cur 2 zero_block) (recovered y)
KeepsCommitted (Commit.Homing k) x cur y = SameButLog (recovered x) (recovered y)
KeepsCommitted Commit.Clearing x cur y = SameButLog (recovered x) (recovered y)
KeepsCommitted (Commit.Syncing part) x cur y = SameButLog (recovered x) (recovered y)

-- What the header of an image tells that may be left before the next step of a commit: nothing
-- while it is still to be written, and homes while it waits for its sync.
abbrev pub TellsSynced : Part → Image → Type 0
TellsSynced Part.Log z = Unit {0}
TellsSynced Part.Header z = logged_count z ≢ 0
TellsSynced Part.Homes z = Unit {0}
TellsSynced Part.Clear z = Unit {0}

abbrev pub TellsHeader : Commit → Image → Type 0
TellsHeader Commit.Quiet z = Unit {0}
TellsHeader (Commit.Logging k) z = Unit {0}
TellsHeader Commit.Heading z = logged_count z ≡ 0
TellsHeader (Commit.Homing k) z = Unit {0}
TellsHeader Commit.Clearing z = Unit {0}
TellsHeader (Commit.Syncing part) z = TellsSynced part z

-- and one in which the write of the header got through
abbrev pub TellsWritten : Commit → Image → Type 0
TellsWritten Commit.Quiet z = Unit {0}
TellsWritten (Commit.Logging k) z = Unit {0}
TellsWritten Commit.Heading z = logged_count z ≢ 0
TellsWritten (Commit.Homing k) z = Unit {0}
TellsWritten Commit.Clearing z = Unit {0}
TellsWritten (Commit.Syncing part) z = Unit {0}

-- A crash at such a write leaves what is recovered as before, or what the write keeps; at the
-- header its count of homes tells which.
abbrev pub CrashKeeps : Commit → Image → Image → Image → Type 0
CrashKeeps k x cur z = ((recovered z ≡ recovered x) × TellsHeader k z)
    ⊎ (KeepsCommitted k x cur z × TellsWritten k z)
