-- Disk, buffers and log together.
use Rattle.std.specs.Prelude.{◌≡◌, ◌<◌, ◌≤◌, ◌==◌, ◌+◌, ℕ, Bool, true, false, List, [], length, drop, slice_index, if◌then◌else◌, Option, Some, None}
use Rattle.blocks.specs.Block.{zero_block, IsBlock}
use Rattle.blocks.specs.Disk.{Image, block_at}
use Rattle.model.specs.Format.{inode_start}
use Rattle.bcache.specs.Current.{is_of, shows, current}
use Rattle.model.specs.Agreement.{IsSameOutsideLog}
use Rattle.model.specs.Log.{logged_in, homes_in, logged_count, homes_of}
use Rattle.bcache.specs.Buffers.{Buffers, buffer, found, unpinned, IsCache}
use Rattle.wal.specs.declared.types.Commit.{Commit}
use Rattle.wal.specs.declared.types.Part.{Part}
use Rattle.wal.specs.Machine.{LogState, is_among, IsLogAt}

-- the current image: the disk's, with each valid buffer in its block's place
abbrev pub seen : Image → Buffers → Image
seen x c = current x c.slots

-- where the next write of a commit goes
abbrev pub place_at : Commit → List ℕ → ℕ
place_at Commit.Quiet hs = 2
place_at (Commit.Logging k) hs = 3 + k
place_at Commit.Heading hs = 2
place_at (Commit.Homing k) hs = slice_index hs k
place_at Commit.Clearing hs = 2
place_at (Commit.Syncing part) hs = 2

-- what it writes: h is the header with the homes
abbrev pub bytes_at : Commit → List ℕ → List ℕ → Image → List ℕ
bytes_at Commit.Quiet hs h cur = zero_block
bytes_at (Commit.Logging k) hs h cur = block_at cur (slice_index hs k)
bytes_at Commit.Heading hs h cur = h
bytes_at (Commit.Homing k) hs h cur = block_at cur (slice_index hs k)
bytes_at Commit.Clearing hs h cur = zero_block
bytes_at (Commit.Syncing part) hs h cur = zero_block

-- the log after that write
abbrev pub written_at : Commit → LogState → LogState
written_at Commit.Quiet l = l
written_at (Commit.Logging k) l = record l {
  commit = if k + 1 == length l.homes then Commit.Heading else Commit.Logging (k + 1);
}
written_at Commit.Heading l = record l { commit = Commit.Homing 0; committed = l.opened }
written_at (Commit.Homing k) l = record l {
  commit = if k + 1 == length l.homes then Commit.Clearing else Commit.Homing (k + 1);
}
written_at Commit.Clearing l = record l { commit = Commit.Quiet; homes = [] }
written_at (Commit.Syncing part) l = l

-- the same over a disk that holds writes back, where each part waits for its sync
abbrev pub held_at : Commit → LogState → LogState
held_at Commit.Quiet l = l
held_at (Commit.Logging k) l = record l {
  commit = if k + 1 == length l.homes then Commit.Syncing Part.Log else Commit.Logging (k + 1);
}
held_at Commit.Heading l = record l { commit = Commit.Syncing Part.Header }
held_at (Commit.Homing k) l = record l {
  commit = if k + 1 == length l.homes then Commit.Syncing Part.Homes else Commit.Homing (k + 1);
}
held_at Commit.Clearing l = record l { commit = Commit.Syncing Part.Clear }
held_at (Commit.Syncing part) l = l

-- the log after the sync of a part: with that of the header the group is committed
abbrev pub synced_at : Part → LogState → LogState
synced_at Part.Log l = record l { commit = Commit.Heading }
synced_at Part.Header l = record l { commit = Commit.Homing 0; committed = l.opened }
synced_at Part.Homes l = record l { commit = Commit.Clearing }
synced_at Part.Clear l = record l { commit = Commit.Quiet; homes = [] }

-- the log after a step, over a disk that holds writes back or doesn't
abbrev pub stepped_at : Bool → Commit → LogState → LogState
stepped_at holds Commit.Quiet l = l
stepped_at holds (Commit.Logging k) l = record l {
  commit = if k + 1 == length l.homes
      then (if holds then Commit.Syncing Part.Log else Commit.Heading)
      else Commit.Logging (k + 1);
}
stepped_at holds Commit.Heading l = record l {
  commit = if holds then Commit.Syncing Part.Header else Commit.Homing 0;
  committed = if holds then l.committed else l.opened;
}
stepped_at holds (Commit.Homing k) l = record l {
  commit = if k + 1 == length l.homes
      then (if holds then Commit.Syncing Part.Homes else Commit.Clearing)
      else Commit.Homing (k + 1);
}
stepped_at holds Commit.Clearing l = record l {
  commit = if holds then Commit.Syncing Part.Clear else Commit.Quiet;
  homes = if holds then l.homes else [];
}
stepped_at holds (Commit.Syncing part) l = synced_at part l

abbrev pub unpinned_found : Buffers → Option ℕ → Buffers
unpinned_found c None = c
unpinned_found c (Some i) = unpinned c i

-- the buffers after it: a home that was written is unpinned
abbrev pub written_cache : Commit → List ℕ → Buffers → Buffers
written_cache Commit.Quiet hs c = c
written_cache (Commit.Logging k) hs c = c
written_cache Commit.Heading hs c = c
written_cache (Commit.Homing k) hs c = unpinned_found c (found c (slice_index hs k))
written_cache Commit.Clearing hs c = c
written_cache (Commit.Syncing part) hs c = c

-- the homes whose buffers are pinned while a part waits for its sync
abbrev pub live_synced : Part → List ℕ → List ℕ
live_synced Part.Log hs = hs
live_synced Part.Header hs = hs
live_synced Part.Homes hs = drop (length hs) hs
live_synced Part.Clear hs = drop (length hs) hs

-- the homes whose buffers are pinned
abbrev pub live_at : Commit → List ℕ → List ℕ
live_at Commit.Quiet hs = hs
live_at (Commit.Logging k) hs = hs
live_at Commit.Heading hs = hs
live_at (Commit.Homing k) hs = drop k hs
live_at Commit.Clearing hs = drop (length hs) hs
live_at (Commit.Syncing part) hs = live_synced part hs

-- the first k log blocks are the current ones of their homes
abbrev pub Logs : ℕ → Image → Image → List ℕ → Type 0
Logs k x cur hs = (j : ℕ) → j < k → block_at x (3 + j) ≡ block_at cur (slice_index hs j)

pub record HasHeader (x : Image) (hs : List ℕ) : Type 0 where
  pub count : logged_count x ≡ length hs
  pub each : homes_of x ≡ hs

-- a block that is read as a header with these homes
pub record IsHeader (bytes hs : List ℕ) : Type 0 where
  pub count : logged_in bytes ≡ length hs
  pub each : homes_in bytes ≡ hs

-- what reads of the disk give of the group while a part waits for its sync
abbrev pub PhaseSynced : Part → Image → Image → List ℕ → Type 0
PhaseSynced Part.Log x cur hs = (logged_count x ≡ 0) × Logs (length hs) x cur hs
PhaseSynced Part.Header x cur hs = HasHeader x hs × Logs (length hs) x cur hs
PhaseSynced Part.Homes x cur hs = HasHeader x hs × Logs (length hs) x cur hs
PhaseSynced Part.Clear x cur hs = logged_count x ≡ 0

-- what the disk has of the group, in each phase
abbrev pub Phase : Commit → Image → Image → List ℕ → Type 0
Phase Commit.Quiet x cur hs = logged_count x ≡ 0
Phase (Commit.Logging k) x cur hs = (logged_count x ≡ 0) × Logs k x cur hs
Phase Commit.Heading x cur hs = (logged_count x ≡ 0) × Logs (length hs) x cur hs
Phase (Commit.Homing k) x cur hs = HasHeader x hs × Logs (length hs) x cur hs
Phase Commit.Clearing x cur hs = HasHeader x hs × Logs (length hs) x cur hs
Phase (Commit.Syncing part) x cur hs = PhaseSynced part x cur hs

-- the pins of a slot: one where its block is such a home
abbrev pub pins_of : List ℕ → Option ℕ → ℕ
pins_of hs None = 0
pins_of hs (Some b) = if is_among b hs then 1 else 0

-- What is true of disk, buffers and log together, between any two calls.
pub record JointAt (k : Commit) (x : Image) (c : Buffers) (l : LogState) : Type 0 where
  pub size : length x ≡ l.size
  pub cache : IsCache c
  pub log : IsLogAt k l
  -- no block of the log, or past the end, is cached
  pub behind : (i b : ℕ) → is_of b (buffer c i) ≡ true → (inode_start ≤ b) × (b < l.size)
  pub pins : (i : ℕ) → (buffer c i).pins ≡ pins_of (live_at k l.homes) (buffer c i).block
  pub cached : (h : ℕ) → is_among h (live_at k l.homes) ≡ true
      → (i : ℕ) × (i < 40) × (shows h (buffer c i) ≡ true)
  -- nobody has the lock of a slot without a block
  pub held : (i : ℕ) → (buffer c i).block ≡ None → (buffer c i).holder ≡ None
  -- a block that is not pinned is the disk's
  pub clean : (b : ℕ) → is_among b (live_at k l.homes) ≡ false
      → block_at (seen x c) b ≡ block_at x b
  pub phase : Phase k x (seen x c) l.homes

abbrev pub Joint : Image → Buffers → LogState → Type 0
Joint x c l = JointAt l.commit x c l

-- each buffer has the bytes of a block
abbrev pub AreBlocks : Buffers → Type 0
AreBlocks c = (i : ℕ) → IsBlock (buffer c i).bytes

-- the header is the same too: all but the 30 logged blocks
pub record SameButLog (x y : Image) : Type 0 where
  pub outside : IsSameOutsideLog x y
  pub header : block_at y 2 ≡ block_at x 2

-- the bytes of a slot that was found; each home that a commit comes to has one
abbrev pub bytes_found : Buffers → Option ℕ → List ℕ
bytes_found c None = []
bytes_found c (Some i) = (buffer c i).bytes

-- what the next write of a commit is made from
abbrev pub source_at : Commit → List ℕ → List ℕ → Buffers → List ℕ
source_at Commit.Quiet hs h c = zero_block
source_at (Commit.Logging k) hs h c = bytes_found c (found c (slice_index hs k))
source_at Commit.Heading hs h c = h
source_at (Commit.Homing k) hs h c = bytes_found c (found c (slice_index hs k))
source_at Commit.Clearing hs h c = zero_block
source_at (Commit.Syncing part) hs h c = zero_block

-- a slot was found, and has a pin
abbrev pub HasPin : Buffers → Option ℕ → Type 0
HasPin c None = ⊥
HasPin c (Some i) = 0 < (buffer c i).pins

-- the home that is logged or written has a buffer, which is pinned
abbrev pub IsPinned : Commit → List ℕ → Buffers → Type 0
IsPinned Commit.Quiet hs c = Unit {0}
IsPinned (Commit.Logging k) hs c = HasPin c (found c (slice_index hs k))
IsPinned Commit.Heading hs c = Unit {0}
IsPinned (Commit.Homing k) hs c = HasPin c (found c (slice_index hs k))
IsPinned Commit.Clearing hs c = Unit {0}
IsPinned (Commit.Syncing part) hs c = Unit {0}

-- the place of the next write is one of the homes
abbrev pub IsWithin : Commit → List ℕ → Type 0
IsWithin Commit.Quiet hs = Unit {0}
IsWithin (Commit.Logging k) hs = k < length hs
IsWithin Commit.Heading hs = Unit {0}
IsWithin (Commit.Homing k) hs = k < length hs
IsWithin Commit.Clearing hs = Unit {0}
IsWithin (Commit.Syncing part) hs = Unit {0}
