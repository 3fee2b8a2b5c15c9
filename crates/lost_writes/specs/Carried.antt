-- The steps of a commit, carried to a device that may be stale, and may lose and tear writes.
use Rattle.std.specs.Prelude.{◌≡◌, ◌≢◌, ◌⊎◌, ◌+◌, ◌<◌, ◌≤◌, ◌∷◌, ◌++◌, [], ℕ, true, List, length, Option, Some, None}
use Rattle.blocks.specs.Block.{zero_block}
use Rattle.blocks.specs.Disk.{Image, block_at}
use Rattle.blocks.specs.Held.{Write, applied}
use Rattle.blocks.specs.declared.disk.Disk.{Ghosts}
use Rattle.model.specs.Codec.{header_block}
use Rattle.model.specs.Format.{inode_start, log_start}
use Rattle.model.specs.Log.{cleared, recovered}
use Rattle.model.specs.declared.types.operations.Step.{Step}
use Rattle.ports.specs.declared.herald.Herald as herald_trait
use Rattle.ports.specs.declared.intake.Intake as intake_trait
use Rattle.wal.specs.Deeds.{commit_deed, commit_of}
use Rattle.wal.specs.Joint.{Joint, seen}
use Rattle.wal.specs.Machine.{LogState}
use Rattle.wal.specs.Volume.{VolumeCommits, VolumeState, fault_of_step}
use Rattle.wal.specs.declared.deeds.CommitDeed.{CommitDeed}
use Rattle.wal.specs.declared.types.Commit.{Commit}
use Rattle.wal.specs.declared.types.Committed.{Committed}
use Rattle.wal.specs.declared.types.Part.{Part}
use Rattle.kernel.specs.Deeds.{next_deed}
use Rattle.kernel.specs.Known.{Known}
use Rattle.kernel.specs.State.{State}
use Rattle.kernel.specs.Steps.{MakesStep}
use Rattle.kernel.specs.Theorem.{IsRecoveredRun}
use Rattle.lost_writes.specs.Device.{TornImages}
use Rattle.lost_writes.specs.Stale.{IsStale, RecoversTo}

-- a device: what it has since its last sync, and the writes since then
pub record Ledger : Type 0 where
  pub synced : Image
  pub held : List Write

-- one write more
abbrev pub noted : Ledger → ℕ → List ℕ → Ledger
noted l b bytes = record l { held = l.held ++ (b, bytes) ∷ [] }

-- what a step of a commit does that was told, of these homes and where this is the current image
abbrev pub after_deed : List ℕ → Image → Option CommitDeed → Ledger → Ledger
after_deed homes cur None l = l
after_deed homes cur (Some (CommitDeed.LogBlock place home)) l =
    noted l (log_start + 1 + place) (block_at cur home)
after_deed homes cur (Some (CommitDeed.Header count group)) l =
    noted l log_start (header_block homes)
after_deed homes cur (Some (CommitDeed.Home b)) l = noted l b (block_at cur b)
after_deed homes cur (Some CommitDeed.Clear) l = noted l log_start zero_block
after_deed homes cur (Some (CommitDeed.Sync part)) l =
    record { synced = applied l.synced l.held; held = [] }

-- how many of the log's blocks the device has as reads give them, once all is written
abbrev pub settled_at : Commit → List ℕ → ℕ
settled_at Commit.Quiet homes = 0
settled_at (Commit.Logging k) homes = k
settled_at Commit.Heading homes = length homes
settled_at (Commit.Homing k) homes = length homes
settled_at Commit.Clearing homes = length homes
settled_at (Commit.Syncing part) homes = length homes

-- the device has what reads give, but for blocks of the log behind the first n
pub record IsSettledTo (n : ℕ) (x z : Image) : Type 0 where
  pub size : length z ≡ length x
  pub agree : (b : ℕ) → (b < log_start + 1 + n) ⊎ (inode_start ≤ b) → block_at z b ≡ block_at x b

-- P holds where the next write is of the header
abbrev pub AtHeader : Commit → Type 0 → Type 0
AtHeader Commit.Quiet P = Unit {0}
AtHeader (Commit.Logging k) P = Unit {0}
AtHeader Commit.Heading P = P
AtHeader (Commit.Homing k) P = Unit {0}
AtHeader Commit.Clearing P = P
AtHeader (Commit.Syncing part) P = Unit {0}

-- while a part waits for its sync
abbrev pub LeavesPart : Part → Image → Image → Type 0
LeavesPart Part.Log x w = IsStale x w
LeavesPart Part.Header x w = RecoversTo (recovered x) w ⊎ RecoversTo (cleared x) w
LeavesPart Part.Homes x w = IsStale x w
LeavesPart Part.Clear x w = RecoversTo (recovered x) w

-- what the device may have at a stop, where reads give x
abbrev pub LeavesAt : Commit → Image → Image → Type 0
LeavesAt Commit.Quiet x w = IsStale x w
LeavesAt (Commit.Logging k) x w = IsStale x w
LeavesAt Commit.Heading x w = IsStale x w
LeavesAt (Commit.Homing k) x w = IsStale x w
LeavesAt Commit.Clearing x w = IsStale x w
LeavesAt (Commit.Syncing part) x w = LeavesPart part x w

-- a device to which all steps so far were carried
pub record CarriesAt (k : Commit) (homes : List ℕ) (x : Image) (l : Ledger) : Type 0 where
  pub all : IsSettledTo (settled_at k homes) x (applied l.synced l.held)
  pub none : AtHeader k (l.held ≡ [])
  pub each : (w : Image) → TornImages l.synced l.held w → LeavesAt k x w

abbrev pub Carries : Image → LogState → Ledger → Type 0
Carries x log l = CarriesAt log.commit log.homes x l

-- A STEP OF A COMMIT that succeeds, over a disk that holds writes back, is carried on as it was
-- told
abbrev pub CommitCarries : {D N : Type 0} → Ghosts D N → Type 0
CommitCarries {D} disk = (v w : VolumeState D) (r : Committed) (l : Ledger) →
    disk.holding (disk.name v.device) ≡ true → fault_of_step r ≡ None →
    Joint (disk.image v.device) v.buffers v.log → VolumeCommits disk v r w →
    Carries (disk.image v.device) v.log l →
    Carries (disk.image w.device) w.log
    (after_deed v.log.homes (seen (disk.image v.device) v.buffers) (commit_deed v.log) l)

-- A STEP OF A KERNEL that doesn't halt, of any process: what its deed told is carried on, and where
-- that is nothing, nothing is
abbrev pub KernelCarries : {D N I M H : Type 0} → Ghosts D N → intake_trait.Ghosts I M
    → herald_trait.Ghosts H → Type 0
KernelCarries {D} {N} {I} {M} {H} disk intake herald =
    (k m : State D I H) (p : ℕ) (r : Step) (l : Ledger) →
    disk.holding (disk.name k.store.volume.device) ≡ true → r ≢ Step.Halted →
    Joint (disk.image k.store.volume.device) k.store.volume.buffers k.store.volume.log →
    MakesStep disk intake herald p r k m →
    Carries (disk.image k.store.volume.device) k.store.volume.log l →
    Carries (disk.image m.store.volume.device) m.store.volume.log
    (after_deed k.store.volume.log.homes
    (seen (disk.image k.store.volume.device) k.store.volume.buffers) (commit_of (next_deed k p)) l)

-- A STOP leaves on such a device what is recovered as reads are, or, only where the header waits
-- for its sync, as they are without it
abbrev pub Endures : Commit → Image → Image → Type 0
Endures k x w = RecoversTo (recovered x) w
    ⊎ ((k ≡ Commit.Syncing Part.Header) × RecoversTo (cleared x) w)

-- A STOP OF A KERNEL whose disk works, to whose steps such a device was carried: what the device
-- has is recovered to the files after the committed groups, as the recovery theorem says it of the
-- disk's own image; or, only while the header waits for its sync, as that image is without it
abbrev pub KernelEndures : {D N I M H : Type 0} → Ghosts D N → intake_trait.Ghosts I M
    → herald_trait.Ghosts H → Type 0
KernelEndures {D} {N} {I} {M} {H} disk intake herald =
    (m : State D I H) (l : Ledger) (w : Image) → m.store.volume.fault ≡ None →
    Known disk intake herald m →
    Joint (disk.image m.store.volume.device) m.store.volume.buffers m.store.volume.log →
    Carries (disk.image m.store.volume.device) m.store.volume.log l →
    TornImages l.synced l.held w →
    IsRecoveredRun (disk.image m.opening) m.store.volume.log.committed m (recovered w)
    ⊎ ((m.store.volume.log.commit ≡ Commit.Syncing Part.Header)
    × RecoversTo (cleared (disk.image m.store.volume.device)) w)
