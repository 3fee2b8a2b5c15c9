-- What a crash may leave in each phase of a commit, beside what reads give. A disk that holds
-- writes back may lose any of those since the last sync.
use Rattle.std.specs.Prelude.{◌≡◌, ◌≢◌, ◌⊎◌, ℕ, Bool, false, IsTrue, List, length}
use Rattle.blocks.specs.Disk.{Image, block_at}
use Rattle.model.specs.Log.{logged_count, is_lawful_log, recovered}
use Rattle.wal.specs.declared.types.Commit.{Commit}
use Rattle.wal.specs.declared.types.Part.{Part}
use Rattle.bcache.specs.Buffers.{Buffers}
use Rattle.wal.specs.Machine.{is_among, is_syncing, LogState}
use Rattle.wal.specs.Joint.{AreBlocks, Joint, SameButLog}
use Rattle.wal.specs.Kept.{TellsHeader}

-- the same but for the header, which logs nothing
pub record IsUnheaded (x z : Image) : Type 0 where
  pub size : length z ≡ length x
  pub agree : (b : ℕ) → b ≢ 2 → block_at z b ≡ block_at x b
  pub none : logged_count z ≡ 0

-- the same but for these blocks
pub record IsSameBesides (homes : List ℕ) (x z : Image) : Type 0 where
  pub size : length z ≡ length x
  pub agree : (b : ℕ) → is_among b homes ≡ false → block_at z b ≡ block_at x b

-- recovery gives the same outside the log's blocks
pub record RecoversAlike (x z : Image) : Type 0 where
  pub lawful : IsTrue (is_lawful_log z)
  pub same : SameButLog (recovered x) (recovered z)

-- while a part waits for its sync
abbrev pub FloatsSynced : Part → Image → List ℕ → Image → Type 0
FloatsSynced Part.Log x hs z = SameButLog x z
FloatsSynced Part.Header x hs z = (z ≡ x) ⊎ IsUnheaded x z
FloatsSynced Part.Homes x hs z = IsSameBesides hs x z
FloatsSynced Part.Clear x hs z = RecoversAlike x z

-- Image z may be left where reads give x. After a sync there is only x.
abbrev pub Floats : Commit → Image → List ℕ → Image → Type 0
Floats Commit.Quiet x hs z = z ≡ x
Floats (Commit.Logging k) x hs z = SameButLog x z
Floats Commit.Heading x hs z = z ≡ x
Floats (Commit.Homing k) x hs z = IsSameBesides hs x z
Floats Commit.Clearing x hs z = z ≡ x
Floats (Commit.Syncing part) x hs z = FloatsSynced part x hs z

-- each image that may be left does so
abbrev pub AreAfloat : Commit → Image → List ℕ → (Image → Type 0) → Type 0
AreAfloat k x hs left = (z : Image) → left z → Floats k x hs z

-- What recovery gives for such an image: the same outside the log's blocks as for what reads give.
-- Only while the header waits for its sync there is the other case, too: an image without it. Its
-- header tells which.
abbrev pub Survives : Commit → Image → Image → Type 0
Survives k x z = (RecoversAlike x z × TellsHeader k z)
    ⊎ ((k ≡ Commit.Syncing Part.Header) × IsUnheaded x z)

-- So it is, and of a disk that holds no writes back no part waits for its sync.
pub record IsAfloat (holds : Bool) (k : Commit) (x : Image) (hs : List ℕ) (left : Image → Type 0)
    : Type 0 where
  pub each : AreAfloat k x hs left
  pub plain : holds ≡ false → is_syncing k ≡ false

-- What is true of a volume whose disk hasn't failed, of this kind, and of which a crash now may
-- leave these images.
pub record IsVolume (holds : Bool) (x : Image) (c : Buffers) (l : LogState) (left : Image → Type 0)
    : Type 0 where
  pub joint : Joint x c l
  pub blocks : AreBlocks c
  pub floats : IsAfloat holds l.commit x l.homes left
