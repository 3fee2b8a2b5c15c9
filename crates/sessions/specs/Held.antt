-- What a stop may leave of a session's disk, which holds writes back or doesn't.
use Rattle.std.specs.Prelude.{◌≡◌, ◌⊎◌, ◌-◌, ◌^◌, ◌<◌, ◌≤◌, ℕ, min, Bool, true, false, List, [], ◌∷◌, length}
use Rattle.blocks.specs.Disk.{Image, IsImage, block_at}
use Rattle.sessions.specs.Track.{Call, blocks_at, moment_of, synced, written}

-- these bytes are block b of one of the images
abbrev pub HaveBlock : List Image → ℕ → List ℕ → Type 0
HaveBlock [] b bytes = ⊥
HaveBlock (z ∷ older) b bytes = (bytes ≡ block_at z b) ⊎ HaveBlock older b bytes

-- each block of x is that of y, or of one of the older images
pub record IsMix (y : Image) (older : List Image) (x : Image) : Type 0 where
  pub size : length x ≡ length y
  pub each : (b : ℕ) → (block_at x b ≡ block_at y b) ⊎ HaveBlock older b (block_at x b)

abbrev pub before_call : Bool → Image → List Image → List Image
before_call true z older = []
before_call false z older = z ∷ older

-- the images that the disk had since its last sync, but for the one of now, and none of a disk that
-- holds no write back
abbrev pub since_sync : Bool → List Call → List Image
since_sync false cs = []
since_sync true [] = []
since_sync true (call ∷ cs) = before_call call.1 call.0 (since_sync true cs)

-- A stop now may leave this image: each block is as now, or as it was at some time since the last
-- sync.
abbrev pub MayLeave : Bool → Image → List Call → Image → Type 0
MayLeave holds y cs x = IsMix y (since_sync holds cs) x

-- the same of a stop at that moment or later
abbrev pub LeftSince : Bool → Image → List Call → ℕ → Image → Type 0
LeftSince holds y [] t x = MayLeave holds y [] x
LeftSince holds y (call ∷ cs) t x =
    MayLeave holds y (call ∷ cs) x ⊎ ((t ≤ moment_of cs) × LeftSince holds call.0 cs t x)

-- whole blocks, so many of them
pub record IsWhole (size : ℕ) (x : Image) : Type 0 where
  pub image : IsImage x
  pub size_is : length x ≡ size

-- so was the disk before each call
abbrev pub WereWhole : ℕ → List Call → Type 0
WereWhole size cs = (k : ℕ) → k < length cs → IsWhole size (blocks_at cs k)

-- the counts of a disk with these calls, which stay at their limit
pub record IsCounted (writes syncs : ℕ) (cs : List Call) : Type 0 where
  pub writes_are : writes ≡ min (written cs) (2 ^ 64 - 1)
  pub syncs_are : syncs ≡ min (synced cs) (2 ^ 64 - 1)
