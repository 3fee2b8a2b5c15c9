-- The steps in which a block of a file is sought under a block of addresses.
use Rattle.std.specs.Prelude.{◌≡◌, ◌⊎◌, ◌<◌, ◌≤◌, ℕ, suc, ◌==◌, ◌||◌, if◌then◌else◌, Bool, true, false, Option, Some, None}
use Rattle.blocks.specs.Disk.{Image}
use Rattle.blocks.specs.declared.disk.Disk.{Ghosts}
use Rattle.model.specs.Format.{inode_start}
use Rattle.model.specs.Layout.{reach}
use Rattle.model.specs.Places.{address_under}
use Rattle.wal.specs.Joint.{seen}
use Rattle.wal.specs.Volume.{VolumeState, GetsFor}
use Rattle.blockmap.specs.Branch.{named_by, node_at, rest_under}
use Rattle.blockmap.specs.declared.branch.Node.{Node}
use Rattle.model.specs.declared.types.progress.Progress.{Progress}
use Rattle.blockmap.specs.Getting.{Releases, HoldsWhereGot}

-- Where the seeking stands.
pub record EntryState : Type 0 where
  -- the block of addresses
  pub node : Node
  -- the slot that holds it, where it was got
  pub slot : Option ℕ

-- the seeking that begins there
abbrev pub first_entry : Node → EntryState
first_entry n = record { node = n; slot = None }

-- an address, if there is one
abbrev pub some_address : ℕ → Option ℕ
some_address a = if a == 0 then None else Some a

-- the block of the file in an image, 0 for none
abbrev pub sought_in : Image → EntryState → ℕ
sought_in x m = address_under x (suc m.node.level) m.node.rest m.node.block

-- the seeking below an entry, which names block b
abbrev pub below : EntryState → ℕ → EntryState
below m b = first_entry (node_at m.node.level (rest_under m.node) b)

-- it ends with an entry that names nothing, or a block of data
abbrev pub ends_at : EntryState → ℕ → Bool
ends_at m b = (b == 0) || (m.node.level == 0)

-- a block of addresses of this volume, with an entry on the way
pub record IsNode {D : Type 0} (v : VolumeState D) (n : Node) : Type 0 where
  pub behind : inode_start ≤ n.block
  pub within : n.block < v.log.size
  pub shallow : n.level ≤ 1
  pub reached : n.rest < reach (suc n.level)

-- the block may be sought over this volume
pub record IsReady {D : Type 0} (image : D → Image) (v : VolumeState D) (p : ℕ) (m : EntryState)
    : Type 0 where
  pub node : IsNode v m.node
  pub holds : HoldsWhereGot (seen (image v.device) v.buffers) v.buffers p m.node.block m.slot

abbrev pub with_slot : EntryState → Option ℕ → EntryState
with_slot m s = record m { slot = s }

-- what the entry says is what was sought
pub record Ends (b : ℕ) (m : EntryState) (r : Progress (Option ℕ)) (n : EntryState) : Type 0 where
  pub ends : ends_at m b ≡ true
  pub over : r ≡ Progress.Over (some_address b)
  pub stays : n ≡ m

-- it names a block of addresses, below which it goes on
pub record GoesBelow (b : ℕ) (m : EntryState) (r : Progress (Option ℕ)) (n : EntryState) : Type 0
  where
    pub more : ends_at m b ≡ false
    pub moved : r ≡ Progress.Moved
    pub now : n ≡ below m b

-- A step that seeks the block, by whether the block of addresses was got: it gets that, or it looks
-- at the entry, and releases it.
abbrev pub LooksUp : {D N : Type 0} → Ghosts D N → Option ℕ → VolumeState D → ℕ → EntryState
    → Progress (Option ℕ) → EntryState → VolumeState D → Type 0
LooksUp disk None v p m r n w =
    (n ≡ with_slot m n.slot) × GetsFor disk v p m.node.block r n.slot w
LooksUp disk (Some i) v p m r n w =
    let found = named_by (seen (disk.image v.device) v.buffers) m.node in
    (Ends found m r n ⊎ GoesBelow found m r n) × Releases disk.image v p i w
