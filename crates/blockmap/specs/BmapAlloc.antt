-- The steps in which a writer comes to a block of a file.
use Rattle.std.specs.Prelude.{◌≡◌, ◌<◌, ℕ, ◌==◌, if◌then◌else◌, length, slice_set, Option, Some, None}
use Rattle.blocks.specs.Disk.{Image}
use Rattle.blocks.specs.declared.disk.Disk.{Ghosts}
use Rattle.model.specs.declared.types.image.Dinode.{Dinode}
use Rattle.in_flight.specs.Held.{with_address}
use Rattle.wal.specs.Joint.{seen}
use Rattle.wal.specs.Volume.{VolumeState, Holds, GetsFor}
use Rattle.blockmap.specs.Balloc.{AllocState, Allocs, MayAlloc, first_alloc}
use Rattle.blockmap.specs.Bmap.{IsNode, some_address}
use Rattle.blockmap.specs.Branch.{LiesOnWay, address_on, entry_under, named_by, node_at, rest_under}
use Rattle.blockmap.specs.Getting.{HoldsWhereGot, Releases, WritesBlock}
use Rattle.blockmap.specs.declared.bmap_alloc.MapAt.{MapAt}
use Rattle.blockmap.specs.declared.branch.Branch.{Branch}
use Rattle.blockmap.specs.declared.branch.Node.{Node}
use Rattle.model.specs.declared.types.progress.Progress.{Progress}

-- Where a writer's way to a block of a file stands.
pub record MapState : Type 0 where
  -- where the block stands behind the inode's addresses
  pub branch : Branch
  -- the bitmap's block, and the image's size in blocks
  pub bitmap : ℕ
  pub size : ℕ
  pub at : MapAt

-- ---- what a step asks

-- what the process holds, by where the way stands
abbrev pub MayMapAt : {D : Type 0} → (D → Image) → VolumeState D → ℕ → MapAt → Type 0
MayMapAt image v p (MapAt.Address t) = MayAlloc image v p t
MayMapAt image v p (MapAt.Entry n slot) =
    IsNode v n × HoldsWhereGot (seen (image v.device) v.buffers) v.buffers p n.block slot
MayMapAt image v p (MapAt.Behind n i t) =
    IsNode v n × MayAlloc image v p t
    × Holds (seen (image v.device) v.buffers) v.buffers p n.block i
MayMapAt image v p (MapAt.Setting n i found) =
    IsNode v n × Holds (seen (image v.device) v.buffers) v.buffers p n.block i

-- the next step may be made over this volume
pub record MayMap {D : Type 0} (image : D → Image) (v : VolumeState D) (p : ℕ) (m : MapState)
    (d : Dinode) : Type 0 where
  pub index : m.branch.index < 13
  pub addrs : length d.addrs ≡ 13
  pub at : MayMapAt image v p m.at

-- ---- what it does

-- A block was come to, from which so many blocks of addresses lead to the data. It is the file's,
-- or the way goes on with its entry
abbrev pub come_to : ℕ → ℕ → Progress (Option ℕ)
come_to depth b = if depth == 0 then Progress.Over (Some b) else Progress.Moved

abbrev pub place_in : MapAt → ℕ → ℕ → ℕ → MapAt
place_in at depth rest b = if depth == 0 then at else MapAt.Entry (node_at depth rest b) None

-- A step of the taking t of a block, by what it answers: `after` says what the way answers, `place`
-- where it stands then, and `inode` what the inode is.
pub record TakesOne {D N : Type 0} (disk : Ghosts D N) (v : VolumeState D) (p : ℕ) (m : MapState)
    (t : AllocState) (after : Progress (Option ℕ) → Progress (Option ℕ))
    (place : Progress (Option ℕ) → AllocState → MapAt) (inode : Progress (Option ℕ) → Dinode)
    (r : Progress (Option ℕ)) (n : MapState) (e : Dinode) (w : VolumeState D) : Type 0 where
  pub answer : Progress (Option ℕ)
  pub now : AllocState
  pub allocs : Allocs disk t.at v p t answer now w
  pub gives : r ≡ after answer
  pub next : n ≡ record m { at = place answer now }
  pub named : e ≡ inode answer

-- the inode, which names a block at that index once one was taken
abbrev pub naming : Dinode → ℕ → Progress (Option ℕ) → Dinode
naming d index Progress.Moved = d
naming d index (Progress.Sleeping why) = d
naming d index (Progress.Over None) = d
naming d index (Progress.Over (Some b)) = record d { addrs = slice_set d.addrs index b }
naming d index (Progress.Fault fault) = d

-- the block that is taken for the inode itself to name was come to
abbrev pub after_address : Branch → Progress (Option ℕ) → Progress (Option ℕ)
after_address b Progress.Moved = Progress.Moved
after_address b (Progress.Sleeping why) = Progress.Sleeping why
after_address b (Progress.Over None) = Progress.Over None
after_address b (Progress.Over (Some a)) = come_to b.depth a
after_address b (Progress.Fault fault) = Progress.Fault fault

abbrev pub address_at : Branch → Progress (Option ℕ) → AllocState → MapAt
address_at b Progress.Moved t = MapAt.Address t
address_at b (Progress.Sleeping why) t = MapAt.Address t
address_at b (Progress.Over None) t = MapAt.Address t
address_at b (Progress.Over (Some a)) t = place_in (MapAt.Address t) b.depth b.rest a
address_at b (Progress.Fault fault) t = MapAt.Address t

-- that for an entry has to be named there first
abbrev pub after_behind : Progress (Option ℕ) → Progress (Option ℕ)
after_behind Progress.Moved = Progress.Moved
after_behind (Progress.Sleeping why) = Progress.Sleeping why
after_behind (Progress.Over found) = Progress.Moved
after_behind (Progress.Fault fault) = Progress.Fault fault

abbrev pub behind_at : Node → ℕ → Progress (Option ℕ) → AllocState → MapAt
behind_at n i Progress.Moved t = MapAt.Behind n i t
behind_at n i (Progress.Sleeping why) t = MapAt.Behind n i t
behind_at n i (Progress.Over found) t = MapAt.Setting n i found
behind_at n i (Progress.Fault fault) t = MapAt.Behind n i t

-- the block that an entry names was come to
abbrev pub ComesBelow : MapState → Node → ℕ → Progress (Option ℕ) → MapState → Type 0
ComesBelow m n b r k =
    (r ≡ come_to n.level b) × (k ≡ record m { at = place_in m.at n.level (rest_under n) b })

-- The step that reads the entry of block of addresses n, which slot i holds: where it names a block
-- that is come to, and the block of addresses is released; else it is kept.
abbrev pub FindsEntry : {D N : Type 0} → Ghosts D N → Option ℕ → VolumeState D → ℕ → Node → ℕ
    → MapState → Progress (Option ℕ) → MapState → VolumeState D → Type 0
FindsEntry disk None v p n i m r k w =
    (r ≡ Progress.Moved) × (k ≡ record m { at = MapAt.Behind n i (first_alloc m.bitmap m.size) })
    × (w ≡ v)
FindsEntry disk (Some b) v p n i m r k w =
    ComesBelow m n b r k × Releases disk.image v p i w

-- an image in which the entry names block b
abbrev pub with_entry_under : Image → Node → ℕ → Image
with_entry_under x n b = with_address x n.block (entry_under n) b

-- The block of addresses n in slot i is released. Where a block was found its entry is set, and that
-- block is come to.
abbrev pub SetsEntry : {D N : Type 0} → Ghosts D N → Option ℕ → VolumeState D → ℕ → Node → ℕ
    → MapState → Progress (Option ℕ) → MapState → VolumeState D → Type 0
SetsEntry disk None v p n i m r k w =
    (r ≡ Progress.Over None) × (k ≡ m) × Releases disk.image v p i w
SetsEntry disk (Some b) v p n i m r k w =
    ComesBelow m n b r k × WritesBlock disk v p i n.block
    (with_entry_under (seen (disk.image v.device) v.buffers) n b) w

-- WHAT A STEP DOES, by where the way stands. The inode is d before it, and e behind it.
abbrev pub MapSteps : {D N : Type 0} → Ghosts D N → MapAt → VolumeState D → ℕ → MapState → Dinode
    → Progress (Option ℕ) → MapState → Dinode → VolumeState D → Type 0
MapSteps disk (MapAt.Address t) v p m d r k e w =
    TakesOne disk v p m t (after_address m.branch) (address_at m.branch)
    (naming d m.branch.index) r k e w
MapSteps disk (MapAt.Entry n None) v p m d r k e w =
    (s : Option ℕ) × GetsFor disk v p n.block r s w
    × (k ≡ record m { at = MapAt.Entry n s }) × (e ≡ d)
MapSteps disk (MapAt.Entry n (Some i)) v p m d r k e w =
    FindsEntry disk (some_address (named_by (seen (disk.image v.device) v.buffers) n))
    v p n i m r k w × (e ≡ d)
MapSteps disk (MapAt.Behind n i t) v p m d r k e w =
    TakesOne disk v p m t after_behind (behind_at n i) (λ answer. d) r k e w
MapSteps disk (MapAt.Setting n i found) v p m d r k e w =
    SetsEntry disk found v p n i m r k w × (e ≡ d)

-- ---- what the way comes to

-- the block of addresses at hand, if there is one, lies on the way to the block at that branch
abbrev pub IsLed : Image → Dinode → Branch → MapAt → Type 0
IsLed x d b (MapAt.Address t) = Unit {0}
IsLed x d b (MapAt.Entry n slot) = LiesOnWay x d b n
IsLed x d b (MapAt.Behind n i t) = LiesOnWay x d b n
IsLed x d b (MapAt.Setting n i found) = LiesOnWay x d b n

-- it is the file's block: the inode leads there in the image as it is then
abbrev pub LeadsThere : {D : Type 0} → (D → Image) → Progress (Option ℕ) → Branch → MapAt → Dinode
    → VolumeState D → Type 0
LeadsThere image Progress.Moved b at e w = Unit {0}
LeadsThere image (Progress.Sleeping why) b at e w = Unit {0}
LeadsThere image (Progress.Over None) b at e w = Unit {0}
LeadsThere image (Progress.Over (Some a)) b at e w =
    IsLed (seen (image w.device) w.buffers) e b at
    → address_on (seen (image w.device) w.buffers) e b ≡ a
LeadsThere image (Progress.Fault fault) b at e w = Unit {0}
