-- What a machine gets or uses next, on its way to a block of a file.
use Rattle.std.specs.Prelude.{◌≡◌, ◌<◌, ◌≤◌, ◌+◌, ◌*◌, ℕ, Bool, true, false, is_none, if◌then◌else◌, Option, None}
use Rattle.blocks.specs.Disk.{Image}
use Rattle.blocks.specs.declared.disk.Disk.{Ghosts}
use Rattle.model.specs.Format.{inode_start}
use Rattle.model.specs.declared.types.image.Dinode.{Dinode}
use Rattle.model.specs.declared.types.image.Form.{Form}
use Rattle.model.specs.declared.types.image.Form.TheVariants.{One, Two}
use Rattle.model.specs.Layout.{form_of}
use Rattle.model.specs.Places.{address_in}
use Rattle.wal.specs.Joint.{seen}
use Rattle.wal.specs.Volume.{VolumeState, GetsFor}
use Rattle.blockmap.specs.Bmap.{EntryState, IsReady, LooksUp}
use Rattle.blockmap.specs.Branch.{LiesOnWay, branch_of}
use Rattle.blockmap.specs.Getting.{HoldsWhereGot}
use Rattle.blockmap.specs.Map.{mapped, address_or_zero}
use Rattle.blockmap.specs.declared.mapping.Mapped.{Mapped}
use Rattle.model.specs.Progress.{one_more}
use Rattle.model.specs.declared.types.progress.Progress.{Progress}
use Rattle.blockmap.specs.declared.target.Target.{Target}

-- what leads to a block of a file
abbrev pub target_mapped : Mapped → Target
target_mapped (Mapped.At found) = Target.Block (address_or_zero found) None
target_mapped (Mapped.Behind entry) = Target.Entry entry

abbrev pub target_for : Form → Dinode → ℕ → Target
target_for form d k = target_mapped (mapped form d k)

-- an entry has to be read
abbrev pub is_entry : Target → Bool
is_entry (Target.Entry entry) = true
is_entry (Target.Block b slot) = false

-- the slot that holds the target's block, where it was got
abbrev pub got_slot : Target → Option ℕ
got_slot (Target.Entry entry) = None
got_slot (Target.Block b slot) = slot

-- the block that is got or used next
abbrev pub block_of : Target → ℕ
block_of (Target.Entry entry) = entry.node.block
block_of (Target.Block b slot) = b

-- the slot that holds it, where it was got
abbrev pub slot_in : Target → Option ℕ
slot_in (Target.Entry entry) = entry.slot
slot_in (Target.Block b slot) = slot

-- it leads to block k of an inode's file in an image: it is that block, or lies on the way to it
abbrev pub LeadsToBlock : Image → Dinode → ℕ → Target → Type 0
LeadsToBlock x d k (Target.Entry entry) = LiesOnWay x d (branch_of (form_of x) k) entry.node
LeadsToBlock x d k (Target.Block b slot) = b ≡ address_in x d k

-- the process holds what was got
abbrev pub HoldsTarget : {D : Type 0} → (D → Image) → VolumeState D → ℕ → Target → Type 0
HoldsTarget image v p (Target.Entry entry) = IsReady image v p entry
HoldsTarget image v p (Target.Block b slot) =
    HoldsWhereGot (seen (image v.device) v.buffers) v.buffers p b slot

-- the target leads to block k of an inode's file in the current image, and may be used
pub record LeadsTo {D : Type 0} (image : D → Image) (v : VolumeState D) (p : ℕ) (d : Dinode)
    (k : ℕ) (t : Target) : Type 0 where
  pub block : LeadsToBlock (seen (image v.device) v.buffers) d k t
  pub holds : HoldsTarget image v p t

-- the block may be sought over this volume
abbrev pub IsSought : {D : Type 0} → (D → Image) → VolumeState D → ℕ → Target → Type 0
IsSought image v p (Target.Entry entry) = IsReady image v p entry
IsSought image v p (Target.Block b slot) = (slot ≡ None) × (inode_start ≤ b) × (b < v.log.size)

-- the target then: the block, once the entry was seen
abbrev pub target_behind : Progress (Option ℕ) → EntryState → Target
target_behind Progress.Moved entry = Target.Entry entry
target_behind (Progress.Sleeping why) entry = Target.Entry entry
target_behind (Progress.Over found) entry = Target.Block (address_or_zero found) None
target_behind (Progress.Fault fault) entry = Target.Entry entry

-- a step of the entry's reading
pub record LooksUpFor {D N : Type 0} (disk : Ghosts D N) (v : VolumeState D) (p : ℕ)
    (e : EntryState) (r : Progress (Unit {0})) (t : Target) (w : VolumeState D) : Type 0 where
  pub answer : Progress (Option ℕ)
  pub entry : EntryState
  pub looks : LooksUp disk e.slot v p e answer entry w
  pub gives : r ≡ one_more answer
  pub target : t ≡ target_behind answer entry

-- a step that seeks a target's block: one of the entry's reading, or it gets the block
abbrev pub Seeks : {D N : Type 0} → Ghosts D N → Target → VolumeState D → ℕ
    → Progress (Unit {0}) → Target → VolumeState D → Type 0
Seeks disk (Target.Entry entry) v p r t w = LooksUpFor disk v p entry r t w
Seeks disk (Target.Block b slot) v p r t w =
    (got : Option ℕ) × (t ≡ Target.Block b got) × GetsFor disk v p b r got w

-- at most so many steps lead from a target to the use of its block, this one included
abbrev pub steps_at : Target → ℕ
steps_at (Target.Entry entry) = 2 * entry.node.level + (if is_none entry.slot then 4 else 3)
steps_at (Target.Block b slot) = if is_none slot then 2 else 1

-- so many are enough for each of n blocks of a file
abbrev pub steps_for : Form → ℕ → ℕ
steps_for One n = 4 * n
steps_for Two n = 6 * n
