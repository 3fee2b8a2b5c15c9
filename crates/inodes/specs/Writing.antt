-- The tasks that write a file's bytes, behind their turn: how far each has come, what it has got
-- and logged, and how much is left.
use Rattle.std.specs.Prelude.{◌≡◌, ◌<◌, ◌≤◌, ℕ, ◌+◌, ◌-◌, ◌*◌, ◌/◌, ◌==◌, if◌then◌else◌, IsTrue, List, [], ◌∷◌, ◌++◌, length, Option, Some, None}
use Rattle.blocks.specs.Disk.{Image}
use Rattle.blocks.specs.Block.{block_size}
use Rattle.model.specs.declared.types.image.Form.{Form}
use Rattle.model.specs.declared.types.image.Form.TheVariants.{One, Two}
use Rattle.model.specs.declared.types.operations.Attribute.{Attribute}
use Rattle.model.specs.declared.types.operations.Attribute.TheVariants.{Links, Size}
use Rattle.model.specs.declared.types.operations.Op.{Op}
use Rattle.model.specs.declared.types.operations.Op.TheVariants.{Create, Write, Read, Trunc, Remove, Stat, SetAttribute}
use Rattle.model.specs.Journal.{is_number}
use Rattle.model.specs.Layout.{form_of, inode_block, greatest_size, bitmap_block}
use Rattle.model.specs.Operations.{transfer_limit}
use Rattle.wal.specs.Machine.{LogState, is_among, used_by}
use Rattle.blockmap.specs.Balloc.{AllocState}
use Rattle.blockmap.specs.Branch.{branch_of}
use Rattle.blockmap.specs.declared.balloc.AllocAt.{AllocAt}
use Rattle.blockmap.specs.declared.bmap_alloc.MapAt.{MapAt}
use Rattle.blockmap.specs.declared.branch.Branch.{Branch}
use Rattle.inodes.specs.declared.writei.Extent.{Extent}
use Rattle.inodes.specs.declared.writei.WriteAt.{WriteAt}
use Rattle.inodes.specs.Growing.{HasComeTo}
use Rattle.inodes.specs.Holding.{uses_left}
use Rattle.inodes.specs.Routes.{Route, nodes_by, routes_beyond, routes_to}
use Rattle.inodes.specs.Tasks.{TaskState}
use Rattle.inodes.specs.Writei.{WriteState, piece}

-- where blocks are taken in an image of that form, of n inode numbers and so many blocks
abbrev pub extent_of : Form → ℕ → ℕ → Extent
extent_of form n size = record { form = form; bitmap = bitmap_block n; size = size }

-- the attribute of a file that a writing adds: a length behind the place where it begins
abbrev pub Lengthens : Attribute → WriteState → Type 0
Lengthens (Links n) m = ⊥
Lengthens (Size n) m = (m.offset < n) × (n ≡ m.offset + m.count)

-- what an operation writes, which is a write or a longer length
abbrev pub Writes : Op → WriteState → Type 0
Writes (Create kind) m = ⊥
Writes (Write i off bytes) m = (i ≡ m.number) × (off ≡ m.offset) × (length bytes ≡ m.count)
Writes (Read i off n) m = ⊥
Writes (Trunc i) m = ⊥
Writes (Remove i) m = ⊥
Writes (Stat i) m = ⊥
Writes (SetAttribute i a) m = (i ≡ m.number) × Lengthens a m

-- a task writes a file's bytes
pub record IsWriting (cur : Image) (n : ℕ) (t : TaskState) (m : WriteState) : Type 0 where
  pub op : Op
  pub is : t.op ≡ Some op
  pub writes : Writes op m
  pub number : IsTrue (is_number n m.number)
  pub few : m.count ≤ transfer_limit
  pub done : m.done ≤ m.count
  pub fits : m.offset + m.count ≤ greatest_size m.extent.form
  pub extent : m.extent ≡ extent_of (form_of cur) n (length cur)
  pub come : HasComeTo cur m m.at

-- ---- what it has got

-- the slot that the taking of a block has got, and the block that it gets or uses next
abbrev pub slot_of_alloc : AllocAt → Option ℕ
slot_of_alloc (AllocAt.Looking slot) = slot
slot_of_alloc (AllocAt.Zeroing b slot) = slot

abbrev pub block_of_alloc : AllocState → AllocAt → ℕ
block_of_alloc t (AllocAt.Looking slot) = t.bitmap
block_of_alloc t (AllocAt.Zeroing b slot) = b

-- the block of addresses at hand, which is kept while a block is taken for an entry of it; 0 for
-- none
abbrev pub node_on_way : MapAt → ℕ
node_on_way (MapAt.Address t) = 0
node_on_way (MapAt.Entry n slot) = n.block
node_on_way (MapAt.Behind n i t) = n.block
node_on_way (MapAt.Setting n i found) = n.block

abbrev pub node_of_write : WriteAt → ℕ
node_of_write (WriteAt.Mapping way) = node_on_way way.at
node_of_write (WriteAt.Block b slot) = 0
node_of_write (WriteAt.Updating u) = 0

-- the slot that keeps it
abbrev pub kept_on_way : MapAt → Option ℕ
kept_on_way (MapAt.Address t) = None
kept_on_way (MapAt.Entry n slot) = slot
kept_on_way (MapAt.Behind n i t) = Some i
kept_on_way (MapAt.Setting n i found) = Some i

abbrev pub kept_by_write : WriteAt → Option ℕ
kept_by_write (WriteAt.Mapping way) = kept_on_way way.at
kept_by_write (WriteAt.Block b slot) = None
kept_by_write (WriteAt.Updating u) = None

-- the slot that is used next
abbrev pub used_on_way : MapAt → Option ℕ
used_on_way (MapAt.Address t) = slot_of_alloc t.at
used_on_way (MapAt.Entry n slot) = None
used_on_way (MapAt.Behind n i t) = slot_of_alloc t.at
used_on_way (MapAt.Setting n i found) = None

abbrev pub used_by_write : WriteAt → Option ℕ
used_by_write (WriteAt.Mapping way) = used_on_way way.at
used_by_write (WriteAt.Block b slot) = slot
used_by_write (WriteAt.Updating u) = u.slot

-- the block that is got or used next
abbrev pub block_on_way : MapAt → ℕ
block_on_way (MapAt.Address t) = block_of_alloc t t.at
block_on_way (MapAt.Entry n slot) = n.block
block_on_way (MapAt.Behind n i t) = block_of_alloc t t.at
block_on_way (MapAt.Setting n i found) = n.block

abbrev pub block_of_write : WriteAt → ℕ
block_of_write (WriteAt.Mapping way) = block_on_way way.at
block_of_write (WriteAt.Block b slot) = b
block_of_write (WriteAt.Updating u) = inode_block u.number

-- ---- how much is left

-- so many blocks of the file come behind the one at hand
abbrev pub blocks_behind : WriteState → ℕ
blocks_behind m = (m.count - (m.done + piece m) + (block_size - 1)) / block_size

-- the steps of taking a block: the bitmap's block is got and used, and then the block itself
abbrev pub alloc_left : AllocAt → ℕ
alloc_left (AllocAt.Looking slot) = uses_left slot + 2
alloc_left (AllocAt.Zeroing b slot) = uses_left slot

-- the steps to a block of the file: seven for each block of addresses on the way to it
abbrev pub way_left : Branch → MapAt → ℕ
way_left b (MapAt.Address t) = alloc_left t.at + 7 * b.depth
way_left b (MapAt.Entry n slot) = uses_left slot + 7 * n.level + 5
way_left b (MapAt.Behind n i t) = alloc_left t.at + 7 * n.level + 1
way_left b (MapAt.Setting n i found) = 7 * n.level + 1

-- the steps for so many blocks of the file
abbrev pub writes_for : Form → ℕ → ℕ
writes_for One n = 13 * n
writes_for Two n = 20 * n

-- the steps that are left at most: those to the block at hand and the two at it, those for each one
-- behind it, and two for the inode
abbrev pub writes_left_at : WriteState → WriteAt → ℕ
writes_left_at m (WriteAt.Mapping way) =
    way_left way.branch way.at + writes_for m.extent.form (blocks_behind m) + 4
writes_left_at m (WriteAt.Block b slot) =
    uses_left slot + writes_for m.extent.form (blocks_behind m) + 2
writes_left_at m (WriteAt.Updating u) = uses_left u.slot

abbrev pub writes_left : WriteState → ℕ
writes_left m = writes_left_at m m.at

-- ---- what it logged

-- 1 for a block that is a home of the open group
abbrev pub counted : LogState → ℕ → ℕ
counted l b = if b == 0 then 0 else if is_among b l.homes then 1 else 0

-- how many of them are
abbrev pub counted_of : LogState → List ℕ → ℕ
counted_of l [] = 0
counted_of l (b ∷ bs) = counted l b + counted_of l bs

-- where the first of the file's blocks stands that are to be written, and where the last one does
abbrev pub first_branch : WriteState → Branch
first_branch m = branch_of m.extent.form (m.offset / block_size)

abbrev pub last_branch : WriteState → Branch
last_branch m = branch_of m.extent.form ((m.offset + m.count - 1) / block_size)

-- the routes to the blocks of addresses on the ways to the first block and to the last one, on which
-- those to all others lie; what both ways share counts once
abbrev pub routes_of : WriteState → List Route
routes_of m =
    if m.count == 0 then []
    else routes_to (first_branch m) ++ routes_beyond (first_branch m) (last_branch m)

-- what the writing may log beside the file's blocks: the bitmap's block and these blocks of addresses
abbrev pub homes_beside : Image → WriteState → List ℕ
homes_beside cur m = m.extent.bitmap ∷ nodes_by cur m.inode (routes_of m)

-- so many at most
abbrev pub most_beside : Form → ℕ
most_beside One = 2
most_beside Two = 4

-- THE MOST BLOCKS that an operation logs: a creation that of its inode, a write four of its file, those
-- beside and that of its inode, what frees blocks the bitmap's and that of its inode, and what sets an attribute
-- that of the inode
abbrev pub most_logged : Form → Op → ℕ
most_logged form (Create kind) = 1
most_logged form (Write i off bytes) = 5 + most_beside form
most_logged form (Read i off n) = 0
most_logged form (Trunc i) = 2
most_logged form (Remove i) = 2
most_logged form (Stat i) = 0
most_logged form (SetAttribute i (Links n)) = 1
most_logged form (SetAttribute i (Size n)) = 5 + most_beside form

-- the block that was taken and that no block of addresses names yet, or the data block at hand; 0
-- for none
abbrev pub hand_on_way : MapAt → ℕ
hand_on_way (MapAt.Address t) = 0
hand_on_way (MapAt.Entry n slot) = 0
hand_on_way (MapAt.Behind n i t) = 0
hand_on_way (MapAt.Setting n i None) = 0
hand_on_way (MapAt.Setting n i (Some b)) = b

abbrev pub at_hand : WriteAt → ℕ
at_hand (WriteAt.Mapping way) = hand_on_way way.at
at_hand (WriteAt.Block b slot) = b
at_hand (WriteAt.Updating u) = 0

-- the blocks of the file that are to be written, the one at hand included
abbrev pub blocks_left : WriteState → WriteAt → ℕ
blocks_left m (WriteAt.Mapping way) = blocks_behind m + 1
blocks_left m (WriteAt.Block b slot) = blocks_behind m + 1
blocks_left m (WriteAt.Updating u) = 0

-- its operation is open in the log
pub record HasOpen (l : LogState) (p : ℕ) : Type 0 where
  pub homes : ℕ
  pub used : used_by l p ≡ Some homes

-- It added a home for each block of the file that it wrote, four at most, and for the block at hand
-- and those beside, where these are homes.
abbrev pub HasLoggedWrite : Image → LogState → ℕ → WriteState → Type 0
HasLoggedWrite cur l p m = (homes : ℕ) → used_by l p ≡ Some homes →
    homes + blocks_left m m.at
    ≤ 4 + counted_of l (homes_beside cur m) + counted l (at_hand m.at)
