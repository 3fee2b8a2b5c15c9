-- What tasks hold of a file's number behind their turn; and of those that give up its blocks, how
-- far each has come.
use Rattle.std.specs.Prelude.{◌≡◌, ◌≢◌, ◌<◌, ◌≤◌, ◌^◌, ℕ, suc, ◌+◌, ◌-◌, ◌*◌, ◌==◌, if◌then◌else◌, IsTrue, List, [], ◌∷◌, ◌++◌, length, replicate, slice_index, Option, Some, None}
use Rattle.blocks.specs.Disk.{Image}
use Rattle.model.specs.Layout.{direct_count, form_of, bitmap_block}
use Rattle.model.specs.Format.{addresses_per_block}
use Rattle.model.specs.declared.types.image.Dinode.{Dinode}
use Rattle.model.specs.declared.types.operations.Attribute.{Attribute}
use Rattle.model.specs.declared.types.operations.Attribute.TheVariants.{Links, Size}
use Rattle.model.specs.declared.types.operations.Op.{Op}
use Rattle.model.specs.declared.types.operations.Op.TheVariants.{Trunc, Remove, SetAttribute}
use Rattle.model.specs.Journal.{is_number}
use Rattle.in_flight.specs.Held.{Held, Claims, Claim, frees, grows, listed, blocks_left}
use Rattle.in_flight.specs.AttributeLaws.{unwritten}
use Rattle.in_flight.specs.Trees.{depth_of, entry_of, led_to}
use Rattle.inodes.specs.declared.freeing.Kept.{Kept}
use Rattle.inodes.specs.declared.freeing.Got.{Got}
use Rattle.inodes.specs.declared.freeing.Freeing.{Freeing}
use Rattle.inodes.specs.declared.itrunc.TruncAt.{TruncAt}
use Rattle.inodes.specs.declared.tasks.Stage.{Stage}
use Rattle.inodes.specs.Growing.{growth_of}
use Rattle.inodes.specs.declared.itrunc.Itrunc.{Itrunc}
use Rattle.inodes.specs.Iupdate.{UpdateState}
use Rattle.inodes.specs.Table.{or_else}
use Rattle.inodes.specs.Tasks.{TaskState}

-- the entries that lead from the inode's address to the block of addresses in hand
abbrev pub way_of : Itrunc → List ℕ
way_of m = listed m.upper

-- what the freeing of a file's blocks holds
abbrev pub held_of : Itrunc → Held
held_of m = record {
  copy = m.inode;
  cursor = way_of m ++ m.given_up ∷ [];
  last_kind = if m.removes then 0 else m.inode.kind;
}

-- what a task with this operation holds of number i, by its stage
abbrev pub claim_by : Option Op → Stage → ℕ → Option Claim
claim_by op Stage.Nowhere i = None
claim_by op (Stage.Creating m) i = None
claim_by op (Stage.Taking m) i = None
claim_by op (Stage.Reading k m) i = None
claim_by op (Stage.Delivering k) i = None
claim_by op (Stage.Truncating k m) i =
    if m.machine.number == i then Some (frees (held_of m.machine)) else None
claim_by op (Stage.Writing k m) i =
    if m.number == i then Some (grows (growth_of m op)) else None
claim_by op (Stage.Setting k d u) i =
    if u.number == i then Some (grows (unwritten d)) else None
claim_by op (Stage.Leaving k) i = None

abbrev pub claim_of : TaskState → ℕ → Option Claim
claim_of t i = claim_by t.op t.stage i

-- for each number what the task holds that holds it; none where no task does
abbrev pub claims_of : List TaskState → Claims
claims_of [] i = None
claims_of (t ∷ ts) i = or_else (claim_of t i) (claims_of ts i)

-- the operation that frees a file's blocks
abbrev pub trunc_op : Itrunc → Op
trunc_op m = if m.removes then Remove m.number else Trunc m.number

-- the inode's address whose block is freed, or those behind it
abbrev pub root_of : Itrunc → ℕ
root_of m = slice_index m.inode.addrs m.slot

-- the block of addresses in hand
abbrev pub hand_in : Image → Itrunc → ℕ
hand_in x m = led_to x (way_of m) (root_of m)

-- none of the inode's addresses before index k is there
abbrev pub AreGivenUp : Itrunc → ℕ → Type 0
AreGivenUp m k = (j : ℕ) → j < k → slice_index m.inode.addrs j ≡ 0

-- a data block that the inode names is freed
pub record IsAtDirect (m : Itrunc) : Type 0 where
  pub direct : m.slot < direct_count m.form
  pub before : AreGivenUp m m.slot
  pub there : root_of m ≢ 0
  pub upper : m.upper ≡ None
  pub given_up : m.given_up ≡ 0

-- a block of addresses is in hand, with some of its entries given up
pub record IsInHand (x : Image) (m : Itrunc) : Type 0 where
  pub tree : direct_count m.form ≤ m.slot
  pub slot : m.slot < 13
  pub before : AreGivenUp m m.slot
  pub there : hand_in x m ≢ 0
  pub level : length (way_of m) < depth_of x m.slot

-- the next entry of it names a data block, which is freed
pub record IsAtEntry (x : Image) (m : Itrunc) : Type 0 where
  pub hand : IsInHand x m
  pub names_data : depth_of x m.slot ≡ suc (length (way_of m))
  pub within : m.given_up < addresses_per_block
  pub there : entry_of x (hand_in x m) m.given_up ≢ 0

-- The freeing of a file's blocks has come so far: what stands before its place was given up.
abbrev pub HasGivenUp : Image → Itrunc → TruncAt → Type 0
HasGivenUp x m TruncAt.Direct = IsAtDirect m
HasGivenUp x m (TruncAt.Loading b) = IsInHand x m × (m.given_up ≡ 0) × (hand_in x m ≡ b)
HasGivenUp x m TruncAt.Entry = IsAtEntry x m
HasGivenUp x m TruncAt.Unloading = IsInHand x m × (m.given_up ≡ addresses_per_block)
HasGivenUp x m TruncAt.Freeing = IsInHand x m × (m.given_up ≡ addresses_per_block)
HasGivenUp x m TruncAt.Updating = m.inode.addrs ≡ replicate 13 0

-- the block above the one in hand
abbrev pub above_by : Option ℕ → ℕ → Option ℕ
above_by None root = None
above_by (Some e) root = Some root

abbrev pub above_hand : Itrunc → Option ℕ
above_hand m = above_by m.upper (root_of m)

-- the block that was kept last, and the one that was kept before it
abbrev pub last_kept : Image → Itrunc → TruncAt → Option ℕ
last_kept x m TruncAt.Direct = None
last_kept x m (TruncAt.Loading b) = above_hand m
last_kept x m TruncAt.Entry = Some (hand_in x m)
last_kept x m TruncAt.Unloading = Some (hand_in x m)
last_kept x m TruncAt.Freeing = above_hand m
last_kept x m TruncAt.Updating = None

abbrev pub first_kept : Itrunc → TruncAt → Option ℕ
first_kept m TruncAt.Direct = None
first_kept m (TruncAt.Loading b) = None
first_kept m TruncAt.Entry = above_hand m
first_kept m TruncAt.Unloading = above_hand m
first_kept m TruncAt.Freeing = None
first_kept m TruncAt.Updating = None

-- a block that was got
abbrev pub block_of_got : Option Got → Option ℕ
block_of_got None = None
block_of_got (Some g) = Some g.block

-- the blocks of addresses are kept while what they name is freed
pub record Keeps (x : Image) (kept : Kept) (m : Itrunc) (at : TruncAt) : Type 0 where
  pub inner : block_of_got kept.inner ≡ last_kept x m at
  pub outer : block_of_got kept.outer ≡ first_kept m at

-- a task frees a file's blocks
pub record IsTruncating (cur : Image) (n : ℕ) (t : TaskState) (m : Freeing) : Type 0 where
  pub op : t.op ≡ Some (trunc_op m.machine)
  pub number : IsTrue (is_number n m.machine.number)
  pub bitmap : m.machine.bitmap ≡ bitmap_block n
  pub form : m.machine.form ≡ form_of cur
  pub slot : m.machine.slot < 13
  pub given : HasGivenUp cur m.machine m.machine.at
  pub keeps : Keeps cur m.kept m.machine m.machine.at

-- a value that its field of an inode has room for
abbrev pub FitsField : Attribute → Type 0
FitsField (Links n) = n < 2 ^ 16
FitsField (Size n) = Unit {0}

-- a task sets an attribute of a file: the inode with it is written back
pub record IsSetting (n : ℕ) (t : TaskState) (u : UpdateState) : Type 0 where
  pub attribute : Attribute
  pub op : t.op ≡ Some (SetAttribute u.number attribute)
  pub number : IsTrue (is_number n u.number)
  pub fits : FitsField attribute

-- ---- how much is left

-- the steps in which a block is got and used
abbrev pub uses_left : Option ℕ → ℕ
uses_left None = 2
uses_left (Some i) = 1

-- one for what was made of a block, where it is there
abbrev pub one_for : Option ℕ → ℕ
one_for None = 0
one_for (Some i) = 1

-- The steps that were made for blocks that are left still: a block of addresses is got, released,
-- and freed as a data block is; that of the bitmap is got, and used
abbrev pub made_so_far : Option ℕ → Option ℕ → TruncAt → ℕ
made_so_far upper used TruncAt.Direct = one_for used
made_so_far upper used (TruncAt.Loading b) = one_for upper
made_so_far upper used TruncAt.Entry = 1 + one_for upper + one_for used
made_so_far upper used TruncAt.Unloading = 1 + one_for upper
made_so_far upper used TruncAt.Freeing = 2 + one_for upper + one_for used
made_so_far upper used TruncAt.Updating = one_for used

-- what counts for the stage: four, less those steps
abbrev pub stage_left : Option ℕ → Option ℕ → TruncAt → ℕ
stage_left upper used at = 4 - made_so_far upper used at

-- the steps that are left at most: four for each block that is still to be given up, and those of
-- the stage
abbrev pub truncs_left : Image → Freeing → ℕ
truncs_left x m =
    4 * blocks_left x (held_of m.machine) + stage_left m.machine.upper m.used m.machine.at
