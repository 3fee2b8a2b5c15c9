-- What the writing of a file's bytes holds of its number, and how far it has come.
use Rattle.std.specs.Prelude.{◌≡◌, ◌≢◌, ◌⊎◌, ◌<◌, ℕ, ◌/◌, Bool, true, false, List, [], replicate, take, slice_index, Option, Some, None}
use Rattle.blocks.specs.Disk.{Image, block_at}
use Rattle.blocks.specs.Block.{block_size, zero_block}
use Rattle.model.specs.declared.types.image.Dinode.{Dinode}
use Rattle.model.specs.declared.types.operations.Op.{Op}
use Rattle.model.specs.declared.types.operations.Op.TheVariants.{Create, Write, Read, Trunc, Remove, Stat, SetAttribute}
use Rattle.model.specs.Operations.{transfer_limit}
use Rattle.model.specs.Places.{address_in}
use Rattle.in_flight.specs.Held.{Growth}
use Rattle.blockmap.specs.Balloc.{AllocState}
use Rattle.blockmap.specs.BmapAlloc.{MapState}
use Rattle.blockmap.specs.Branch.{LiesOnWay, branch_of, named_by}
use Rattle.blockmap.specs.declared.balloc.AllocAt.{AllocAt}
use Rattle.blockmap.specs.declared.bmap_alloc.MapAt.{MapAt}
use Rattle.blockmap.specs.declared.branch.Branch.{Branch}
use Rattle.blockmap.specs.declared.branch.Node.{Node}
use Rattle.inodes.specs.Writei.{WriteState, next_byte}
use Rattle.inodes.specs.declared.writei.Extent.{Extent}
use Rattle.inodes.specs.declared.writei.WriteAt.{WriteAt}

-- the zeroes of which a longer length adds the first ones. No tactic opens them: they are many
unfoldable pub zeroes : List ℕ
zeroes = replicate transfer_limit 0

-- the bytes that an operation writes; those of any other are none
abbrev pub bytes_of : Op → List ℕ
bytes_of (Create kind) = []
bytes_of (Write i off bytes) = bytes
bytes_of (Read i off n) = []
bytes_of (Trunc i) = []
bytes_of (Remove i) = []
bytes_of (Stat i) = []
bytes_of (SetAttribute i a) = zeroes

abbrev pub bytes_by : Option Op → List ℕ
bytes_by None = []
bytes_by (Some op) = bytes_of op

-- ---- what it holds

-- the block that was taken and that nothing names yet
abbrev pub taken_at : AllocAt → Option ℕ
taken_at (AllocAt.Looking slot) = None
taken_at (AllocAt.Zeroing b slot) = Some b

abbrev pub taken_on_way : MapAt → Option ℕ
taken_on_way (MapAt.Address t) = taken_at t.at
taken_on_way (MapAt.Entry n slot) = None
taken_on_way (MapAt.Behind n i t) = taken_at t.at
taken_on_way (MapAt.Setting n i found) = found

abbrev pub taken_by : WriteAt → Option ℕ
taken_by (WriteAt.Mapping way) = taken_on_way way.at
taken_by (WriteAt.Block b slot) = None
taken_by (WriteAt.Updating u) = None

-- a longer length adds its bytes where the file ends
abbrev pub is_addition : Option Op → Bool
is_addition None = false
is_addition (Some (Create kind)) = false
is_addition (Some (Write i off bytes)) = false
is_addition (Some (Read i off n)) = false
is_addition (Some (Trunc i)) = false
is_addition (Some (Remove i)) = false
is_addition (Some (Stat i)) = false
is_addition (Some (SetAttribute i a)) = true

-- the claim of a task that writes the bytes of this operation
abbrev pub growth_of : WriteState → Option Op → Growth
growth_of m op = record {
  copy = m.inode;
  taken = taken_by m.at;
  offset = m.offset;
  at_end = is_addition op;
  written = take m.done (bytes_by op);
}

-- ---- how far it has come

-- the file's block of the next byte
abbrev pub next_block : WriteState → ℕ
next_block m = next_byte m / block_size

-- a block is taken where the writing takes them
pub record TakesIn (e : Extent) (t : AllocState) : Type 0 where
  pub bitmap : t.bitmap ≡ e.bitmap
  pub size : t.size ≡ e.size

-- a block of addresses lies on the way to the block at that branch, and its entry there is missing
abbrev pub HasNoEntry : Image → Dinode → Branch → Node → Type 0
HasNoEntry cur d b n = LiesOnWay cur d b n × (named_by cur n ≡ 0)

-- the block that was taken is one of zeroes
abbrev pub IsZeroed : Image → Option ℕ → Type 0
IsZeroed cur None = Unit {0}
IsZeroed cur (Some b) = block_at cur b ≡ zero_block

-- how far it leads, and what isn't there, by where the way stands
abbrev pub IsOnWay : Image → Dinode → Extent → Branch → MapAt → Type 0
IsOnWay cur d e b (MapAt.Address t) = (slice_index d.addrs b.index ≡ 0) × TakesIn e t
IsOnWay cur d e b (MapAt.Entry n slot) = LiesOnWay cur d b n
IsOnWay cur d e b (MapAt.Behind n i t) = HasNoEntry cur d b n × TakesIn e t
IsOnWay cur d e b (MapAt.Setting n i found) = HasNoEntry cur d b n × IsZeroed cur found

-- the way leads to the block of the next byte
pub record IsMapping (cur : Image) (m : WriteState) (way : MapState) : Type 0 where
  pub branch : way.branch ≡ branch_of m.extent.form (next_block m)
  pub bitmap : way.bitmap ≡ m.extent.bitmap
  pub size : way.size ≡ m.extent.size
  pub at : IsOnWay cur m.inode m.extent way.branch way.at

-- The writing has come so far: to the block of the next byte, or to its end, where all bytes are
-- written, or no block was left for the next ones.
abbrev pub HasComeTo : Image → WriteState → WriteAt → Type 0
HasComeTo cur m (WriteAt.Mapping way) = (m.done < m.count) × IsMapping cur m way
HasComeTo cur m (WriteAt.Block b slot) =
    (m.done < m.count) × (address_in cur m.inode (next_block m) ≡ b) × (b ≢ 0)
HasComeTo cur m (WriteAt.Updating u) =
    (u.number ≡ m.number)
    × ((m.done ≡ m.count) ⊎ (address_in cur m.inode (next_block m) ≡ 0))
