-- Where a block of a file stands behind the addresses of its inode, and the ways to it.
use Rattle.std.specs.Prelude.{◌≡◌, ◌≢◌, ◌<◌, ℕ, suc, ◌+◌, ◌-◌, ◌/◌, ◌%◌, nat_lt, if◌then◌else◌, List, ◌++◌, slice_index}
use Rattle.blocks.specs.Block.{block_size}
use Rattle.blocks.specs.Disk.{Image}
use Rattle.model.specs.declared.types.image.Dinode.{Dinode}
use Rattle.model.specs.declared.types.image.Form.{Form}
use Rattle.model.specs.declared.types.image.Form.TheVariants.{One, Two}
use Rattle.model.specs.Layout.{direct_count, greatest_size, reach}
use Rattle.model.specs.Places.{address_under}
use Rattle.in_flight.specs.Trees.{entry_of, led_to, way_to}
use Rattle.blockmap.specs.declared.branch.Branch.{Branch}
use Rattle.blockmap.specs.declared.branch.Node.{Node}

-- the blocks that a file of that form can have
abbrev pub block_limit : Form → ℕ
block_limit form = greatest_size form / block_size

-- through so many blocks of addresses one comes to the last of them
abbrev pub deepest : Form → ℕ
deepest One = 1
deepest Two = 2

-- the first stand at the inode's own addresses, the next ones in the block of addresses, and all
-- others behind the block of blocks of addresses
abbrev pub branch_of : Form → ℕ → Branch
branch_of form k =
    let direct = direct_count form in
    if nat_lt k direct then record { index = k; depth = 0; rest = 0 }
    else if nat_lt (k - direct) (reach 1)
    then record { index = direct; depth = 1; rest = k - direct }
    else record { index = direct + 1; depth = 2; rest = k - direct - reach 1 }

-- the block that stands there in an image, 0 for none
abbrev pub address_on : Image → Dinode → Branch → ℕ
address_on x d b = address_under x b.depth b.rest (slice_index d.addrs b.index)

-- ---- the blocks of addresses on the way

-- the entry of a block of addresses below which the block stands, and which of those there it is
abbrev pub entry_under : Node → ℕ
entry_under n = n.rest / reach n.level

abbrev pub rest_under : Node → ℕ
rest_under n = n.rest % reach n.level

-- what the entry says in an image, 0 for no block
abbrev pub named_by : Image → Node → ℕ
named_by x n = entry_of x n.block (entry_under n)

-- Block b of an image, from which so many blocks of addresses lead to the data
abbrev pub node_at : ℕ → ℕ → ℕ → Node
node_at depth rest b = record { block = b; level = depth - 1; rest = rest }

-- A block of addresses lies on the way to the block that stands there: the way's first entries lead
-- to it, and the others on from it.
pub record LiesOnWay (x : Image) (d : Dinode) (b : Branch) (n : Node) : Type 0 where
  pub before : List ℕ
  pub led : led_to x before (slice_index d.addrs b.index) ≡ n.block
  pub there : n.block ≢ 0
  pub reached : n.rest < reach (suc n.level)
  pub way : way_to b.depth b.rest ≡ before ++ way_to (suc n.level) n.rest
