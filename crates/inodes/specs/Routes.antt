-- Routes from an inode to the blocks of addresses behind it.
use Rattle.std.specs.Prelude.{ℕ, ◌==◌, if◌then◌else◌, List, [], ◌∷◌, ◌++◌, slice_index}
use Rattle.blocks.specs.Disk.{Image}
use Rattle.model.specs.declared.types.image.Dinode.{Dinode}
use Rattle.in_flight.specs.Trees.{led_to, way_to}
use Rattle.blockmap.specs.declared.branch.Branch.{Branch}

-- It begins at that address of the inode, and goes on by entries of blocks of addresses.
pub record Route : Type 0 where
  pub index : ℕ
  pub entries : List ℕ

-- the block of addresses to which it leads in an image, 0 for none
abbrev pub node_by : Image → Dinode → Route → ℕ
node_by x d r = led_to x r.entries (slice_index d.addrs r.index)

abbrev pub nodes_by : Image → Dinode → List Route → List ℕ
nodes_by x d [] = []
nodes_by x d (r ∷ rs) = node_by x d r ∷ nodes_by x d rs

-- the routes to the blocks of addresses on a way that goes on behind these entries
abbrev pub routes_on : ℕ → List ℕ → List ℕ → List Route
routes_on index before [] = []
routes_on index before (e ∷ way) =
    record { index = index; entries = before } ∷ routes_on index (before ++ e ∷ []) way

-- without those that another way has as well, which begins there too
abbrev pub routes_past : ℕ → List ℕ → List ℕ → List ℕ → List Route
routes_past index before [] way = routes_on index before way
routes_past index before (e ∷ other) [] = []
routes_past index before (e ∷ other) (f ∷ way) =
    if e == f then routes_past index (before ++ f ∷ []) other way
    else routes_on index (before ++ f ∷ []) way

-- those on the way to the block at a branch
abbrev pub routes_to : Branch → List Route
routes_to b = routes_on b.index [] (way_to b.depth b.rest)

-- and those of them that are not on the way to the block at another
abbrev pub routes_beyond : Branch → Branch → List Route
routes_beyond other b =
    if other.index == b.index
    then routes_past b.index [] (way_to other.depth other.rest) (way_to b.depth b.rest)
    else routes_to b
