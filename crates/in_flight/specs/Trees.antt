-- An inode's blocks as trees of addresses: the ways that lead to them, and what is left of them
-- while they are given up one by one.
use Rattle.std.specs.Prelude.{◌≡◌, ◌≢◌, ◌⊎◌, ℕ, zero, suc, ◌+◌, ◌*◌, ◌/◌, ◌%◌, ◌<◌, ◌==◌, if◌then◌else◌, List, [], ◌∷◌, ◌++◌, length, drop, slice_index}
use Rattle.std.specs.List.{flat_map}
use Rattle.blocks.specs.Disk.{Image, block_at}
use Rattle.model.specs.declared.types.image.Dinode.{Dinode}
use Rattle.model.specs.Fields.{words_of}
use Rattle.model.specs.Layout.{depths, form_of, reach}
use Rattle.model.specs.Names.{names_under, names_along}
use Rattle.model.specs.Soundness.{count_of}

-- the entry of a block of addresses
abbrev pub entry_of : Image → ℕ → ℕ → ℕ
entry_of x a e = slice_index (words_of (block_at x a)) e

-- how many blocks of addresses one goes through from an inode's address to the data
abbrev pub depth_of : Image → ℕ → ℕ
depth_of x slot = slice_index (depths (form_of x)) slot

-- ---- the ways to blocks

-- the block to which a way of entries leads from an address, 0 for none
abbrev pub led_to : Image → List ℕ → ℕ → ℕ
led_to x [] a = a
led_to x (e ∷ way) a = if a == 0 then 0 else led_to x way (entry_of x a e)

-- how many of the data blocks behind an address come before the one to which a way leads
abbrev pub place_under : List ℕ → ℕ
place_under [] = 0
place_under (e ∷ way) = e * reach (length way) + place_under way

-- the way to the data block at place k behind an address of that depth
abbrev pub way_to : ℕ → ℕ → List ℕ
way_to zero k = []
way_to (suc depth) k = k / reach depth ∷ way_to depth (k % reach depth)

-- how many data blocks addresses of those depths lead to, before that address
abbrev pub place_along : List ℕ → ℕ → ℕ
place_along [] slot = 0
place_along (depth ∷ depths) zero = 0
place_along (depth ∷ depths) (suc slot) = reach depth + place_along depths slot

-- the place among a file's blocks of the one to which a way leads from the inode's address
abbrev pub place_of : Image → ℕ → List ℕ → ℕ
place_of x slot way = place_along (depths (form_of x)) slot + place_under way

-- ---- what is left

-- What is left under an address. The cursor says how many entries were given up at each level; what
-- the next of them has is left as the rest of the cursor says
abbrev pub left_under : Image → ℕ → List ℕ → ℕ → List ℕ
left_under x zero cursor address = if address == 0 then [] else address ∷ []
left_under x (suc depth) [] address = names_under x (suc depth) address
left_under x (suc depth) (e ∷ cursor) address =
    if address == 0 then []
    else address
    ∷ (left_under x depth cursor (entry_of x address e)
    ++ flat_map (λ a. names_under x depth a) (drop (suc e) (words_of (block_at x address))))

-- and along the addresses of an inode. The cursor is that of the first block of addresses that is
-- there
abbrev pub left_along : Image → List ℕ → List ℕ → List ℕ → List ℕ
left_along x cursor [] addresses = []
left_along x cursor (depth ∷ depths) [] = []
left_along x cursor (zero ∷ depths) (a ∷ addresses) =
    (if a == 0 then [] else a ∷ []) ++ left_along x cursor depths addresses
left_along x cursor (suc depth ∷ depths) (a ∷ addresses) =
    if a == 0 then left_along x cursor depths addresses
    else left_under x (suc depth) cursor a ++ names_along x depths addresses

-- what is left of the blocks that an inode names
abbrev pub names_left : Image → Dinode → List ℕ → List ℕ
names_left x d cursor = left_along x cursor (depths (form_of x)) d.addrs

-- the address is there, and no block of addresses stands before it
pub record IsFirstTree (x : Image) (d : Dinode) (slot : ℕ) : Type 0 where
  pub there : slice_index d.addrs slot ≢ 0
  pub tree : depth_of x slot ≢ 0
  pub before : (k : ℕ) → k < slot → depth_of x k ≢ 0 → slice_index d.addrs k ≡ 0

-- Block b is the next that is given up under an address, and the cursor is then the new one: all
-- under the entry was given up but b itself, or b is the next under the entry
abbrev pub Gives : Image → ℕ → List ℕ → ℕ → ℕ → List ℕ → Type 0
Gives x zero cursor a b new = ⊥
Gives x (suc depth) [] a b new = ⊥
Gives x (suc depth) (e ∷ cursor) a b new =
    (a ≢ 0)
    × (((left_under x depth cursor (entry_of x a e) ≡ b ∷ []) × (new ≡ suc e ∷ []))
    ⊎ ((t : List ℕ) × Gives x depth cursor (entry_of x a e) b t × (new ≡ e ∷ t)))

-- two cursors leave the same
abbrev pub LeavesAlike : Image → Dinode → List ℕ → List ℕ → Type 0
LeavesAlike x d these others =
    (b : ℕ) → count_of b (names_left x d these) ≡ count_of b (names_left x d others)
