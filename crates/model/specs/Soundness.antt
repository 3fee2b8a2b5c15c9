-- A sound image.
use Rattle.std.specs.Prelude.{◌≡◌, ℕ, ◌==◌, ◌||◌, ◌≢◌, ◌<◌, ◌≤◌, nat_lt, ◌+◌, if◌then◌else◌, IsTrue, All, List, [], ◌∷◌, length}
use Rattle.blocks.specs.Disk.{Image}
use Rattle.model.specs.declared.types.image.Dinode.{Dinode}
use Rattle.model.specs.declared.types.image.Form.{Form}
use Rattle.model.specs.declared.types.image.Pointer.{Pointer}
use Rattle.model.specs.Layout.{form_of, is_known_magic, magic_at, super_of, is_lawful_super, first_data_block, inode_of, greatest_size, is_marked}
use Rattle.model.specs.Log.{logged_count}
use Rattle.model.specs.Places.{pointers_of, numbers_of, places_of}

-- the superblock is that of an image of this size
pub record IsLawfulGeometry (x : Image) : Type 0 where
  pub magic : IsTrue (is_known_magic (magic_at x))
  pub fields : IsTrue (is_lawful_super (super_of x) (length x))

-- a type that there is, and a size that a file can have
pub record IsLawfulInode (form : Form) (d : Dinode) : Type 0 where
  pub kind : d.kind ≤ 3
  pub size : d.kind ≢ 0 → d.size ≤ greatest_size form

-- what the size needs is there
abbrev pub IsFilled : Pointer → Type 0
IsFilled p = IsTrue p.needed → p.address ≢ 0

-- how often a number stands in a list
abbrev pub count_of : ℕ → List ℕ → ℕ
count_of b [] = 0
count_of b (a ∷ rest) = (if a == b then 1 else 0) + count_of b rest

-- how many places a block is at
abbrev pub place_count : Image → ℕ → ℕ
place_count x b = count_of b (places_of x)

-- an empty log, inodes as the format has them, each block at one place at most, and a true bitmap
pub record IsSound (x : Image) : Type 0 where
  pub geometry : IsLawfulGeometry x
  pub empty_log : logged_count x ≡ 0
  pub inodes : All (λ i. IsLawfulInode (form_of x) (inode_of x i)) (numbers_of x)
  pub filled : All (λ i. All IsFilled (pointers_of x i)) (numbers_of x)
  -- each place is a data block of the image
  pub in_data : All (λ a. (first_data_block x ≤ a) × (a < length x)) (places_of x)
  -- no block is at two places
  pub once : (b : ℕ) → place_count x b ≤ 1
  -- the bitmap has the blocks before the data and those at places
  pub marked : (b : ℕ) → b < length x →
      is_marked x b ≡ (nat_lt b (first_data_block x) || nat_lt 0 (place_count x b))
