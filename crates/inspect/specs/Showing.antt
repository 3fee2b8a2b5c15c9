-- What `show` prints of the blocks of a file.
use Rattle.std.specs.Prelude.{◌≡◌, ℕ, ◌==◌, if◌then◌else◌, Bool, true, false, IsSome, List, ◌++◌, codes, decimal}
use Rattle.std.specs.List.{flat_map}
use Rattle.blocks.specs.Disk.{Image}
use Rattle.json_lines.specs.Arrays.{elements_behind}
use Rattle.json_lines.specs.Fields.{first_number, number_field}
use Rattle.model.specs.Files.{file_in, files_of}
use Rattle.inspect.specs.declared.owned.Owned.{Owned}
use Rattle.inspect.specs.Owned.{owned_of}

-- the number of a block, and whether it is one of addresses
abbrev pub block_line : Owned → List ℕ
block_line o =
    decimal o.block ++ (if o.depth == 0 then codes "\n" else codes " addresses\n")

abbrev pub blocks_text : List Owned → List ℕ
blocks_text blocks = flat_map block_line blocks

-- the object of a block: its number, and how many blocks of addresses one goes through from it to
-- the data
unfoldable pub block_object : Owned → List ℕ
block_object o =
    first_number (codes "block") o.block ++ number_field (codes "depth") o.depth ++ codes "}"

-- the beginning of the object of a file of that number
unfoldable pub file_head : ℕ → List ℕ
file_head i = first_number (codes "inode") i ++ codes ",\"blocks\":["

-- the object, with an array of its blocks
unfoldable pub file_object : ℕ → List Owned → List ℕ
file_object i blocks =
    file_head i ++ elements_behind block_object 0 blocks ++ codes "]}\n"

-- blocks of a file as JSON, or as lines of text
abbrev pub blocks_in : Bool → ℕ → List Owned → List ℕ
blocks_in true i blocks = file_object i blocks
blocks_in false i blocks = blocks_text blocks

-- the blocks that the file of number i owns, in their order, as JSON or as text
abbrev pub file_text : Bool → Image → ℕ → List ℕ
file_text json x i = blocks_in json i (owned_of x i)

-- there is a file of number i, and these are its blocks
pub record IsOwnedBy (x : Image) (i : ℕ) (blocks : List Owned) : Type 0 where
  pub there : IsSome (file_in (files_of x) i)
  pub all : blocks ≡ owned_of x i
