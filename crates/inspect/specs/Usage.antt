-- What `df` prints of how much of an image is used.
use Rattle.std.specs.Prelude.{ℕ, ◌-◌, Bool, true, false, List, ◌++◌, length, codes, decimal}
use Rattle.blocks.specs.Disk.{Image}
use Rattle.model.specs.Files.{file_count, files_of}
use Rattle.model.specs.Layout.{super_of}
use Rattle.model.specs.Log.{recovered}
use Rattle.json_lines.specs.Fields.{first_number, number_field}
use Rattle.inspect.specs.Owned.{owned_by_all}
use Rattle.inspect.specs.declared.usage.Usage.{Usage}

-- how many there are, how many of them are used, and how many are left
abbrev pub line_text : List ℕ → ℕ → ℕ → List ℕ
line_text what all used =
    what ++ codes " " ++ decimal all ++ codes " used " ++ decimal used ++ codes " free "
    ++ decimal (all - used) ++ codes "\n"

abbrev pub usage_lines : Usage → List ℕ
usage_lines usage =
    line_text (codes "blocks") usage.blocks usage.used_blocks
    ++ line_text (codes "inodes") usage.inodes usage.used_inodes

-- how many blocks there are, how many of them are used, and how many are left, as fields of JSON
unfoldable pub block_fields : ℕ → ℕ → List ℕ
block_fields all used =
    first_number (codes "blocks") all ++ number_field (codes "used_blocks") used
    ++ number_field (codes "free_blocks") (all - used)

-- the same of inodes
unfoldable pub inode_fields : ℕ → ℕ → List ℕ
inode_fields all used =
    number_field (codes "inodes") all ++ number_field (codes "used_inodes") used
    ++ number_field (codes "free_inodes") (all - used)

-- the object of both
unfoldable pub usage_object : Usage → List ℕ
usage_object usage =
    block_fields usage.blocks usage.used_blocks ++ inode_fields usage.inodes usage.used_inodes
    ++ codes "}\n"

-- as JSON, one object, or as lines of text
abbrev pub usage_in : Bool → Usage → List ℕ
usage_in true usage = usage_object usage
usage_in false usage = usage_lines usage

-- the blocks that files may own and those that they own, the numbers that files may have and the
-- files, once the log is copied home
abbrev pub usage_of : Image → Usage
usage_of x = record {
  blocks = (super_of x).nblocks;
  used_blocks = length (owned_by_all (recovered x));
  inodes = (super_of x).ninodes - 1;
  used_inodes = file_count (files_of (recovered x));
}

-- how much of the image is used, as JSON or as text
abbrev pub usage_text : Bool → Image → List ℕ
usage_text json x = usage_in json (usage_of x)
