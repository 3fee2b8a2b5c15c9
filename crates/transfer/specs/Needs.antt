-- How many blocks a file needs, and how many there are for it.
use Rattle.std.specs.Prelude.{ℕ, ◌+◌, ◌-◌, ◌*◌, ◌/◌, ◌&&◌, Bool, nat_le, not, if◌then◌else◌, length, count_by, Option, Some, None}
use Rattle.std.specs.List.{range_with_len}
use Rattle.blocks.specs.Disk.{Image}
use Rattle.model.specs.Files.{blocks_for}
use Rattle.model.specs.Format.{addresses_per_block}
use Rattle.model.specs.Layout.{direct_count, form_of, inode_of, is_marked}
use Rattle.model.specs.declared.types.image.Form.{Form}

-- The blocks of addresses of a file with that many blocks of data: none where the inode names each
-- of them itself; one for as many behind these as a block of addresses has entries; and for more
-- one above further ones.
abbrev pub address_blocks : Form → ℕ → ℕ
address_blocks form count =
    if nat_le count (direct_count form) then 0
    else if nat_le count (direct_count form + addresses_per_block) then 1
    else 2 + (count - direct_count form - addresses_per_block + (addresses_per_block - 1))
    / addresses_per_block

-- the blocks that a file of that many bytes needs
abbrev pub needed_blocks : Form → ℕ → ℕ
needed_blocks form size = blocks_for size + address_blocks form (blocks_for size)

-- how many blocks of an image the bitmap says are free
abbrev pub free_count : Image → ℕ
free_count x = count_by (λ b. not (is_marked x b)) (range_with_len 0 (length x))

-- the blocks that the size of the old file needs, where there is one
abbrev pub old_blocks : Image → Option ℕ → ℕ
old_blocks x None = 0
old_blocks x (Some i) = needed_blocks (form_of x) (inode_of x i).size

-- the blocks that there are for bytes that are put: the free ones, and those that the old file gives
-- up
abbrev pub room_for : Image → Option ℕ → ℕ
room_for x inum = free_count x + old_blocks x inum

-- so many blocks fit in the free ones, and once more when that many others are given up, too
abbrev pub fits_twice : ℕ → ℕ → ℕ → Bool
fits_twice needed free old = nat_le needed free && nat_le (2 * needed) (free + old)

-- that many bytes have room in a new file, and then beside it in the old one
abbrev pub has_room_twice : Image → Option ℕ → ℕ → Bool
has_room_twice x inum count =
    fits_twice (needed_blocks (form_of x) count) (free_count x) (old_blocks x inum)
