-- The superblock, the inodes and the bitmap of an image.
use Rattle.std.specs.Prelude.{◌≡◌, ◌≢◌, ℕ, ◌<◌, ◌+◌, ◌-◌, ◌*◌, ◌/◌, ◌%◌, ◌^◌, ◌==◌, ◌&&◌, ◌||◌, nat_le, nat_lt, if◌then◌else◌, Bool, List, [], ◌∷◌, ◌++◌, drop, replicate, slice_index, slice_range}
use Rattle.blocks.specs.Disk.{Image, block_at}
use Rattle.model.specs.Format.{most_blocks, most_inodes, log_start, log_blocks, inode_start, inodes_per_block, inode_size, bits_per_block, addresses_per_block}
use Rattle.model.specs.declared.types.image.Form.{Form}
use Rattle.model.specs.declared.types.image.Form.TheVariants.{One, Two}
use Rattle.model.specs.declared.types.image.Super.{Super}
use Rattle.model.specs.declared.types.image.Dinode.{Dinode}
use Rattle.model.specs.Fields.{u16_at, u32_at, words_of, has_bit}

-- the first number of the superblock
abbrev pub magic_of : Form → ℕ
magic_of One = 0x10203040
magic_of Two = 0x10203041

-- how many of the 13 addresses are a data block's
abbrev pub direct_count : Form → ℕ
direct_count One = 12
direct_count Two = 11

-- for each of the 13 addresses, how many blocks of addresses one goes through to the data
abbrev pub depths : Form → List ℕ
depths One = replicate (direct_count One) 0 ++ 1 ∷ []
depths Two = replicate (direct_count Two) 0 ++ 1 ∷ 2 ∷ []

-- how many of a file's blocks an address of that depth leads to
abbrev pub reach : ℕ → ℕ
reach depth = addresses_per_block ^ depth

-- the bytes of the largest file
abbrev pub greatest_size : Form → ℕ
greatest_size One = 274432
greatest_size Two = 67382272

abbrev pub magic_at : Image → ℕ
magic_at x = u32_at (block_at x 1) 0

-- the number tells a form
abbrev pub is_known_magic : ℕ → Bool
is_known_magic number = (number == magic_of One) || (number == magic_of Two)

abbrev pub has_known_magic : Image → Bool
has_known_magic x = is_known_magic (magic_at x)

abbrev pub form_of : Image → Form
form_of x = if magic_at x == magic_of Two then Two else One

-- the fields in a superblock's bytes
unfoldable pub super_in : List ℕ → Super
super_in bytes = record {
  size = u32_at bytes 4;
  nblocks = u32_at bytes 8;
  ninodes = u32_at bytes 12;
  nlog = u32_at bytes 16;
  logstart = u32_at bytes 20;
  inodestart = u32_at bytes 24;
  bmapstart = u32_at bytes 28;
}

abbrev pub super_of : Image → Super
super_of x = super_in (block_at x 1)

-- the blocks before the first data block
abbrev pub meta_count : ℕ → ℕ → ℕ
meta_count size inode_count =
    inode_start + (inode_count / inodes_per_block + 1) + (size / bits_per_block + 1)

-- the bitmap's block in an image of that many inode numbers
abbrev pub bitmap_block : ℕ → ℕ
bitmap_block inode_count = inode_start + inode_count / inodes_per_block + 1

-- the superblock of an image of that size with that many inode numbers
abbrev pub planned_super : ℕ → ℕ → Super
planned_super size inode_count = record {
  size = size;
  nblocks = size - meta_count size inode_count;
  ninodes = inode_count;
  nlog = log_blocks;
  logstart = log_start;
  inodestart = inode_start;
  bmapstart = bitmap_block inode_count;
}

abbrev pub are_alike : Super → Super → Bool
are_alike a b =
    (a.size == b.size) && (a.nblocks == b.nblocks) && (a.ninodes == b.ninodes) && (a.nlog == b.nlog)
    && (a.logstart == b.logstart) && (a.inodestart == b.inodestart) && (a.bmapstart == b.bmapstart)

-- the limits on the number of inodes and on the size
abbrev pub is_inode_count : ℕ → Bool
is_inode_count inode_count = nat_le 2 inode_count && nat_le inode_count most_inodes

abbrev pub is_size : ℕ → ℕ → Bool
is_size size inode_count = nat_lt (meta_count size inode_count) size && nat_le size most_blocks

-- the superblock is the planned one of the image's own size, within the limits
abbrev pub is_lawful_super : Super → ℕ → Bool
is_lawful_super s block_count =
    (s.size == block_count) && is_inode_count s.ninodes && is_size s.size s.ninodes
    && are_alike s (planned_super s.size s.ninodes)

-- the inode numbers, the free ones and 0 included
abbrev pub inode_count_of : Image → ℕ
inode_count_of x = (super_of x).ninodes

abbrev pub first_data_block : Image → ℕ
first_data_block x = meta_count (super_of x).size (inode_count_of x)

-- the fields in an inode's bytes
unfoldable pub inode_in : List ℕ → Dinode
inode_in bytes = record {
  kind = u16_at bytes 0;
  major = u16_at bytes 2;
  minor = u16_at bytes 4;
  nlink = u16_at bytes 6;
  size = u32_at bytes 8;
  addrs = words_of (drop 12 bytes);
}

-- the address of an inode's block of addresses
abbrev pub indirect_of : Dinode → ℕ
indirect_of d = slice_index d.addrs (direct_count One)

-- the inode block of a number
abbrev pub inode_block : ℕ → ℕ
inode_block i = i / inodes_per_block + inode_start

-- where the bytes of number i begin in its inode block
abbrev pub inode_offset : ℕ → ℕ
inode_offset i = i % inodes_per_block * inode_size

-- the bytes in an inode block that are those of number i
abbrev pub inode_bytes_in : List ℕ → ℕ → List ℕ
inode_bytes_in block i = slice_range block (inode_offset i) (inode_offset i + inode_size)

abbrev pub inode_bytes : Image → ℕ → List ℕ
inode_bytes x i = inode_bytes_in (block_at x (inode_block i)) i

unfoldable pub inode_of : Image → ℕ → Dinode
inode_of x i = inode_in (inode_bytes x i)

-- whether the bitmap says that a block is used
abbrev pub is_marked : Image → ℕ → Bool
is_marked x b = has_bit (block_at x (super_of x).bmapstart) b

-- no number in an inode block is free
abbrev pub HasNoFreeInode : Image → ℕ → Type 0
HasNoFreeInode now block =
    (i : ℕ) → 0 < i → i < inode_count_of now → inode_block i ≡ block → (inode_of now i).kind ≢ 0
