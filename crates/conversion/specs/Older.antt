-- An xv6 image whose log has any length, told by its superblock: where its areas are, and its files.
use Rattle.std.specs.Prelude.{ℕ, ◌+◌, ◌-◌, ◌/◌, ◌==◌, ◌&&◌, nat_le, nat_lt, if◌then◌else◌, Bool, map, Option, None}
use Rattle.std.specs.List.{range_with_len}
use Rattle.blocks.specs.Disk.{Image, block_at}
use Rattle.model.specs.Files.{Files, file_of}
use Rattle.model.specs.Format.{bits_per_block, inodes_per_block, log_blocks, log_start, most_blocks}
use Rattle.model.specs.Layout.{are_alike, inode_bytes_in, inode_count_of, inode_in, is_inode_count, super_of}
use Rattle.model.specs.declared.types.image.Dinode.{Dinode}
use Rattle.model.specs.declared.types.image.File.{File}
use Rattle.model.specs.declared.types.image.Super.{Super}

-- the fewest blocks of a log, its header included: as many as one operation may log, and the header
abbrev pub fewest_log_blocks : ℕ
fewest_log_blocks = 11

-- a log may have that many blocks
abbrev pub is_log_length : ℕ → Bool
is_log_length nlog = nat_le fewest_log_blocks nlog && nat_le nlog log_blocks

-- the first block behind a log of that many blocks
abbrev pub behind_log : ℕ → ℕ
behind_log nlog = log_start + nlog

-- the bitmap's block behind such a log and the inode blocks
abbrev pub bitmap_behind : ℕ → ℕ → ℕ
bitmap_behind nlog inode_count = behind_log nlog + inode_count / inodes_per_block + 1

-- the blocks before the first data block
abbrev pub meta_with : ℕ → ℕ → ℕ → ℕ
meta_with nlog size inode_count =
    behind_log nlog + (inode_count / inodes_per_block + 1) + (size / bits_per_block + 1)

-- the superblock of an image of that size with that many inode numbers and a log of that length
abbrev pub super_with : ℕ → ℕ → ℕ → Super
super_with nlog size inode_count = record {
  size = size;
  nblocks = size - meta_with nlog size inode_count;
  ninodes = inode_count;
  nlog = nlog;
  logstart = log_start;
  inodestart = behind_log nlog;
  bmapstart = bitmap_behind nlog inode_count;
}

-- there is a data block, and not too many blocks
abbrev pub is_size_with : ℕ → ℕ → ℕ → Bool
is_size_with nlog size inode_count =
    nat_lt (meta_with nlog size inode_count) size && nat_le size most_blocks

-- the superblock is that of an image of so many blocks, whatever the length of its log
abbrev pub is_older_super : Super → ℕ → Bool
is_older_super s block_count =
    (s.size == block_count) && is_inode_count s.ninodes && is_log_length s.nlog
    && is_size_with s.nlog s.size s.ninodes && are_alike s (super_with s.nlog s.size s.ninodes)

-- ---- its files

-- the inode of a number, in the inode block where the superblock says
unfoldable pub older_inode : Image → ℕ → Dinode
older_inode x i =
    inode_in (inode_bytes_in (block_at x ((super_of x).inodestart + i / inodes_per_block)) i)

-- the file of a number; none for number 0
abbrev pub older_file : Image → ℕ → Option File
older_file x i = if i == 0 then None else file_of x (older_inode x i)

-- the files of such an image
abbrev pub older_files : Image → Files
older_files x = map (older_file x) (range_with_len 0 (inode_count_of x))

-- a number's labels: major and minor, which no file shows
abbrev pub older_labels : Image → ℕ → ℕ × ℕ
older_labels x i = ((older_inode x i).major, (older_inode x i).minor)
