-- The numbers of the format.
use Rattle.std.specs.Prelude.{ℕ, ◌+◌}

-- the most blocks of an image, and its most inode numbers
abbrev pub most_blocks : ℕ
most_blocks = 8191

abbrev pub most_inodes : ℕ
most_inodes = 1024

-- the block that is the log's header, the blocks that a log holds, and those of the log itself
abbrev pub log_start : ℕ
log_start = 2

abbrev pub log_capacity : ℕ
log_capacity = 30

abbrev pub log_blocks : ℕ
log_blocks = log_capacity + 1

-- the first block behind the log, which is the first inode block
abbrev pub inode_start : ℕ
inode_start = log_start + log_blocks

-- the inodes in a block, and the bytes of one
abbrev pub inodes_per_block : ℕ
inodes_per_block = 16

abbrev pub inode_size : ℕ
inode_size = 64

-- the bits in the bitmap's block
abbrev pub bits_per_block : ℕ
bits_per_block = 8192

-- the addresses in a block of addresses
abbrev pub addresses_per_block : ℕ
addresses_per_block = 256
