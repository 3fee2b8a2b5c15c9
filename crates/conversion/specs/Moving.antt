-- The image with a log of another length: what lies behind the log is moved, and each address with it.
use Rattle.std.specs.Prelude.{ℕ, zero, suc, ◌+◌, ◌-◌, ◌^◌, ◌==◌, ◌&&◌, ◌||◌, not, nat_lt, min, if◌then◌else◌, Bool, List, map}
use Rattle.std.specs.List.{flat_map, list_any, range_with_len}
use Rattle.blocks.specs.Block.{zero_block}
use Rattle.blocks.specs.Disk.{Image, block_at}
use Rattle.model.specs.Codec.{bytes_of_words, dinode_bytes, super_block, with_bit}
use Rattle.model.specs.Fields.{has_bit, words_of}
use Rattle.model.specs.Format.{inodes_per_block}
use Rattle.model.specs.Layout.{indirect_of, inode_bytes_in, inode_count_of, inode_in, super_of}
use Rattle.model.specs.Places.{numbers_of}
use Rattle.model.specs.declared.types.image.Dinode.{Dinode}
use Rattle.model.specs.declared.types.image.Form.TheVariants.{One}
use Rattle.model.specs.declared.types.image.Super.{Super}
use Rattle.conversion.specs.Older.{behind_log, bitmap_behind, meta_with, older_inode, super_with}

-- the greatest number of four bytes
abbrev pub greatest_word : ℕ
greatest_word = 2 ^ 32 - 1

-- An address behind a log of `from` blocks, where the log has `to` blocks. None stays none; what no four
-- bytes hold becomes an address outside of each image.
abbrev pub moved : ℕ → ℕ → ℕ → ℕ
moved from to address = if address == 0 then 0 else min (address + to) greatest_word - from

-- an inode with each of its addresses moved
abbrev pub moved_inode : ℕ → ℕ → Dinode → Dinode
moved_inode from to d = record {
  kind = d.kind;
  major = d.major;
  minor = d.minor;
  nlink = d.nlink;
  size = d.size;
  addrs = map (moved from to) d.addrs;
}

-- the bytes of inode k in a block of inodes, with its addresses moved
abbrev pub moved_inode_bytes : ℕ → ℕ → List ℕ → ℕ → List ℕ
moved_inode_bytes from to block k =
    dinode_bytes (moved_inode from to (inode_in (inode_bytes_in block k)))

-- a block of inodes with each of their addresses moved
unfoldable pub moved_inodes : ℕ → ℕ → List ℕ → List ℕ
moved_inodes from to block =
    flat_map (moved_inode_bytes from to block) (range_with_len 0 inodes_per_block)

-- a block of addresses with each of them moved
unfoldable pub moved_words : ℕ → ℕ → List ℕ → List ℕ
moved_words from to block = bytes_of_words (map (moved from to) (words_of block))

-- the block is the block of addresses of a used inode
abbrev pub is_node_in : Dinode → ℕ → Bool
is_node_in d b = not (d.kind == 0) && (indirect_of d == b)

-- the block is the block of addresses of an inode of the image
abbrev pub is_node : Image → ℕ → Bool
is_node x b = list_any (λ i. is_node_in (older_inode x i) b) (numbers_of x)

-- a data block of the image, as it is moved
abbrev pub moved_data : Image → ℕ → ℕ → List ℕ
moved_data x to b =
    if is_node x b then moved_words (super_of x).nlog to (block_at x b) else block_at x b

-- a block whose bits below the second number are those of the test
unfoldable pub bits_below : (ℕ → Bool) → ℕ → List ℕ
bits_below test zero = zero_block
bits_below test (suc n) = if test n then with_bit (bits_below test n) n else bits_below test n

-- where block b of the moved image was, by the superblock of the other
abbrev pub source_in : Super → ℕ → ℕ → ℕ
source_in s to b = b + s.nlog - to

-- the block of the moved image that lies there
abbrev pub goal_in : Super → ℕ → ℕ → ℕ
goal_in s to b = b + to - s.nlog

-- the bitmap has block b of the moved image, of that size: it lies before the data, or it was marked
abbrev pub is_moved_mark : Super → List ℕ → ℕ → ℕ → ℕ → Bool
is_moved_mark s bitmap to size b =
    nat_lt b (meta_with to size s.ninodes)
    || (nat_lt (source_in s to b) s.size && has_bit bitmap (source_in s to b))

-- the bitmap of the moved image, of that size
abbrev pub moved_marks : Super → List ℕ → ℕ → ℕ → List ℕ
moved_marks s bitmap to size = bits_below (is_moved_mark s bitmap to size) size

-- Block b of the image, of that size, whose log has `to` blocks: the boot block as it is, the superblock,
-- an empty log, the inodes and blocks of addresses with their addresses moved, the bitmap, the data as it
-- is, and zeroes behind it.
abbrev pub moved_block : Image → ℕ → ℕ → ℕ → List ℕ
moved_block x to size b =
    if b == 0 then block_at x 0
    else if b == 1 then super_block One (super_with to size (inode_count_of x))
    else if nat_lt b (behind_log to) then zero_block
    else if nat_lt b (bitmap_behind to (inode_count_of x)) then
    moved_inodes (super_of x).nlog to (block_at x (source_in (super_of x) to b))
    else if b == bitmap_behind to (inode_count_of x) then
    moved_marks (super_of x) (block_at x (super_of x).bmapstart) to size
    else if nat_lt (source_in (super_of x) to b) (super_of x).size then
    moved_data x to (source_in (super_of x) to b)
    else zero_block

-- the image with a log of `to` blocks, and of that size
unfoldable pub moved_image : Image → ℕ → ℕ → Image
moved_image x to size = map (moved_block x to size) (range_with_len 0 size)
