-- The bytes of records, an image with another inode, and a new image block by block.
use Rattle.std.specs.Prelude.{◌≡◌, ℕ, zero, suc, ◌*◌, ◌/◌, ◌%◌, ◌^◌, ◌<◌, ◌==◌, if◌then◌else◌, List, [], ◌∷◌, ◌++◌, length, map, replicate, slice_set, slice_index, bit_or, bit_and}
use Rattle.std.specs.Int.{bit_not}
use Rattle.std.specs.List.{flat_map, range_with_len}
use mir.Syntax.{w8}
use Rattle.byteorder.specs.Endian.{little_bytes}
use Rattle.blocks.specs.Block.{zero_block, overwritten}
use Rattle.blocks.specs.Disk.{Image, block_at}
use Rattle.model.specs.declared.types.image.Dinode.{Dinode}
use Rattle.model.specs.declared.types.image.Form.{Form}
use Rattle.model.specs.declared.types.image.Super.{Super}
use Rattle.model.specs.Layout.{magic_of, meta_count, planned_super, inode_block, inode_offset}

-- numbers of four bytes each, one after the other
abbrev pub bytes_of_words : List ℕ → List ℕ
bytes_of_words words = flat_map (λ n. little_bytes 4 n) words

-- a block that begins with these numbers, and zeroes behind them
unfoldable pub block_of_words : List ℕ → List ℕ
block_of_words words = overwritten zero_block 0 (bytes_of_words words)

-- the superblock's numbers, the magic first
abbrev pub super_words : Form → Super → List ℕ
super_words form s =
    magic_of form ∷ s.size ∷ s.nblocks ∷ s.ninodes ∷ s.nlog ∷ s.logstart ∷ s.inodestart
    ∷ s.bmapstart ∷ []

abbrev pub super_block : Form → Super → List ℕ
super_block form s = block_of_words (super_words form s)

-- the header of a log with these homes
abbrev pub header_block : List ℕ → List ℕ
header_block homes = block_of_words (length homes ∷ homes)

-- the bytes of an inode
unfoldable pub dinode_bytes : Dinode → List ℕ
dinode_bytes d =
    little_bytes 2 d.kind ++ (little_bytes 2 d.major ++ (little_bytes 2 d.minor
    ++ (little_bytes 2 d.nlink ++ (little_bytes 4 d.size ++ bytes_of_words d.addrs))))

-- the fields fit theirs
pub record IsDinode (d : Dinode) : Type 0 where
  pub kind : d.kind < 2 ^ 16
  pub major : d.major < 2 ^ 16
  pub minor : d.minor < 2 ^ 16
  pub nlink : d.nlink < 2 ^ 16
  pub size : d.size < 2 ^ 32
  pub count : length d.addrs ≡ 13
  pub addrs : (k : ℕ) → slice_index d.addrs k < 2 ^ 32

-- an inode block with another inode at the place of number i
abbrev pub with_inode_bytes : List ℕ → ℕ → Dinode → List ℕ
with_inode_bytes block i d = overwritten block (inode_offset i) (dinode_bytes d)

-- the image with another inode at the place of number i
abbrev pub with_inode : Image → ℕ → Dinode → Image
with_inode x i d = slice_set x (inode_block i) (with_inode_bytes (block_at x (inode_block i)) i d)

-- the inode of a new file
abbrev pub new_inode : ℕ → Dinode
new_inode kind = record {
  kind = kind;
  major = 0;
  minor = 0;
  nlink = 1;
  size = 0;
  addrs = replicate 13 0;
}

-- a block with another number at place e
abbrev pub with_entry : List ℕ → ℕ → ℕ → List ℕ
with_entry block e address = overwritten block (4 * e) (little_bytes 4 address)

-- a block with a bit set
unfoldable pub with_bit : List ℕ → ℕ → List ℕ
with_bit bytes k = slice_set bytes (k / 8) (bit_or (slice_index bytes (k / 8)) (2 ^ (k % 8)))

-- a block with a bit cleared
unfoldable pub without_bit : List ℕ → ℕ → List ℕ
without_bit bytes k = slice_set bytes (k / 8)
    (bit_and (slice_index bytes (k / 8)) (bit_not w8 (1 * 2 ^ (k % 8) % 2 ^ 8)))

-- a block whose first bits are set, that many, and no other
unfoldable pub first_bits : ℕ → List ℕ
first_bits zero = zero_block
first_bits (suc n) = with_bit (first_bits n) n

-- block b of a new image
abbrev pub made_block : Form → ℕ → ℕ → ℕ → List ℕ
made_block form size inode_count b =
    if b == 1 then super_block form (planned_super size inode_count)
    else if b == (planned_super size inode_count).bmapstart then
    first_bits (meta_count size inode_count)
    else zero_block

-- a new image: zeroes but for the superblock and the bitmap, which has the blocks before the data
unfoldable pub made_image : Form → ℕ → ℕ → Image
made_image form size inode_count = map (made_block form size inode_count) (range_with_len 0 size)
