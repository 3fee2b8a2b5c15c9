-- What reading an image's inodes and bitmap needs.
use Rattle.std.specs.Prelude.{◌<◌, ◌≤◌, length}
use Rattle.blocks.specs.Disk.{Image}
use Rattle.model.specs.Format.{most_blocks, most_inodes}
use Rattle.model.specs.Layout.{super_of, inode_count_of, inode_block}

-- the inode blocks and the bitmap lie inside the image
pub record IsReadable (x : Image) : Type 0 where
  pub size : length x ≤ most_blocks
  pub inodes : 2 ≤ inode_count_of x
  pub inode_limit : inode_count_of x ≤ most_inodes
  pub inode_blocks : inode_block (inode_count_of x) < (super_of x).bmapstart
  pub bitmap : (super_of x).bmapstart < length x
  pub size_limit : (super_of x).size ≤ most_blocks
