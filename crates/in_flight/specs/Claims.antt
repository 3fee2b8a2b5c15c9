-- What a creation that claims a number makes of an image, be it sound or not, and of its files.
use Rattle.std.specs.Prelude.{◌≡◌, ◌≢◌, ℕ, [], length, slice_set, Some}
use Rattle.blocks.specs.Disk.{Image, block_at}
use Rattle.model.specs.Codec.{new_inode}
use Rattle.model.specs.Crash.{IsUntouched, labels_of}
use Rattle.model.specs.Files.{Files}
use Rattle.model.specs.Layout.{inode_of, inode_block}

-- y is x with the inode of an empty file of that type at number i; nothing else differs
pub record HasClaimed (x : Image) (i kind : ℕ) (y : Image) : Type 0 where
  pub size : length y ≡ length x
  pub own : inode_of y i ≡ new_inode kind
  pub own_labels : labels_of y i ≡ (0, 0)
  pub others : (j : ℕ) → j ≢ i → inode_of y j ≡ inode_of x j
  pub other_labels : (j : ℕ) → j ≢ i → labels_of y j ≡ labels_of x j
  pub elsewhere : (b : ℕ) → b ≢ inode_block i → block_at y b ≡ block_at x b
  pub untouched : IsUntouched x y

-- the files with an empty one of that type at number i, with one link
abbrev pub with_new_file : Files → ℕ → ℕ → Files
with_new_file files i kind = slice_set files i (Some (record { kind = kind; links = 1; bytes = [] }))
