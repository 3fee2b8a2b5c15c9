-- Images whose bitmap says which blocks are owned, and the files that such an image stands for.
use Rattle.std.specs.Prelude.{◌≡◌, ◌≢◌, ℕ, ◌*◌, ◌<◌, ◌≤◌, ◌||◌, nat_lt, List, length, Option, None}
use Rattle.blocks.specs.Disk.{Image, block_at}
use Rattle.blocks.specs.Block.{block_size}
use Rattle.model.specs.Format.{inode_start}
use Rattle.model.specs.declared.types.image.Dinode.{Dinode}
use Rattle.model.specs.declared.types.image.File.{File}
use Rattle.model.specs.Codec.{IsDinode}
use Rattle.model.specs.Files.{Files, file_in, file_at}
use Rattle.model.specs.Layout.{form_of, inode_of, inode_count_of, first_data_block, is_marked, greatest_size}
use Rattle.model.specs.Places.{address_in, places_of}
use Rattle.model.specs.Soundness.{IsLawfulGeometry, count_of}

-- each block behind the log has 1024 bytes
abbrev pub AreFull : Image → Type 0
AreFull x = (b : ℕ) → inode_start ≤ b → b < length x → length (block_at x b) ≡ block_size

-- a data block of the image
abbrev pub LiesInData : Image → ℕ → Type 0
LiesInData x b = (first_data_block x ≤ b) × (b < length x)

-- the bitmap has the blocks before the data and those of the list: data blocks, each there once
pub record IsLoose (x : Image) (owned : List ℕ) : Type 0 where
  pub in_data : (b : ℕ) → count_of b owned ≢ 0 → LiesInData x b
  pub once : (b : ℕ) → count_of b owned ≤ 1
  pub marked : (b : ℕ) → b < length x →
      is_marked x b ≡ (nat_lt b (first_data_block x) || nat_lt 0 (count_of b owned))

-- each block that the size needs is there
abbrev pub IsWhole : Image → Dinode → Type 0
IsWhole x d = (k : ℕ) → k * block_size < d.size → address_in x d k ≢ 0

-- a used inode that has what a file needs
pub record IsFit (x : Image) (d : Dinode) : Type 0 where
  pub fields : IsDinode d
  pub used : d.kind ≢ 0
  pub kind : d.kind ≤ 3
  pub size : d.size ≤ greatest_size (form_of x)
  pub whole : IsWhole x d

-- no operation holds the number: its file is the image's, and a used inode is fit
pub record IsAtRest (x : Image) (i : ℕ) (file : Option File) : Type 0 where
  pub same : file_at x i ≡ file
  pub fit : (inode_of x i).kind ≢ 0 → IsFit x (inode_of x i)

-- The image stands for these files. Each number is at rest, so the owned blocks are the image's
-- places.
pub record Fits (files : Files) (x : Image) : Type 0 where
  pub geometry : IsLawfulGeometry x
  pub full : AreFull x
  pub loose : IsLoose x (places_of x)
  pub count : length files ≡ inode_count_of x
  pub zero : file_in files 0 ≡ None
  pub each : (i : ℕ) → 1 ≤ i → i < inode_count_of x → IsAtRest x i (file_in files i)
