-- The files of an image.
use Rattle.std.specs.Prelude.{ℕ, ◌+◌, ◌-◌, ◌/◌, ◌==◌, if◌then◌else◌, is_some, List, [], take, map, Option, Some, None, slice_index_or, count_by}
use Rattle.std.specs.List.{flat_map, range_with_len}
use Rattle.blocks.specs.Disk.{Image, block_at}
use Rattle.blocks.specs.Block.{block_size}
use Rattle.model.specs.declared.types.image.Dinode.{Dinode}
use Rattle.model.specs.declared.types.image.File.{File}
use Rattle.model.specs.Layout.{inode_of, inode_count_of}
use Rattle.model.specs.Places.{address_in}

-- a place for each inode number, empty or with a file; number 0 is always empty
abbrev pub Files : Type 0
Files = List (Option File)

-- the file of a number, if there is one
abbrev pub file_in : Files → ℕ → Option File
file_in files i = slice_index_or files i None

-- how many blocks hold that many bytes
abbrev pub blocks_for : ℕ → ℕ
blocks_for size = (size + (block_size - 1)) / block_size

-- the bytes at an address; none where there is no block
abbrev pub data_at : Image → ℕ → List ℕ
data_at x address = if address == 0 then [] else block_at x address

-- an inode's first blocks, joined
unfoldable pub joined : Image → Dinode → ℕ → List ℕ
joined x d count = flat_map (λ k. data_at x (address_in x d k)) (range_with_len 0 count)

-- the bytes of an inode's data blocks, joined in order and cut at its size
unfoldable pub bytes_in : Image → Dinode → List ℕ
bytes_in x d = take d.size (joined x d (blocks_for d.size))

-- the file of an inode; none where it is free
unfoldable pub file_of : Image → Dinode → Option File
file_of x d =
    if d.kind == 0 then None
    else Some (record { kind = d.kind; links = d.nlink; bytes = bytes_in x d })

-- the file of a number; none for number 0
abbrev pub file_at : Image → ℕ → Option File
file_at x i = if i == 0 then None else file_of x (inode_of x i)

-- the files of an image
abbrev pub files_of : Image → Files
files_of x = map (file_at x) (range_with_len 0 (inode_count_of x))

abbrev pub file_count : Files → ℕ
file_count files = count_by (λ f. is_some f) files
