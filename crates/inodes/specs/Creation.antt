-- What a creation looks for in an inode block.
use Rattle.std.specs.Prelude.{ℕ, ◌<◌, ◌≢◌, ◌-◌, ◌*◌, ◌==◌, ◌&&◌, Bool, List, find, Option}
use Rattle.std.specs.List.{range_with_len}
use Rattle.model.specs.Format.{inode_start, inodes_per_block}
use Rattle.model.specs.Layout.{inode_in, inode_bytes_in}
use Rattle.model.specs.Journal.{is_number}

-- operations may name the number, and its inode block says that it is free
abbrev pub is_free_in : List ℕ → ℕ → ℕ → Bool
is_free_in block inode_count i =
    is_number inode_count i && ((inode_in (inode_bytes_in block i)).kind == 0)

-- the numbers whose inodes stand in that inode block
abbrev pub numbers_in : ℕ → List ℕ
numbers_in block = range_with_len ((block - inode_start) * inodes_per_block) inodes_per_block

-- the lowest free number in an inode block of these bytes
abbrev pub lowest_free : List ℕ → ℕ → ℕ → Option ℕ
lowest_free bytes inode_count block = find (is_free_in bytes inode_count) (numbers_in block)

-- the first n inodes in an inode block of these bytes are used
abbrev pub AreUsed : List ℕ → ℕ → Type 0
AreUsed bytes n = (k : ℕ) → k < n → (inode_in (inode_bytes_in bytes k)).kind ≢ 0
