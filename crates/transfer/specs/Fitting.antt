-- Whether files fit in an image, by the blocks that they need.
use Rattle.std.specs.Prelude.{◌≡◌, ℕ, zero, suc, ◌+◌, ◌-◌, ◌<◌, ◌≤◌, ⊤, Option, Some, None}
use Rattle.blocks.specs.Disk.{Image, Rose}
use Rattle.model.specs.declared.types.image.File.{File}
use Rattle.model.specs.declared.types.image.Form.{Form}
use Rattle.model.specs.Files.{Files, file_in}
use Rattle.model.specs.Layout.{inode_of, meta_count}
use Rattle.transfer.specs.Needs.{needed_blocks}
use Rattle.transfer.specs.declared.fault.CopyFault.{CopyFault}
use Rattle.transfer.specs.declared.fault.CopyFault.TheVariants.{Full, Leaked, NoMemory, Disk}

-- the blocks for data of an image of that size with so many inode numbers
abbrev pub data_count : ℕ → ℕ → ℕ
data_count size inode_count = size - meta_count size inode_count

-- the blocks that a file of that size needs, if there is one
abbrev pub blocks_of : Form → ℕ → Option File → ℕ
blocks_of form size None = 0
blocks_of form size (Some file) = needed_blocks form size

-- those that the files of the numbers below i need together in an image of that form; image y has their
-- inodes
abbrev pub blocks_below : Form → Image → Files → ℕ → ℕ
blocks_below form y files zero = 0
blocks_below form y files (suc i) =
    blocks_below form y files i + blocks_of form (inode_of y i).size (file_in files i)

-- so many blocks are enough for the files below number i, and too few for that of i besides
pub record DontFit (room : ℕ) (form : Form) (y : Image) (files : Files) (i : ℕ) : Type 0 where
  pub before : blocks_below form y files i ≤ room
  pub more : room < blocks_below form y files (i + 1)

-- the first number whose file doesn't fit, if one was found
abbrev pub FindsUnfit : ℕ → Form → Image → Files → Option ℕ → Type 0
FindsUnfit room form y files None = ⊤
FindsUnfit room form y files (Some i) = DontFit room form y files i

-- what is told where no block was free for file i, by what the old disk's count of faults was and is
abbrev pub IsWhyShort : ℕ → Form → Image → Files → ℕ → ℕ → ℕ → CopyFault → Type 0
IsWhyShort room form y files i was is (Full number) = DontFit room form y files number
IsWhyShort room form y files i was is (Leaked number) = (number ≡ i) × (is ≡ was)
IsWhyShort room form y files i was is NoMemory = ⊤
IsWhyShort room form y files i was is Disk = Rose was is
IsWhyShort room form y files i was is _ = ⊥
