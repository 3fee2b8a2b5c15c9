-- What the reading of a file's bytes rests on.
use Rattle.std.specs.Prelude.{◌≡◌, ◌<◌, ◌≤◌, ℕ, ◌*◌, length, None}
use Rattle.blocks.specs.Disk.{Image}
use Rattle.blocks.specs.Block.{block_size}
use Rattle.model.specs.Format.{inode_start}
use Rattle.model.specs.declared.types.image.Dinode.{Dinode}
use Rattle.model.specs.Layout.{form_of, inode_of}
use Rattle.model.specs.Files.{Files}
use Rattle.model.specs.Places.{address_in}
use Rattle.in_flight.specs.Held.{Claims, FitsHeld}
use Rattle.in_flight.specs.Looks.{IsUsed}
use Rattle.in_flight.specs.Loose.{AreFull, IsFit}
use Rattle.blockmap.specs.Branch.{LiesOnWay, branch_of}
use Rattle.blockmap.specs.declared.branch.Node.{Node}

-- a block of the image behind the log
abbrev pub LiesBehindLog : Image → ℕ → Type 0
LiesBehindLog x b = (inode_start ≤ b) × (b < length x)

-- The file of an inode may be read: each block that its size needs lies behind the log, and so do
-- the blocks of addresses on the way to it.
pub record MayRead (x : Image) (d : Dinode) : Type 0 where
  pub full : AreFull x
  pub fit : IsFit x d
  pub blocks : (k : ℕ) → k * block_size < d.size → LiesBehindLog x (address_in x d k)
  pub ways : (k : ℕ) (n : Node) → k * block_size < d.size →
      LiesOnWay x d (branch_of (form_of x) k) n → LiesBehindLog x n.block

-- where an image stands for files, that of each used number which no task holds may be read
abbrev pub RestingMayBeRead : Type 0
RestingMayBeRead = (m : Files) (x : Image) (claims : Claims) (i : ℕ) → FitsHeld m x claims →
    IsUsed x i → claims i ≡ None → MayRead x (inode_of x i)
