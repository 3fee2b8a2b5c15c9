-- The log's header in the file of an image, written over itself.
use Rattle.std.specs.Prelude.{◌≡◌, ℕ, ◌*◌, List, length, Option, Some, IfSome}
use Rattle.std.specs.Io.KnownBytes.{Consumes}
use Rattle.blocks.specs.Block.{block_size}
use Rattle.blocks.specs.File.{IsWrittenAt}

-- where it stands
abbrev pub header_place : ℕ
header_place = 2 * block_size

-- A block of bytes was read there, and written at the same place, where the file tells of its position,
-- of the bytes that it has left, and of its contents.
pub record IsFreshened {F : Type 0} (position : F → Option ℕ)
    (remaining contents : F → Option (List ℕ)) (old new : F) : Type 0 where
  pub sought : F
  pub read : F
  pub header : List ℕ
  pub moved : IfSome (position old) (λ _. position sought ≡ Some header_place)
  pub size : length header ≡ block_size
  pub reads : Consumes (remaining sought) (remaining read) header
  pub writes : IsWrittenAt position contents read new header_place header
