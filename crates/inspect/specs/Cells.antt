-- What each block of an image is, and whose, as a picture has it.
use Rattle.std.specs.Prelude.{ℕ, List, map, length, Option, Some, None, slice_index}
use Rattle.std.specs.List.{range_with_len}
use Rattle.blocks.specs.Disk.{Image}
use Rattle.model.specs.Log.{recovered}
use Rattle.messages.specs.declared.drawing.Cell.{Cell}
use Rattle.messages.specs.declared.drawing.Owner.{Owner}
use Rattle.inspect.specs.declared.owned.Owned.{Owned}
use Rattle.inspect.specs.Owned.{owned_by_all}
use Rattle.inspect.specs.Signs.{owner_among, signs_of}

-- which file owns a block
abbrev pub owner_of : Option Owned → Option Owner
owner_of None = None
owner_of (Some o) = Some (record { file = o.file })

-- block b, where these are the signs, and these the blocks that files own
abbrev pub cell_at : List ℕ → List Owned → ℕ → Cell
cell_at signs owned b = record {
  block = b;
  sign = slice_index signs b;
  owner = owner_of (owner_among owned b);
}

abbrev pub cells_among : List ℕ → List Owned → List Cell
cells_among signs owned = map (cell_at signs owned) (range_with_len 0 (length signs))

-- the blocks of what recovery leaves of an image; what its log holds is marked
abbrev pub cells_of : Image → List Cell
cells_of x = cells_among (signs_of x) (owned_by_all (recovered x))
