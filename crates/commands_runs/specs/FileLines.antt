-- The files of an image, as a picture tells them.
use Rattle.std.specs.Prelude.{ℕ, ◌==◌, if◌then◌else◌, List, [], ◌∷◌}
use Rattle.std.specs.List.{flat_map}
use Rattle.blocks.specs.Disk.{Image}
use Rattle.model.specs.Layout.{inode_of}
use Rattle.model.specs.Places.{numbers_of}
use Rattle.pictures.specs.declared.types.FileLine.{FileLine}

-- the file of number i: its type and its size
abbrev pub line_at : Image → ℕ → FileLine
line_at x i = record { number = i; kind = (inode_of x i).kind; size = (inode_of x i).size }

-- a line for each file, none for a free inode
abbrev pub lines_at : Image → ℕ → List FileLine
lines_at x i = if (inode_of x i).kind == 0 then [] else line_at x i ∷ []

-- a line for each file of the image, in the order of their numbers
abbrev pub lines_of : Image → List FileLine
lines_of x = flat_map (lines_at x) (numbers_of x)
