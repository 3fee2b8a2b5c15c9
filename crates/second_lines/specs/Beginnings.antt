-- Which files of an image have bytes, or a beginning of them.
use Rattle.std.specs.Prelude.{ℕ, ◌==◌, ◌&&◌, nat_le, if◌then◌else◌, Bool, List, [], ◌∷◌, length, take}
use Rattle.std.specs.List.{flat_map}
use Rattle.std.specs.Str.{bytes_eq}
use Rattle.blocks.specs.Disk.{Image}
use Rattle.model.specs.Files.{bytes_in}
use Rattle.model.specs.Layout.{inode_of}
use Rattle.model.specs.Places.{numbers_of}
use Rattle.model.specs.declared.types.image.Dinode.{Dinode}
use Rattle.second_lines.specs.declared.standing.Beginning.{Beginning}

-- it is the inode of a plain file of at most so many bytes
unfoldable pub may_begin : Dinode → ℕ → Bool
may_begin d count = (d.kind == 2) && nat_le d.size count

-- how many of these bytes the file of an inode has, where it is a plain one that has the first of them,
-- and no other
unfoldable pub beginning_of : Image → List ℕ → Dinode → ℕ
beginning_of y bytes d =
    if may_begin d (length bytes) && bytes_eq (bytes_in y d) (take d.size bytes) then d.size else 0

-- the file of number i, if it has some
abbrev pub beginning_at : Image → List ℕ → ℕ → List Beginning
beginning_at y bytes i =
    if beginning_of y bytes (inode_of y i) == 0 then []
    else record { number = i; size = beginning_of y bytes (inode_of y i) } ∷ []

-- all such files, by their numbers
abbrev pub beginnings_of : Image → List ℕ → List Beginning
beginnings_of y bytes = flat_map (beginning_at y bytes) (numbers_of y)
