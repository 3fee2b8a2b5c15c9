-- Laws over images in which a task sets an attribute of a file: its links, or its length.
use Rattle.std.specs.Prelude.{◌≡◌, ℕ, ◌+◌, ◌-◌, ◌<◌, ◌≤◌, ◌^◌, true, false, [], replicate, slice_set, Some, None}
use Rattle.blocks.specs.Disk.{Image}
use Rattle.model.specs.declared.types.image.Dinode.{Dinode}
use Rattle.model.specs.declared.types.image.File.{File}
use Rattle.model.specs.declared.types.operations.Attribute.{Attribute}
use Rattle.model.specs.declared.types.operations.Attribute.TheVariants.{Links, Size}
use Rattle.model.specs.declared.types.operations.Op.TheVariants.{SetAttribute}
use Rattle.model.specs.declared.types.operations.Reply.TheVariants.{Done, TooBig, TooLong, Wrote}
use Rattle.model.specs.Codec.{with_inode}
use Rattle.model.specs.Files.{Files, bytes_in, file_in}
use Rattle.model.specs.Layout.{form_of, greatest_size, inode_of}
use Rattle.model.specs.Operations.{after, transfer_limit, with_attribute}
use Rattle.in_flight.specs.GrowthLaws.{HasWritten, files_grown}
use Rattle.in_flight.specs.Held.{Growth, Claims, grows, FitsHeld, IsClaimedNow}
use Rattle.in_flight.specs.HeldLaws.{FitsThen, IsHeldIn}
use Rattle.in_flight.specs.Looks.{IsUsed}

-- a task that writes a copy back, into which it writes no bytes
abbrev pub unwritten : Dinode → Growth
unwritten d = record { copy = d; taken = None; offset = 0; at_end = false; written = [] }

-- an inode with an attribute set; it keeps its addresses
abbrev pub with_value : Dinode → Attribute → Dinode
with_value d (Links n) = record d { nlink = n }
with_value d (Size n) = record d { size = n }

-- a value that an inode can get: a count that its field holds, or a length within its file
abbrev pub IsAllowed : Dinode → Attribute → Type 0
IsAllowed d (Links n) = n < 2 ^ 16
IsAllowed d (Size n) = n ≤ d.size

-- the file that a used number's inode says
abbrev pub file_said : Image → ℕ → File
file_said x i = record {
  kind = (inode_of x i).kind;
  links = (inode_of x i).nlink;
  bytes = bytes_in x (inode_of x i);
}

-- the files where a used number's has the attribute
abbrev pub files_set : Files → Image → ℕ → Attribute → Files
files_set m x i attribute = slice_set m i (Some (with_attribute (file_said x i) attribute))

-- A used number at rest is held by the task whose turn it is, with the image's inode and the
-- attribute as its copy. From then on its file has it
abbrev pub TurnSets : Type 0
TurnSets = (m : Files) (x : Image) (claims new : Claims) (i : ℕ) (attribute : Attribute) →
    FitsHeld m x claims → IsUsed x i → claims i ≡ None → IsAllowed (inode_of x i) attribute →
    IsClaimedNow claims i (Some (grows (unwritten (with_value (inode_of x i) attribute)))) new →
    FitsThen (files_set m x i attribute) x claims i x new

-- these are the files after that operation
abbrev pub SetAnswers : Type 0
SetAnswers = (m : Files) (x : Image) (claims : Claims) (i : ℕ) (attribute : Attribute) →
    FitsHeld m x claims → IsUsed x i → claims i ≡ None → IsAllowed (inode_of x i) attribute →
    after (form_of x) m (SetAttribute i attribute) Done ≡ Some (files_set m x i attribute)

-- what an extension to n bytes answers that adds more than one operation moves, or that no file has
-- room for
abbrev pub SetRefuses : Type 0
SetRefuses = (m : Files) (x : Image) (claims : Claims) (i n : ℕ) → FitsHeld m x claims →
    IsUsed x i → claims i ≡ None → (inode_of x i).size < n →
    ((inode_of x i).size + transfer_limit < n →
    after (form_of x) m (SetAttribute i (Size n)) TooLong ≡ Some m)
    × (n ≤ (inode_of x i).size + transfer_limit → greatest_size (form_of x) < n →
    after (form_of x) m (SetAttribute i (Size n)) TooBig ≡ Some m)

-- an extension to n bytes wrote k zeroes behind the file's end: these are the files after it
abbrev pub AdditionAnswers : Type 0
AdditionAnswers = (m : Files) (x : Image) (claims : Claims) (i : ℕ) (g : Growth) (old : File)
    (n k : ℕ) → IsHeldIn m x claims i (grows g) → g.at_end ≡ true → g.offset < n →
    HasWritten x g g.offset (replicate (n - g.offset) 0) k → file_in m i ≡ Some old →
    after (form_of x) m (SetAttribute i (Size n)) (Wrote k) ≡ Some (files_grown m i old g)

-- the copy is written back: the number is at rest, with the same files
abbrev pub SetRests : Type 0
SetRests = (m : Files) (x : Image) (claims new : Claims) (i : ℕ) (d : Dinode) →
    IsHeldIn m x claims i (grows (unwritten d)) → IsClaimedNow claims i None new →
    FitsThen m x claims i (with_inode x i d) new
