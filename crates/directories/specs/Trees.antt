-- Directories within directories, as names: where they lead, and when they are a tree.
use Rattle.std.specs.Prelude.{◌≡◌, ◌≢◌, ◌⊎◌, Bool, ◌||◌, not, ℕ, ◌%◌, List, [], ◌∷◌, ◌++◌, length, Option, Some, None}
use Rattle.std.specs.Str.{bytes_eq}
use Rattle.model.specs.declared.types.image.File.{File}
use Rattle.model.specs.Files.{Files, file_in}
use Rattle.directories.specs.Entries.{entries_of, entry_bytes, entry_size, is_free, lookup, name_in, padded, AreNamed, HasOnce}

-- the number of the directory that all paths begin at
abbrev pub root : ℕ
root = 1

-- the type of a file that is a directory
abbrev pub directory_kind : ℕ
directory_kind = 1

-- a file's type, and 0 where there is none
abbrev pub kind_of : Option File → ℕ
kind_of None = 0
kind_of (Some file) = file.kind

-- a file's count of links, and 0 where there is none
abbrev pub links_of : Option File → ℕ
links_of None = 0
links_of (Some file) = file.links

-- a file's bytes; none where there is no file
abbrev pub bytes_of : Option File → List ℕ
bytes_of None = []
bytes_of (Some file) = file.bytes

-- the bytes of a directory
abbrev pub directory_in : Files → ℕ → List ℕ
directory_in files from = bytes_of (file_in files from)

-- the number that a name leads to from a directory
abbrev pub number_of : Files → ℕ → List ℕ → Option ℕ
number_of files from name = lookup (directory_in files from) name

abbrev pub IsFile : Files → ℕ → Type 0
IsFile files number = file_in files number ≢ None

abbrev pub IsDirectory : Files → ℕ → Type 0
IsDirectory files number = kind_of (file_in files number) ≡ directory_kind

-- ---- names

-- the names of a directory for itself and for its parent
abbrev pub self_name : List ℕ
self_name = padded (46 ∷ [])

abbrev pub parent_name : List ℕ
parent_name = padded (46 ∷ 46 ∷ [])

-- a name that leads down
abbrev pub IsDown : List ℕ → Type 0
IsDown name = (name ≢ self_name) × (name ≢ parent_name)

-- a name leads from a directory to a number; from another file none does
abbrev pub Steps : Files → ℕ → List ℕ → ℕ → Type 0
Steps files from name number = IsDirectory files from × (number_of files from name ≡ Some number)

-- a name that leads down leads from a directory to a number
abbrev pub StepsDown : Files → ℕ → List ℕ → ℕ → Type 0
StepsDown files from name number = IsDown name × Steps files from name number

-- names that lead down from a file to a number, the last of them first
abbrev pub IsPath : Files → ℕ → List (List ℕ) → ℕ → Type 0
IsPath files from [] number = from ≡ number
IsPath files from (name ∷ names) number =
    (up : ℕ) × IsDown name × IsPath files from names up × Steps files up name number

-- At most one name of all directories leads down to a number.
pub record IsNamedOnce (files : Files) (number : ℕ) : Type 0 where
  pub directory : (from other : ℕ) (x y : List ℕ) → StepsDown files from x number
      → StepsDown files other y number → from ≡ other
  pub name : (from other : ℕ) (x y : List ℕ) → StepsDown files from x number
      → StepsDown files other y number → x ≡ y

-- A name of a directory is not the only one that leads down to a number.
pub record HasOtherName (files : Files) (from : ℕ) (name : List ℕ) (number : ℕ) : Type 0 where
  pub other : ℕ
  pub second : List ℕ
  pub apart : (other ≢ from) ⊎ (second ≢ name)
  pub leads : StepsDown files other second number

-- no file is moved into itself: no path leads from it to the other
abbrev pub IsOutside : Files → ℕ → ℕ → Type 0
IsOutside files number other = (names : List (List ℕ)) → IsPath files number names other → ⊥

-- ---- directories

-- whole entries, each used one has a name, and no name stands twice
pub record IsTidy (bytes : List ℕ) : Type 0 where
  pub whole : length bytes % entry_size ≡ 0
  pub named : AreNamed (entries_of bytes)
  pub once : (name : List ℕ) → HasOnce bytes name

-- the bytes of a directory with that number and that parent
pub record IsDirectoryOf (bytes : List ℕ) (number parent : ℕ) : Type 0 where
  pub tidy : IsTidy bytes
  pub own : lookup bytes self_name ≡ Some number
  pub up : lookup bytes parent_name ≡ Some parent

-- nothing is in a directory but its own two entries: it may be removed
abbrev pub IsEmpty : List ℕ → Type 0
IsEmpty bytes = (name : List ℕ) → IsDown name → lookup bytes name ≡ None

-- an entry is free, or has a directory's name for itself or for its parent
abbrev pub is_none_down : List ℕ → Bool
is_none_down entry =
    is_free entry || bytes_eq (name_in entry) self_name || bytes_eq (name_in entry) parent_name

-- an entry is used, and its name leads down
abbrev pub leads_down : List ℕ → Bool
leads_down entry = not (is_none_down entry)

-- the bytes of a new directory
abbrev pub new_directory : ℕ → ℕ → List ℕ
new_directory number parent = entry_bytes number self_name ++ entry_bytes parent parent_name

-- ---- the tree

-- Each path leads to a file, each file has a path from the root, and each directory one: so each
-- directory but the root has one parent and one name there, none is out of reach, and there is no
-- cycle. The root is its own parent. A file that is no directory may have several names.
pub record IsTree (files : Files) : Type 0 where
  pub rooted : IsDirectory files root
  pub top : IsDirectoryOf (directory_in files root) root root
  pub below : (from number : ℕ) (name : List ℕ) → IsDown name → Steps files from name number
      → IsDirectory files number → IsDirectoryOf (directory_in files number) number from
  pub lead : (names : List (List ℕ)) (number : ℕ) → IsPath files root names number
      → IsFile files number
  pub reach : (number : ℕ) → IsFile files number
      → (names : List (List ℕ)) × IsPath files root names number
  pub one : (a b : List (List ℕ)) (number : ℕ) → IsDirectory files number
      → IsPath files root a number → IsPath files root b number → a ≡ b

-- No file has several names that had one at most.
abbrev pub KeepsOnce : Files → Files → Type 0
KeepsOnce files new = (i : ℕ) → IsNamedOnce files i → IsNamedOnce new i

-- A tree came of another one, and no file has several names that had one at most.
pub record StaysTree (files new : Files) : Type 0 where
  pub tree : IsTree new
  pub once : KeepsOnce files new
