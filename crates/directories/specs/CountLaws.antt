-- Changes of a tree behind which each file's count is how many names lead to it, where it was before.
use Rattle.std.specs.Prelude.{◌≡◌, ◌≢◌, ℕ, ◌+◌, ◌<◌, ◌≤◌, List, Some, None}
use Rattle.model.specs.declared.types.image.File.{File}
use Rattle.model.specs.Files.{Files, file_in}
use Rattle.directories.specs.Counts.{AreCounted, HasNames}
use Rattle.directories.specs.TreeChanges.{directory_file, AddsDirectory, AddsName, DropsDirectory, DropsName, KeepsNames, LinksName, MovesDirectory, MovesName, UnlinksName}
use Rattle.directories.specs.TreeLaws.{IsNew}
use Rattle.directories.specs.Trees.{directory_kind, links_of, root, HasOtherName, IsDirectory, IsDown, IsNamedOnce, IsTree, StepsDown}

-- a directory's count is as it was
abbrev pub KeepsCount : Files → Files → ℕ → Type 0
KeepsCount files new number = links_of (file_in new number) ≡ links_of (file_in files number)

-- it is greater by one
abbrev pub CountsMore : Files → Files → ℕ → Type 0
CountsMore files new number = links_of (file_in new number) ≡ links_of (file_in files number) + 1

-- or less by one
abbrev pub CountsLess : Files → Files → ℕ → Type 0
CountsLess files new number = links_of (file_in files number) ≡ links_of (file_in new number) + 1

-- A file that is no directory is added with the count 1.
abbrev pub AddingCounts : Type 0
AddingCounts = (files new : Files) (from number : ℕ) (name : List ℕ) (file : File)
    → AreCounted files → IsTree new → IsDirectory files from → IsDown name
    → file.kind ≢ directory_kind → file.links ≡ 1 → KeepsCount files new from
    → AddsName files new from name number file → AreCounted new

-- A directory is added: it has the count 1, and its parent one more.
abbrev pub AddingDirectoryCounts : Type 0
AddingDirectoryCounts = (files new : Files) (from number : ℕ) (name : List ℕ)
    → AreCounted files → IsTree new → IsDirectory files from → IsDown name
    → IsNew (directory_file number from) number from → CountsMore files new from
    → AddsDirectory files new from name number → AreCounted new

-- A file that is no directory is dropped with its name.
abbrev pub DroppingCounts : Type 0
DroppingCounts = (files new : Files) (from number : ℕ) (name : List ℕ)
    → AreCounted files → IsTree new → IsDirectory files from → IsDown name
    → (IsDirectory files number → ⊥) → KeepsCount files new from
    → DropsName files new from name number → AreCounted new

-- An empty directory is dropped: its parent's count is less by one.
abbrev pub DroppingDirectoryCounts : Type 0
DroppingDirectoryCounts = (files new : Files) (from number : ℕ) (name : List ℕ)
    → AreCounted files → IsTree files → IsTree new → IsDirectory files from → IsDown name
    → CountsLess files new from → DropsDirectory files new from name number → AreCounted new

-- A file has another name in place of its old one, and each count stays.
abbrev pub MovingCounts : Type 0
MovingCounts = (files new : Files) (from to number : ℕ) (old name : List ℕ)
    → AreCounted files → IsDirectory files from → IsDirectory files to → IsDown old → IsDown name
    → ((i : ℕ) → KeepsCount files new i) → MovesName files new from old to name number
    → AreCounted new

-- A directory moves to another one: that one's count is greater by one, the old parent's less.
abbrev pub MovingDirectoryCounts : Type 0
MovingDirectoryCounts = (files new : Files) (from to number : ℕ) (old name : List ℕ)
    → AreCounted files → IsTree files → IsDirectory files from → IsDirectory files to → from ≢ to
    → IsDirectory files number → IsDown old → IsDown name
    → CountsLess files new from → CountsMore files new to
    → ((i : ℕ) → i ≢ from → i ≢ to → KeepsCount files new i)
    → MovesDirectory files new from old to name number → AreCounted new

-- Files that are no directories are written, and each count stays.
abbrev pub KeepingCounts : Type 0
KeepingCounts = (files new : Files) → AreCounted files → ((i : ℕ) → KeepsCount files new i)
    → KeepsNames files new → AreCounted new

-- The root with its two entries alone has the count 1.
abbrev pub RootCounts : Type 0
RootCounts = (files : Files) → IsTree files
    → file_in files root ≡ Some (directory_file root root)
    → ((i : ℕ) → i ≢ root → file_in files i ≡ None) → AreCounted files

-- ---- several names

-- A file that is no directory has one name more, and a tree is left whose counts are right.
abbrev pub LinkingKeeps : Type 0
LinkingKeeps = (files new : Files) (from number : ℕ) (name : List ℕ)
    → AreCounted files → IsTree files → IsDirectory files from → IsDown name
    → KeepsCount files new from → LinksName files new from name number
    → IsTree new × AreCounted new

-- It has one less of several, and so it is.
abbrev pub UnlinkingKeeps : Type 0
UnlinkingKeeps = (files new : Files) (from number : ℕ) (name : List ℕ)
    → AreCounted files → IsTree files → IsDirectory files from → IsDown name
    → HasOtherName files from name number → KeepsCount files new from
    → UnlinksName files new from name number → IsTree new × AreCounted new

-- A file whose count is 1 has one name.
abbrev pub OneCountsOnce : Type 0
OneCountsOnce = (files : Files) (number : ℕ) → AreCounted files
    → links_of (file_in files number) ≡ 1 → IsNamedOnce files number

-- One whose count is more has another name, if it is no directory.
abbrev pub MoreCountOthers : Type 0
MoreCountOthers = (files : Files) (from number : ℕ) (name : List ℕ)
    → IsTree files → AreCounted files → (IsDirectory files number → ⊥)
    → StepsDown files from name number → 2 ≤ links_of (file_in files number)
    → HasOtherName files from name number

-- A directory's count is never 0, so xv6's kernel doesn't free it.
abbrev pub DirectoriesCount : Type 0
DirectoriesCount = (files : Files) (number : ℕ) → IsTree files → AreCounted files
    → IsDirectory files number → 0 < links_of (file_in files number)

-- No two counts are right.
abbrev pub CountsAreOne : Type 0
CountsAreOne = (files : Files) (number a b : ℕ) → HasNames files number a
    → HasNames files number b → a ≡ b
