-- How many names lead to each file, and the counts of links that say so.
use Rattle.std.specs.Prelude.{◌≡◌, ◌≢◌, ◌⊎◌, ℕ, ◌<◌, ◌≤◌, List, [], ◌∷◌, length}
use Rattle.model.specs.Files.{Files, file_in}
use Rattle.directories.specs.Trees.{links_of, self_name, IsTree, Steps}

-- a name of the directory with a number
abbrev pub Place : Type 0
Place = ℕ × List ℕ

-- The name leads to a number, and is not a directory's for itself: xv6 counts it.
abbrev pub IsNameOf : Files → ℕ → Place → Type 0
IsNameOf files number place = (place.1 ≢ self_name) × Steps files place.0 place.1 number

-- a name is one of these
abbrev pub IsIn : List Place → Place → Type 0
IsIn [] place = ⊥
IsIn (other ∷ places) place = (other ≡ place) ⊎ IsIn places place

-- none of these stands there twice
abbrev pub AreDistinct : List Place → Type 0
AreDistinct [] = Unit {0}
AreDistinct (place ∷ places) = (IsIn places place → ⊥) × AreDistinct places

-- Just so many names are so.
pub record AreCount (So : Place → Type 0) (count : ℕ) : Type 0 where
  pub places : List Place
  pub many : length places ≡ count
  pub distinct : AreDistinct places
  pub so : (place : Place) → IsIn places place → So place
  pub all : (place : Place) → So place → IsIn places place

-- just so many names lead to a number
abbrev pub HasNames : Files → ℕ → ℕ → Type 0
HasNames files number count = AreCount (IsNameOf files number) count

-- a file's count is how many names lead to it
abbrev pub HasRightCount : Files → ℕ → Type 0
HasRightCount files number = HasNames files number (links_of (file_in files number))

-- Each file's count is how many names lead to it: a directory's its own name, or the root's for its
-- parent, and those of the directories in it for their parent; and no name leads where no file is.
abbrev pub AreCounted : Files → Type 0
AreCounted files = (i : ℕ) → HasNames files i (links_of (file_in files i))

-- A tree came of another one, and its counts are right where that one's were.
pub record StaysCounted (files new : Files) : Type 0 where
  pub tree : IsTree new
  pub counted : AreCounted files → AreCounted new

-- a name leads to a file, as its count says
abbrev pub HasLinks : Files → ℕ → Type 0
HasLinks files number = 0 < links_of (file_in files number)

-- the greatest count: xv6's own is a signed number of 16 bits
abbrev pub most_links : ℕ
most_links = 32767

-- a file's count is no less
abbrev pub HasMostLinks : Files → ℕ → Type 0
HasMostLinks files number = most_links ≤ links_of (file_in files number)
