-- How files are seen to be a tree: they are looked into from the root on, in the order that they are
-- found.
use Rattle.std.specs.Prelude.{◌≡◌, ◌≢◌, ◌⊎◌, ℕ, ◌<◌, ◌≤◌, true, false, List, [], ◌∷◌, ◌++◌, length, position, replicate, slice_index, slice_index_or, Some}
use Rattle.model.specs.Files.{Files}
use Rattle.directories.specs.Entries.{is_for, is_free, name_in, number_in}
use Rattle.directories.specs.Trees.{directory_in, leads_down, root, HasOtherName, IsDirectory, IsDirectoryOf, IsFile, StepsDown}

-- no two numbers are equal
pub record AreApart (numbers : List ℕ) : Type 0 where
  pub same : (j k : ℕ) → j < length numbers → k < length numbers
      → slice_index numbers j ≡ slice_index numbers k → j ≡ k

-- a number is among those
pub record IsAmong (numbers : List ℕ) (number : ℕ) : Type 0 where
  pub place : ℕ
  pub inside : place < length numbers
  pub is : slice_index numbers place ≡ number

-- A name leads down from one of the files to a number, which was found behind that, with the file as
-- its parent.
pub record WasFound (numbers parents : List ℕ) (from number : ℕ) : Type 0 where
  pub place : ℕ
  pub behind : from < place
  pub inside : place < length numbers
  pub is : slice_index numbers place ≡ number
  pub parent : slice_index parents place ≡ slice_index numbers from

-- A file that was found has a name in one that was looked into before.
pub record HasName (files : Files) (looked : ℕ) (numbers parents : List ℕ)
    (place : ℕ) : Type 0 where
  pub from : ℕ
  pub before : from < place
  pub seen : from < looked
  pub parent : slice_index numbers from ≡ slice_index parents place
  pub name : List ℕ
  pub step : StepsDown files (slice_index numbers from) name (slice_index numbers place)

-- A name leads down to the root, or two names lead down to a number.
pub record IsNamedAgain (files : Files) (number : ℕ) : Type 0 where
  pub from : ℕ
  pub name : List ℕ
  pub leads : StepsDown files from name number
  pub again : (number ≡ root) ⊎ HasOtherName files from name number

-- These numbers were found from the root on, each with its parent, and the first of them were looked
-- into: they are files, and directories with all that they lead down to among the numbers. Others
-- were found again.
pub record HasFound (files : Files) (looked : ℕ) (numbers parents again : List ℕ) : Type 0 where
  pub few : length parents ≡ length numbers
  pub some : 0 < length numbers
  pub low : looked ≤ length numbers
  pub first : slice_index numbers 0 ≡ root
  pub top : slice_index parents 0 ≡ root
  pub apart : AreApart numbers
  pub there : (j : ℕ) → j < looked → IsFile files (slice_index numbers j)
  pub directories : (j : ℕ) → j < looked → IsDirectory files (slice_index numbers j)
      → IsDirectoryOf (directory_in files (slice_index numbers j))
      (slice_index numbers j) (slice_index parents j)
  pub down : (j number : ℕ) (name : List ℕ) → j < looked
      → StepsDown files (slice_index numbers j) name number
      → WasFound numbers parents j number ⊎ IsAmong again number
  pub names : (j number : ℕ) (x y : List ℕ) → j < looked
      → StepsDown files (slice_index numbers j) x number
      → StepsDown files (slice_index numbers j) y number → (x ≡ y) ⊎ IsAmong again number
  pub up : (m : ℕ) → 0 < m → m < length numbers → HasName files looked numbers parents m
  pub twice : (number : ℕ) → IsAmong again number
      → IsAmong numbers number × IsNamedAgain files number

-- ---- what is seen in the bytes

-- a used entry is the first of its name
abbrev pub IsFirst : List (List ℕ) → ℕ → Type 0
IsFirst entries place = is_free (slice_index_or entries place []) ≡ false
    → position (is_for (name_in (slice_index_or entries place []))) entries ≡ Some place

-- a number that is new stands behind the others, with its parent; another one is found again
abbrev pub AddsChild : ℕ → ℕ → List ℕ → List ℕ → List ℕ → List ℕ → List ℕ → List ℕ → Type 0
AddsChild number from numbers parents again new_numbers new_parents new_again =
    ((IsAmong numbers number → ⊥) × (new_numbers ≡ numbers ++ number ∷ [])
    × (new_parents ≡ parents ++ from ∷ []) × (new_again ≡ again))
    ⊎ (IsAmong numbers number × (new_numbers ≡ numbers) × (new_parents ≡ parents)
    × (new_again ≡ again ++ number ∷ []))

-- an entry's name leads down to a number
abbrev pub LeadsAt : List (List ℕ) → ℕ → ℕ → Type 0
LeadsAt entries place number = (leads_down (slice_index_or entries place []) ≡ true)
    × (number_in (slice_index_or entries place []) ≡ number)

-- one of the first entries leads down to a number
pub record HasEntry (entries : List (List ℕ)) (k number : ℕ) : Type 0 where
  pub place : ℕ
  pub inside : place < k
  pub leads : LeadsAt entries place number

-- and it was found before, or by another of these entries
pub record HasTwice (entries : List (List ℕ)) (k : ℕ) (numbers : List ℕ) (number : ℕ)
    : Type 0 where
  pub place : ℕ
  pub inside : place < k
  pub leads : LeadsAt entries place number
  pub again : IsAmong numbers number
      ⊎ ((other : ℕ) × (other < k) × (other ≢ place) × LeadsAt entries other number)

-- Of the numbers that a directory's first entries lead down to, the new ones stand behind the others,
-- with the directory as their parent, and those that are not new are found again.
pub record AddsFirst (entries : List (List ℕ)) (from : ℕ) (numbers parents again : List ℕ) (k : ℕ)
    (new_numbers new_parents new_again : List ℕ) : Type 0 where
  pub more : List ℕ
  pub numbers_are : new_numbers ≡ numbers ++ more
  pub parents_are : new_parents ≡ parents ++ replicate (length more) from
  pub apart : AreApart new_numbers
  pub lead : (number : ℕ) → IsAmong more number → HasEntry entries k number
  pub each : (j number : ℕ) → j < k → LeadsAt entries j number
      → IsAmong more number ⊎ IsAmong new_again number
  pub pairs : (i j number : ℕ) → i < k → j < k → LeadsAt entries i number
      → LeadsAt entries j number → (i ≡ j) ⊎ IsAmong new_again number
  pub kept : (number : ℕ) → IsAmong again number → IsAmong new_again number
  pub twice : (number : ℕ) → IsAmong new_again number → IsAmong again number
      ⊎ (IsAmong new_numbers number × HasTwice entries k numbers number)

-- the same of all its entries
abbrev pub AddsChildren : List (List ℕ) → ℕ → List ℕ → List ℕ → List ℕ → List ℕ → List ℕ → List ℕ
    → Type 0
AddsChildren entries from numbers parents again new_numbers new_parents new_again =
    AddsFirst entries from numbers parents again (length entries)
    new_numbers new_parents new_again
