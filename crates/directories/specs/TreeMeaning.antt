-- What a tree says of its directories and their entries.
use Rattle.std.specs.Prelude.{◌≡◌, ◌≢◌, ℕ, ◌<◌, false, List, length, Some, None}
use Rattle.model.specs.declared.types.image.File.{File}
use Rattle.model.specs.Files.{Files, file_in}
use Rattle.directories.specs.Entries.{entries_of, entry_at, is_free, name_in, number_in}
use Rattle.directories.specs.Trees.{directory_in, number_of, parent_name, root, IsDirectory, IsDirectoryOf, IsDown, IsFile, IsNamedOnce, IsOutside, IsTidy, IsTree, Steps}
use Rattle.directories.specs.TreeChanges.{IsUnnamed, LeadsTo, MovesName}

-- Each directory of a tree has its own two entries.
abbrev pub DirectoriesAreTidy : Type 0
DirectoriesAreTidy = (files : Files) (from : ℕ) → IsTree files → IsDirectory files from
    → IsTidy (directory_in files from)
    × ((parent : ℕ) × IsDirectoryOf (directory_in files from) from parent)

-- What a name leads down to is a file, which is neither the root nor the directory that has it.
abbrev pub StepsLead : Type 0
StepsLead = (files : Files) (from number : ℕ) (name : List ℕ) → IsTree files → IsDown name
    → Steps files from name number
    → IsFile files number × (number ≢ root) × (number ≢ from)

-- The root is below no file but itself.
abbrev pub RootIsOutside : Type 0
RootIsOutside = (files : Files) (number : ℕ) → IsTree files → number ≢ root
    → IsOutside files number root

-- What is below a directory's parent, or is not, is so for the directory, unless it is that itself.
abbrev pub ParentsDecide : Type 0
ParentsDecide = (files : Files) (number from parent : ℕ) → IsTree files
    → IsDirectory files from → from ≢ root → number_of files from parent_name ≡ Some parent
    → (from ≢ number → IsOutside files number parent → IsOutside files number from)
    × ((IsOutside files number parent → ⊥) → IsOutside files number from → ⊥)
    × IsDirectory files parent

-- an entry of a directory is used
pub record IsUsed (files : Files) (from place : ℕ) : Type 0 where
  pub directory : IsDirectory files from
  pub inside : place < length (entries_of (directory_in files from))
  pub used : is_free (entry_at (directory_in files from) place) ≡ false

-- the name that an entry of a directory has, and the number
abbrev pub name_at : Files → ℕ → ℕ → List ℕ
name_at files from place = name_in (entry_at (directory_in files from) place)

abbrev pub number_at : Files → ℕ → ℕ → ℕ
number_at files from place = number_in (entry_at (directory_in files from) place)

-- Each used entry's name leads to its number.
abbrev pub EntriesLead : Type 0
EntriesLead = (files : Files) (from place : ℕ) → IsTree files → IsUsed files from place
    → number_of files from (name_at files from place) ≡ Some (number_at files from place)

-- No directory's number stands in two entries of a tree, but in those for itself and for its parent.
abbrev pub NumbersStandOnce : Type 0
NumbersStandOnce = (files : Files) (from place other behind : ℕ) → IsTree files
    → IsUsed files from place → IsDown (name_at files from place)
    → IsUsed files other behind → IsDown (name_at files other behind)
    → number_at files from place ≡ number_at files other behind
    → IsDirectory files (number_at files other behind)
    → (from ≡ other) × (place ≡ behind)

-- A file that was made and not linked leaves no tree, nor does the only name of a file unlinked whose
-- file is there, a file removed whose name is there, a second name for a directory, or a directory
-- moved to another that has the first one yet as its parent.
pub record HalvesAreNoTree (files half : Files) : Type 0 where
  pub made : (number : ℕ) (file : File) → IsUnnamed files half number file → IsTree half → ⊥
  pub freed : (from number : ℕ) (name : List ℕ) → IsDown name → Steps files from name number
      → IsNamedOnce files number → LeadsTo files half from name None → IsTree half → ⊥
  pub removed : (from number : ℕ) (name : List ℕ) → IsDown name → Steps files from name number
      → file_in half number ≡ None
      → ((i : ℕ) → i ≢ number → file_in half i ≡ file_in files i) → IsTree half → ⊥
  pub linked : (from number : ℕ) (name : List ℕ) → IsDown name → IsDirectory files from
      → IsDirectory files number → number_of files from name ≡ None
      → LeadsTo files half from name (Some number) → IsTree half → ⊥
  pub moved : (from to number : ℕ) (old name : List ℕ) → IsDown old → IsDown name
      → IsDirectory files from → IsDirectory files to → IsDirectory files number → from ≢ to
      → MovesName files half from old to name number → IsTree half → ⊥

-- So one operation of two is never enough, and both belong into one transaction.
abbrev pub NoHalfIsTree : Type 0
NoHalfIsTree = (files half : Files) → IsTree files → HalvesAreNoTree files half
