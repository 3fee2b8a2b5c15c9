-- A file removed from a tree.
use Rattle.std.specs.Prelude.{◌≡◌, ◌⊎◌, ℕ, ◌+◌, List, Some, None}
use Rattle.model.specs.Files.{Files, file_in}
use Rattle.directories.specs.declared.refusal.Refusal.{Refusal}
use Rattle.directories.specs.declared.refusal.Refusal.TheVariants.{NotFound, NotADirectory, IsRoot, Exists, Full, NoNumber, NoBlock, IsADirectory, NotEmpty, IsInside, NotDown, TooManyLinks}
use Rattle.directories.specs.TreeChanges.{DropsName, UnlinksName}
use Rattle.directories.specs.Trees.{directory_in, links_of, number_of, HasOtherName, IsDirectory, IsDown, IsEmpty, IsNamedOnce}
use Rattle.directories.specs.Walks.{AtLast}

-- a name of a directory is gone, and its file, which had no other name; or the file has others, and a
-- count that says so
abbrev pub RemovesIn : ℕ → List ℕ → Unit {0} → Files → Files → Type 0
RemovesIn from name done files new = (number : ℕ)
    × ((DropsName files new from name number × IsNamedOnce files number)
    ⊎ (UnlinksName files new from name number × HasOtherName files from name number))

-- In a directory of these bytes a name that leads down leads to that file, and no other name does; a
-- directory has nothing in it.
pub record MayDrop (files : Files) (from : ℕ) (bytes name : List ℕ) (number : ℕ) : Type 0 where
  pub is : IsDirectory files from
  pub bytes_are : bytes ≡ directory_in files from
  pub down : IsDown name
  pub led : number_of files from name ≡ Some number
  pub once : IsNamedOnce files number
  pub empty : IsDirectory files number → IsEmpty (directory_in files number)

-- In a directory of these bytes a name leads to that file, which is no directory, and another name does;
-- without that one it has that count.
pub record MayLose (files : Files) (from : ℕ) (bytes name : List ℕ) (number left : ℕ) : Type 0 where
  pub is : IsDirectory files from
  pub bytes_are : bytes ≡ directory_in files from
  pub down : IsDown name
  pub led : number_of files from name ≡ Some number
  pub other : HasOtherName files from name number
  pub plain : IsDirectory files number → ⊥
  pub less : left + 1 ≡ links_of (file_in files number)

-- the count of a directory is as it was
abbrev pub KeepsLinks : ℕ → Files → Files → Type 0
KeepsLinks from files new = links_of (file_in new from) ≡ links_of (file_in files from)

-- why none is
abbrev pub IsUnremovedIn : Files → ℕ → List ℕ → Refusal → Type 0
IsUnremovedIn files from name NotADirectory = IsDirectory files from → ⊥
IsUnremovedIn files from name NotFound =
    IsDirectory files from × (number_of files from name ≡ None)
IsUnremovedIn files from name IsADirectory = IsDirectory files from
    × ((number : ℕ) × (number_of files from name ≡ Some number) × IsDirectory files number)
IsUnremovedIn files from name TooManyLinks = ⊥
IsUnremovedIn files from name IsRoot = ⊥
IsUnremovedIn files from name Exists = ⊥
IsUnremovedIn files from name Full = ⊥
IsUnremovedIn files from name NoNumber = ⊥
IsUnremovedIn files from name NoBlock = ⊥
IsUnremovedIn files from name NotEmpty = ⊥
IsUnremovedIn files from name IsInside = ⊥
IsUnremovedIn files from name NotDown = ⊥

-- the last of these names is gone, and its file, from the directory that the others lead to
abbrev pub RemovesAt : List (List ℕ) → Unit {0} → Files → Files → Type 0
RemovesAt names = AtLast RemovesIn names
