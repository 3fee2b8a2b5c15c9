-- A directory removed from a tree.
use Rattle.std.specs.Prelude.{◌≡◌, ◌⊎◌, ℕ, Bool, List, Option, Some, None, IsTrue, ◌↔◌}
use Rattle.model.specs.Files.{Files}
use Rattle.directories.specs.declared.refusal.Refusal.{Refusal}
use Rattle.directories.specs.declared.refusal.Refusal.TheVariants.{NotFound, NotADirectory, IsRoot, Exists, Full, NoNumber, NoBlock, IsADirectory, NotEmpty, IsInside, NotDown, TooManyLinks}
use Rattle.directories.specs.TreeChanges.{DropsDirectory}
use Rattle.directories.specs.Trees.{directory_in, number_of, IsDirectory, IsDown, IsEmpty}
use Rattle.directories.specs.Walks.{AtLast}

-- whether nothing is in a directory, or that a file is none
abbrev pub IsEmptinessOf : Files → ℕ → Option Bool → Type 0
IsEmptinessOf files number None = IsDirectory files number → ⊥
IsEmptinessOf files number (Some empty) =
    IsDirectory files number × (IsTrue empty ↔ IsEmpty (directory_in files number))

-- a name of a directory is gone, and the empty directory that it led to
abbrev pub RemovesDirectoryIn : ℕ → List ℕ → Unit {0} → Files → Files → Type 0
RemovesDirectoryIn from name done files new =
    (number : ℕ) × DropsDirectory files new from name number

-- why none is
abbrev pub IsUnemptiedIn : Files → ℕ → List ℕ → Refusal → Type 0
IsUnemptiedIn files from name NotADirectory = (IsDirectory files from → ⊥)
    ⊎ ((number : ℕ) × (number_of files from name ≡ Some number)
    × (IsDirectory files number → ⊥))
IsUnemptiedIn files from name NotFound =
    IsDirectory files from × (number_of files from name ≡ None)
IsUnemptiedIn files from name NotEmpty = (number : ℕ)
    × (number_of files from name ≡ Some number) × IsDirectory files number
    × (IsEmpty (directory_in files number) → ⊥)
IsUnemptiedIn files from name NotDown = IsDirectory files from × (IsDown name → ⊥)
IsUnemptiedIn files from name IsRoot = ⊥
IsUnemptiedIn files from name Exists = ⊥
IsUnemptiedIn files from name Full = ⊥
IsUnemptiedIn files from name NoNumber = ⊥
IsUnemptiedIn files from name NoBlock = ⊥
IsUnemptiedIn files from name IsADirectory = ⊥
IsUnemptiedIn files from name IsInside = ⊥
IsUnemptiedIn files from name TooManyLinks = ⊥

-- the last of these names is gone, and its empty directory, from the directory that the others lead to
abbrev pub RemovesDirectoryAt : List (List ℕ) → Unit {0} → Files → Files → Type 0
RemovesDirectoryAt names = AtLast RemovesDirectoryIn names
