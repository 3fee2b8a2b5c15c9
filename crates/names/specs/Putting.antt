-- Bytes put into a file of a tree, which is made where it isn't there.
use Rattle.std.specs.Prelude.{⊤, ◌≡◌, ◌⊎◌, ℕ, ◌<◌, ◌≤◌, List, length, Result, Some, Ok, Err}
use Rattle.model.specs.declared.types.image.File.{File}
use Rattle.model.specs.Files.{Files}
use Rattle.model.specs.Operations.{transfer_limit}
use Rattle.directories.specs.declared.refusal.Refusal.{Refusal}
use Rattle.directories.specs.declared.refusal.Refusal.TheVariants.{NotFound, NotADirectory, IsRoot, Exists, Full, NoNumber, NoBlock, IsADirectory, NotEmpty, IsInside, NotDown, TooManyLinks}
use Rattle.names.specs.declared.writing.Unwritten.{Unwritten}
use Rattle.names.specs.declared.writing.Unwritten.TheVariants.{TooLong}
use Rattle.names.specs.Contents.{HasOnly}
use Rattle.names.specs.Making.{file_kind, IsUnmadeIn, IsUnmadeOr}
use Rattle.directories.specs.TreeChanges.{AddsName}
use Rattle.directories.specs.Trees.{number_of, IsDirectory, Steps}
use Rattle.directories.specs.Walks.{AtLast}

-- a file of these bytes that is no directory
abbrev pub file_of : List ℕ → File
file_of bytes = record { kind = file_kind; links = 1; bytes = bytes }

-- the file of a number has these alone, and the number is told again
abbrev pub Refills : ℕ → List ℕ → ℕ → Files → Files → Type 0
Refills number bytes told files new = (told ≡ number) × HasOnly number bytes files new

-- The file of a name of a directory has these bytes alone: it was made with them, or they are in place
-- of its own.
abbrev pub HoldsIn : List ℕ → ℕ → List ℕ → ℕ → Files → Files → Type 0
HoldsIn bytes from name number files new = AddsName files new from name number (file_of bytes)
    ⊎ (Steps files from name number × HasOnly number bytes files new)

-- and they are more than one write moves where it is not done
abbrev pub PutsIn : List ℕ → ℕ → List ℕ → Result ℕ Unwritten → Files → Files → Type 0
PutsIn bytes from name (Ok number) files new =
    (length bytes ≤ transfer_limit) × HoldsIn bytes from name number files new
PutsIn bytes from name (Err cause) files new =
    (cause ≡ TooLong) × (transfer_limit < length bytes) × (new ≡ files)

-- the number of the file that they were put into
abbrev pub told : Result ℕ Refusal → Result (Result ℕ Unwritten) Refusal
told (Ok number) = Ok (Ok number)
told (Err cause) = Err cause

-- why the files refuse it
abbrev pub IsUnputIn : Files → ℕ → List ℕ → Refusal → Type 0
IsUnputIn files from name NotADirectory = IsUnmadeIn files from name NotADirectory
IsUnputIn files from name Full = IsUnmadeIn files from name Full
IsUnputIn files from name NoNumber = IsUnmadeIn files from name NoNumber
IsUnputIn files from name NoBlock = IsUnmadeOr ⊥ ⊤ files from name NoBlock
IsUnputIn files from name IsADirectory = IsDirectory files from
    × ((number : ℕ) × (number_of files from name ≡ Some number) × IsDirectory files number)
IsUnputIn files from name NotFound = ⊥
IsUnputIn files from name IsRoot = ⊥
IsUnputIn files from name Exists = ⊥
IsUnputIn files from name NotEmpty = ⊥
IsUnputIn files from name IsInside = ⊥
IsUnputIn files from name NotDown = ⊥
IsUnputIn files from name TooManyLinks = ⊥

-- at the last of these names, in the directory that the others lead to
abbrev pub PutsAt : List ℕ → List (List ℕ) → Result ℕ Unwritten → Files → Files → Type 0
PutsAt bytes names = AtLast (PutsIn bytes) names
