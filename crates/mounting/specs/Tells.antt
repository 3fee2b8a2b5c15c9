-- What is told of a file.
use Rattle.std.specs.Prelude.{◌≡◌, ◌⊎◌, ℕ, ◌+◌, ◌*◌, ◌/◌, ◌==◌, if◌then◌else◌, Bool, true, false, List, ◌++◌, Ok}
use Rattle.directories.specs.Walks.{stepped}
use Rattle.fuse.specs.Answers.{attributes_answer_bytes, entry_answer_bytes, opened_answer_bytes}
use Rattle.fuse.specs.declared.answers.Attributes.{Attributes}
use Rattle.model.specs.Files.{Files}
use Rattle.names.specs.declared.asking.Found.{Found}
use Rattle.names.specs.Looks.{IsFound}

-- the upper bits of a mode: a directory, a file of bytes, or a device
abbrev pub type_bits : ℕ → ℕ
type_bits kind = if kind == 1 then 4 else if kind == 2 then 8 else 2

-- The links that are told of a file: those of a directory count its name for itself, too; a file
-- that has only a name aside has none that a program sees.
abbrev pub AreTold : Bool → ℕ → ℕ → Type 0
AreTold true links told = told ≡ links + 1
AreTold false links told = (told ≡ links) ⊎ (told ≡ 0)

-- what an image has no place for is as the mount keeps it
pub record IsTold (found : Found) (a : Attributes) : Type 0 where
  pub number : a.number ≡ found.number
  pub size : a.size ≡ found.size
  pub pieces : a.pieces ≡ 2 * ((found.size + 1023) / 1024)
  pub kind : a.mode / 4096 ≡ type_bits found.kind
  pub links : AreTold (found.kind == 1) found.links a.links

-- it is told behind what was told, and with it how long the system may rely on that
abbrev pub AddsAttributes : Found → List ℕ → List ℕ → Type 0
AddsAttributes found old new = (a : Attributes) × ((valid : ℕ)
    × ((new ≡ old ++ attributes_answer_bytes a valid) × IsTold found a))

-- the same of a file of a name, with how many files had its number before
abbrev pub AddsEntry : Found → List ℕ → List ℕ → Type 0
AddsEntry found old new = (a : Attributes) × ((generation : ℕ) × ((valid : ℕ)
    × ((new ≡ old ++ entry_answer_bytes a generation valid) × IsTold found a)))

-- by its number
abbrev pub TellsAttributes : Files → ℕ → List ℕ → List ℕ → Type 0
TellsAttributes files number old new =
    (found : Found) × (IsFound files number found × AddsAttributes found old new)

abbrev pub TellsEntry : Files → ℕ → List ℕ → List ℕ → Type 0
TellsEntry files number old new =
    (found : Found) × (IsFound files number found × AddsEntry found old new)

-- by a name in a directory
abbrev pub TellsNamed : Files → ℕ → List ℕ → List ℕ → List ℕ → Type 0
TellsNamed files from name old new =
    (number : ℕ) × ((stepped files from name ≡ Ok number) × TellsEntry files number old new)

-- how a file was opened
abbrev pub TellsOpened : ℕ → List ℕ → List ℕ → Type 0
TellsOpened flags old new =
    new ≡ old ++ opened_answer_bytes (record { handle = 0; flags = flags })
