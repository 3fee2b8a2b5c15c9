-- Where the names of a path lead.
use Rattle.std.specs.Prelude.{◌≡◌, ◌⊎◌, ℕ, ◌==◌, if◌then◌else◌, List, [], ◌∷◌, ◌++◌, Option, Some, None, Result, Ok, Err}
use Rattle.model.specs.Files.{Files, file_in}
use Rattle.directories.specs.declared.refusal.Refusal.{Refusal}
use Rattle.directories.specs.declared.refusal.Refusal.TheVariants.{NotFound, NotADirectory, IsRoot}
use Rattle.directories.specs.Trees.{directory_in, directory_kind, kind_of, number_of, root, IsDirectory}

-- the number that was found, or that there is none
abbrev pub found_or : Option ℕ → Result ℕ Refusal
found_or None = Err NotFound
found_or (Some number) = Ok number

-- where a name leads from a file
abbrev pub stepped : Files → ℕ → List ℕ → Result ℕ Refusal
stepped files from name =
    if kind_of (file_in files from) == directory_kind then found_or (number_of files from name)
    else Err NotADirectory

-- a step, and then on from where it led
abbrev pub and_on : Result ℕ Refusal → (ℕ → Result ℕ Refusal) → Result ℕ Refusal
and_on (Ok number) on = on number
and_on (Err cause) on = Err cause

-- where names lead from a file, one after the other
abbrev pub walked : Files → ℕ → List (List ℕ) → Result ℕ Refusal
walked files from [] = Ok from
walked files from (name ∷ names) =
    and_on (stepped files from name) (λ number. walked files number names)

-- the bytes of a directory, or that a file is none
abbrev pub IsDirectoryFound : Files → ℕ → Option (List ℕ) → Type 0
IsDirectoryFound files number None = IsDirectory files number → ⊥
IsDirectoryFound files number (Some bytes) =
    IsDirectory files number × (bytes ≡ directory_in files number)

-- names lead to a number, and no file changes
pub record Finds (names : List (List ℕ)) (number : ℕ) (files new : Files) : Type 0 where
  pub same : new ≡ files
  pub led : walked files root names ≡ Ok number

-- why they lead nowhere
abbrev pub IsUnfound : List (List ℕ) → Files → Refusal → Type 0
IsUnfound names files cause = walked files root names ≡ Err cause

-- All names but the last lead to a number.
pub record LeadsIn (names : List (List ℕ)) (files : Files) (from : ℕ) (name : List ℕ)
    : Type 0 where
  pub parents : List (List ℕ)
  pub split : names ≡ parents ++ name ∷ []
  pub led : walked files root parents ≡ Ok from

-- there are no names, or all but the last lead nowhere
abbrev pub IsUnled : List (List ℕ) → Files → Refusal → Type 0
IsUnled names files cause =
    ((cause ≡ IsRoot) × (names ≡ []))
    ⊎ ((parents : List (List ℕ)) × (name : List ℕ) × (names ≡ parents ++ name ∷ [])
    × (walked files root parents ≡ Err cause))

-- or what is asked in the directory that they lead to is refused
abbrev pub IsUndoneIn : (Files → ℕ → List ℕ → Refusal → Type 0) → List (List ℕ) → Files → Refusal
    → Type 0
IsUndoneIn why names files cause =
    IsUnled names files cause
    ⊎ ((from : ℕ) × (name : List ℕ) × LeadsIn names files from name × why files from name cause)

-- A change was made at the last of these names, in the directory that the others lead to.
pub record AtLast {T : Type 0} (change : ℕ → List ℕ → T → Files → Files → Type 0)
    (names : List (List ℕ)) (made : T) (files new : Files) : Type 0 where
  pub from : ℕ
  pub name : List ℕ
  pub led : LeadsIn names files from name
  pub made_is : change from name made files new

-- names lead to a directory of these bytes, and no file changes
pub record Lists (names : List (List ℕ)) (bytes : List ℕ) (files new : Files) : Type 0 where
  pub same : new ≡ files
  pub number : ℕ
  pub led : walked files root names ≡ Ok number
  pub directory : IsDirectory files number
  pub bytes_are : bytes ≡ directory_in files number

-- why they lead to none
abbrev pub IsUnlisted : List (List ℕ) → Files → Refusal → Type 0
IsUnlisted names files cause = (walked files root names ≡ Err cause)
    ⊎ ((cause ≡ NotADirectory) × ((number : ℕ) × (walked files root names ≡ Ok number)
    × (IsDirectory files number → ⊥)))
