-- The bytes of the files of a tree that are no directories.
use Rattle.std.specs.Prelude.{◌≡◌, ◌≢◌, ◌⊎◌, ℕ, min, List, [], slice_set, Some, Ok, Err}
use Rattle.model.specs.declared.types.image.File.{File}
use Rattle.model.specs.Files.{Files, file_in}
use Rattle.model.specs.Operations.{part_of, transfer_limit, with_bytes}
use Rattle.directories.specs.declared.refusal.Refusal.{Refusal}
use Rattle.directories.specs.declared.refusal.Refusal.TheVariants.{IsADirectory}
use Rattle.directories.specs.Trees.{directory_kind, root, IsDirectory}
use Rattle.directories.specs.Walks.{walked}

-- a file of bytes: it is there, and is no directory
pub record IsPlainFile (files : Files) (number : ℕ) (file : File) : Type 0 where
  pub there : file_in files number ≡ Some file
  pub plain : file.kind ≢ directory_kind

-- the bytes of a file from an offset on, as many as one read brings, and no file changes
pub record ReadsOf (number offset count : ℕ) (bytes : List ℕ) (files new : Files)
    : Type 0 where
  pub same : new ≡ files
  pub file : File
  pub plain : IsPlainFile files number file
  pub bytes_are : bytes ≡ part_of file.bytes offset (min count transfer_limit)

-- names lead to a file with these bytes
pub record Reads (names : List (List ℕ)) (offset count : ℕ) (bytes : List ℕ)
    (files new : Files) : Type 0 where
  pub number : ℕ
  pub led : walked files root names ≡ Ok number
  pub read : ReadsOf number offset count bytes files new

-- A file of bytes has these alone, in place of its own, and nothing else changed.
pub record HasOnly (number : ℕ) (bytes : List ℕ) (files new : Files) : Type 0 where
  pub file : File
  pub plain : IsPlainFile files number file
  pub is : new ≡ slice_set files number (with_bytes file bytes)

-- the file that names lead to has no bytes
pub record Empties (names : List (List ℕ)) (done : Unit {0}) (files new : Files) : Type 0 where
  pub number : ℕ
  pub led : walked files root names ≡ Ok number
  pub emptied : HasOnly number [] files new

-- a directory is neither read nor written so
abbrev pub IsNoPlain : ℕ → Files → Refusal → Type 0
IsNoPlain number files cause = (cause ≡ IsADirectory) × IsDirectory files number

-- why names lead to no file of bytes
abbrev pub LeadsToNoPlain : List (List ℕ) → Files → Refusal → Type 0
LeadsToNoPlain names files cause = (walked files root names ≡ Err cause)
    ⊎ ((number : ℕ) × (walked files root names ≡ Ok number) × IsNoPlain number files cause)
