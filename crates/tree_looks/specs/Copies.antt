-- What a copy of a file puts, and where.
use Rattle.std.specs.Prelude.{◌≡◌, ◌≢◌, ◌⊎◌, ⊤, ℕ, ◌==◌, if◌then◌else◌, Bool, false, List, ◌++◌, codes, None, Result, Ok, Err}
use Rattle.blocks.specs.declared.disk.Disk.{Ghosts}
use Rattle.directories.specs.Entries.{text_of}
use Rattle.directories.specs.Paths.{IsPathCause, names_of}
use Rattle.directories.specs.Trees.{bytes_of, directory_kind, kind_of, root}
use Rattle.directories.specs.Walks.{walked}
use Rattle.directories.specs.declared.refusal.Refusal.{Refusal}
use Rattle.directories.specs.declared.refusal.Refusal.TheVariants.{Exists}
use Rattle.model.specs.Files.{Files, file_in, files_of}
use Rattle.model.specs.Log.{recovered}
use Rattle.model.specs.Verdict.{verdict}
use Rattle.tree_looks.specs.Listing.{last_of}
use Rattle.tree_looks.specs.Looks.{IsUnseen, IsUnshown, NotOfTree}
use Rattle.tree_looks.specs.declared.copying.CopyFault.{CopyFault}
use Rattle.tree_looks.specs.declared.copying.CopyFault.TheVariants.{Look, IsADevice, SameFile}
use Rattle.tree_looks.specs.declared.faults.LookRefusal.{LookRefusal}
use Rattle.tree_looks.specs.declared.faults.LookRefusal.TheVariants.{Path, Refused, NoMemory}

-- the type of a file of bytes
abbrev pub bytes_kind : ℕ
bytes_kind = 2

-- that of a device
abbrev pub IsDeviceKind : ℕ → Type 0
IsDeviceKind kind = (kind ≢ directory_kind) × (kind ≢ bytes_kind)

-- something leads to a directory
abbrev pub is_directory_at : Files → Result ℕ Refusal → Bool
is_directory_at files (Ok number) = kind_of (file_in files number) == directory_kind
is_directory_at files (Err cause) = false

-- names do
abbrev pub leads_to_directory : Files → List (List ℕ) → Bool
leads_to_directory files names = is_directory_at files (walked files root names)

-- The path of a copy of the file that names lead to: the one that is given, or, where that leads to a
-- directory, the file's own name in it.
abbrev pub path_of_copy : Files → List (List ℕ) → List ℕ → List ℕ
path_of_copy files names to = if leads_to_directory files (names_of to)
    then to ++ codes "/" ++ text_of (last_of names) else to

-- where something leads a copy of the file of that number may be put: to no file, or to another one of
-- bytes
abbrev pub MayTake : Files → ℕ → Result ℕ Refusal → Type 0
MayTake files number (Ok other) = (other ≢ number) × (kind_of (file_in files other) ≡ bytes_kind)
MayTake files number (Err cause) = ⊤

-- The path of a copy of the file of bytes that the first path leads to, and its bytes, which are those of
-- that file.
pub record IsCopyOf (files : Files) (from to path bytes : List ℕ) : Type 0 where
  pub number : ℕ
  pub led : walked files root (names_of from) ≡ Ok number
  pub kind : kind_of (file_in files number) ≡ bytes_kind
  pub bytes_are : bytes ≡ bytes_of (file_in files number)
  pub path_is : path ≡ path_of_copy files (names_of from) to
  pub may_take : MayTake files number (walked files root (names_of path))

-- ---- why there is none

-- a path leads to a file of such a type
abbrev pub LeadsToKind : Files → (ℕ → Type 0) → List ℕ → Type 0
LeadsToKind files P path = (number : ℕ) × (walked files root (names_of path) ≡ Ok number)
    × P (kind_of (file_in files number))

-- to a directory
abbrev pub IsTakenBy : Files → List ℕ → LookRefusal → Type 0
IsTakenBy files path r = (r ≡ Refused Exists) × LeadsToKind files (λ kind. kind ≡ directory_kind) path

-- bytes are no path
abbrev pub IsNoPath : List ℕ → LookRefusal → Type 0
IsNoPath path (Path cause) = IsPathCause path cause
IsNoPath path r = ⊥

-- why a path leads to no file of bytes
abbrev pub IsNoSource : Files → List ℕ → CopyFault → Type 0
IsNoSource files from (Look r) = IsUnshown from files r
IsNoSource files from IsADevice = LeadsToKind files IsDeviceKind from
IsNoSource files from SameFile = ⊥

-- why a copy of the file of that number may not be put at a path
abbrev pub IsNoTarget : Files → ℕ → List ℕ → CopyFault → Type 0
IsNoTarget files number path (Look r) = IsNoPath path r ⊎ IsTakenBy files path r
IsNoTarget files number path IsADevice = LeadsToKind files IsDeviceKind path
IsNoTarget files number path SameFile = walked files root (names_of path) ≡ Ok number

-- the path of a copy is not had: that which is given is none, or memory was refused
abbrev pub IsUnaimed : List ℕ → LookRefusal → Type 0
IsUnaimed to r = IsNoPath to r ⊎ (r ≡ NoMemory)

-- two paths lead to one file
abbrev pub LeadToOne : Files → List ℕ → List ℕ → Type 0
LeadToOne files from path = (number : ℕ) × (walked files root (names_of from) ≡ Ok number)
    × (walked files root (names_of path) ≡ Ok number)

-- Why a file can't be copied among these files: the first path leads to none of bytes; the second is no
-- path, or that of the copy none, or a directory's; one of the two is a device; both are one file; or
-- memory was refused.
abbrev pub IsUncopied : Files → List ℕ → List ℕ → CopyFault → Type 0
IsUncopied files from to (Look r) = IsUnshown from files r ⊎ (IsNoPath to r
    ⊎ (IsNoPath (path_of_copy files (names_of from) to) r
    ⊎ IsTakenBy files (path_of_copy files (names_of from) to) r))
IsUncopied files from to IsADevice = LeadsToKind files IsDeviceKind from
    ⊎ LeadsToKind files IsDeviceKind (path_of_copy files (names_of from) to)
IsUncopied files from to SameFile =
    LeadToOne files from (path_of_copy files (names_of from) to)

-- The same of the disk d, now e: or its files could not be had, or are no tree.
abbrev pub IsUnplanned : {D N : Type 0} → Ghosts D N → List ℕ → List ℕ → D → D → CopyFault
    → Type 0
IsUnplanned disk from to d e (Look r) =
    IsUnseen disk (NotOfTree (λ files why. IsUncopied files from to (Look why))) d e r
IsUnplanned disk from to d e IsADevice = (verdict (disk.image d) ≡ None)
    × IsUncopied (files_of (recovered (disk.image d))) from to IsADevice
IsUnplanned disk from to d e SameFile = (verdict (disk.image d) ≡ None)
    × IsUncopied (files_of (recovered (disk.image d))) from to SameFile
