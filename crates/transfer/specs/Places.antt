-- Where bytes are put, and what becomes of the files.
use Rattle.std.specs.Prelude.{◌≡◌, ◌≢◌, ◌⊎◌, ◌<◌, ◌≤◌, ⊤, ℕ, List, length, take, Option, Some, None, slice_set}
use Rattle.model.specs.Files.{Files, file_in}
use Rattle.model.specs.Operations.{with_bytes}
use Rattle.model.specs.declared.types.image.File.{File}

-- the type of a new file
abbrev pub new_kind : ℕ
new_kind = 2

-- a file with these bytes, and the type of the old one
abbrev pub put_file : Option File → List ℕ → Option File
put_file None bytes = Some (record { kind = new_kind; links = 1; bytes = bytes })
put_file (Some old) bytes = with_bytes old bytes

-- the files once these bytes are put at number i
abbrev pub put_at : Files → ℕ → List ℕ → Files
put_at files i bytes = slice_set files i (put_file (file_in files i) bytes)

-- the lowest number that has no file
pub record IsLowestFree (files : Files) (i : ℕ) : Type 0 where
  pub some : 1 ≤ i
  pub below : i < length files
  pub free : file_in files i ≡ None
  pub lowest : (j : ℕ) → 1 ≤ j → j < i → file_in files j ≢ None

-- no number is free
abbrev pub HasNoFree : Files → Type 0
HasNoFree files = (j : ℕ) → 1 ≤ j → j < length files → file_in files j ≢ None

-- where bytes are put: at the number of the old file, or at the lowest free one
abbrev pub IsPlace : Files → Option ℕ → ℕ → Type 0
IsPlace files (Some inum) i = (i ≡ inum) × (file_in files inum ≢ None)
IsPlace files None i = IsLowestFree files i

-- the old file, if one is named, is there, or isn't
abbrev pub HasOld : Files → Option ℕ → Type 0
HasOld files (Some inum) = file_in files inum ≢ None
HasOld files None = ⊤

abbrev pub LacksOld : Files → Option ℕ → Type 0
LacksOld files (Some inum) = file_in files inum ≡ None
LacksOld files None = ⊥

-- it is a plain file; or one of another type, a directory or a device
abbrev pub IsPlainOld : Files → Option ℕ → Type 0
IsPlainOld files (Some inum) =
    (file : File) × (file_in files inum ≡ Some file) × (file.kind ≡ 2)
IsPlainOld files None = ⊤

abbrev pub IsOtherOld : Files → Option ℕ → Type 0
IsOtherOld files (Some inum) =
    (file : File) × (file_in files inum ≡ Some file) × (file.kind ≢ 2)
IsOtherOld files None = ⊥

-- all of the bytes were put, at number i
pub record PutsAll (old : Files) (inum : Option ℕ) (bytes : List ℕ) (new : Files) (i : ℕ)
    : Type 0 where
  pub place : IsPlace old inum i
  pub files : new ≡ put_at old i bytes

-- that many of the first bytes were put
pub record PutsFirst (old : Files) (inum : Option ℕ) (bytes : List ℕ) (new : Files) : Type 0 where
  pub number : ℕ
  pub place : IsPlace old inum number
  pub count : ℕ
  pub files : new ≡ put_at old number (take count bytes)

-- the files are as before, or the first of the bytes were put, or all
abbrev pub MayPut : Files → Option ℕ → List ℕ → Files → Type 0
MayPut old inum bytes new = (new ≡ old) ⊎ PutsFirst old inum bytes new
