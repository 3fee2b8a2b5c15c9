-- What a change of one name makes of the files, in names.
use Rattle.std.specs.Prelude.{◌≡◌, ◌≢◌, ◌⊎◌, ℕ, ◌+◌, ◌<◌, List, [], length, slice_set, Option, Some, None}
use Rattle.model.specs.declared.types.image.File.{File}
use Rattle.model.specs.Files.{Files, file_in}
use Rattle.model.specs.Operations.{with_links}
use Rattle.directories.specs.Trees.{directory_in, directory_kind, kind_of, new_directory, number_of, parent_name, IsDirectory, IsEmpty, IsFile, IsTidy}

-- A directory is one still, and tidy; each name but one leads where it led.
pub record ChangesName (files new : Files) (from : ℕ) (name : List ℕ) : Type 0 where
  pub directory : IsDirectory new from
  pub tidy : IsTidy (directory_in new from)
  pub others : (other : List ℕ) → other ≢ name
      → number_of new from other ≡ number_of files from other

-- ---- steps

-- One name of a directory leads elsewhere or nowhere, and nothing else changed.
pub record LeadsTo (files new : Files) (from : ℕ) (name : List ℕ)
    (number : Option ℕ) : Type 0 where
  pub changes : ChangesName files new from name
  pub leads : number_of new from name ≡ number
  pub rest : (i : ℕ) → i ≢ from → file_in new i ≡ file_in files i

-- A file is there that was not, yet without a name, and nothing else changed.
pub record IsUnnamed (files new : Files) (number : ℕ) (file : File) : Type 0 where
  pub inside : number < length files
  pub free : file_in files number ≡ None
  pub is : new ≡ slice_set files number (Some file)
  pub there : file_in new number ≡ Some file
  pub rest : (i : ℕ) → i ≢ number → file_in new i ≡ file_in files i

-- A file's count is another one, and nothing else changed.
pub record Relinks (files new : Files) (number count : ℕ) : Type 0 where
  pub file : File
  pub was : file_in files number ≡ Some file
  pub is : file_in new number ≡ with_links file count
  pub rest : (i : ℕ) → i ≢ number → file_in new i ≡ file_in files i

-- ---- changes

-- A file is there that was not, under a new name of a directory, and nothing else changed.
pub record AddsName (files new : Files) (from : ℕ) (name : List ℕ) (number : ℕ)
    (file : File) : Type 0 where
  pub changes : ChangesName files new from name
  pub free : file_in files number ≡ None
  pub absent : number_of files from name ≡ None
  pub leads : number_of new from name ≡ Some number
  pub there : file_in new number ≡ Some file
  pub rest : (i : ℕ) → i ≢ from → i ≢ number → file_in new i ≡ file_in files i

-- an empty file of a type
abbrev pub empty_file : ℕ → File
empty_file kind = record { kind = kind; links = 1; bytes = [] }

-- the file of a new directory
abbrev pub directory_file : ℕ → ℕ → File
directory_file number parent = record {
  kind = directory_kind;
  links = 1;
  bytes = new_directory number parent;
}

-- The file is a directory of the two entries alone.
abbrev pub AddsDirectory : Files → Files → ℕ → List ℕ → ℕ → Type 0
AddsDirectory files new from name number =
    AddsName files new from name number (directory_file number from)

-- A name of a directory is gone and its file, and nothing else changed.
pub record DropsName (files new : Files) (from : ℕ) (name : List ℕ) (number : ℕ) : Type 0 where
  pub changes : ChangesName files new from name
  pub led : number_of files from name ≡ Some number
  pub gone : number_of new from name ≡ None
  pub free : file_in new number ≡ None
  pub rest : (i : ℕ) → i ≢ from → i ≢ number → file_in new i ≡ file_in files i

-- The file was a directory with nothing in it.
pub record DropsDirectory (files new : Files) (from : ℕ) (name : List ℕ)
    (number : ℕ) : Type 0 where
  pub drops : DropsName files new from name number
  pub was : IsDirectory files number
  pub empty : IsEmpty (directory_in files number)

-- A file that is no directory has another name, its count says so, and nothing else changed.
pub record LinksName (files new : Files) (from : ℕ) (name : List ℕ) (number : ℕ) : Type 0 where
  pub changes : ChangesName files new from name
  pub absent : number_of files from name ≡ None
  pub leads : number_of new from name ≡ Some number
  pub file : File
  pub was : file_in files number ≡ Some file
  pub plain : file.kind ≢ directory_kind
  pub is : file_in new number ≡ with_links file (file.links + 1)
  pub rest : (i : ℕ) → i ≢ from → i ≢ number → file_in new i ≡ file_in files i

-- A file that is no directory lost a name, its count says so, and nothing else changed.
pub record UnlinksName (files new : Files) (from : ℕ) (name : List ℕ) (number : ℕ) : Type 0 where
  pub changes : ChangesName files new from name
  pub led : number_of files from name ≡ Some number
  pub gone : number_of new from name ≡ None
  pub file : File
  pub was : file_in files number ≡ Some file
  pub plain : file.kind ≢ directory_kind
  pub left : ℕ
  pub less : left + 1 ≡ file.links
  pub is : file_in new number ≡ with_links file left
  pub rest : (i : ℕ) → i ≢ from → i ≢ number → file_in new i ≡ file_in files i

-- A file has a new name of a directory in place of its old one of the same or another directory, and
-- nothing else changed.
pub record MovesName (files new : Files) (from : ℕ) (old : List ℕ) (to : ℕ) (name : List ℕ)
    (number : ℕ) : Type 0 where
  pub led : number_of files from old ≡ Some number
  pub absent : number_of files to name ≡ None
  pub gone : number_of new from old ≡ None
  pub leads : number_of new to name ≡ Some number
  pub others : (i : ℕ) (other : List ℕ) → (i ≢ from) ⊎ (other ≢ old) → (i ≢ to) ⊎ (other ≢ name)
      → number_of new i other ≡ number_of files i other
  pub kinds : (i : ℕ) → kind_of (file_in new i) ≡ kind_of (file_in files i)
  pub tidy : (i : ℕ) → IsTidy (directory_in files i) → IsTidy (directory_in new i)
  pub rest : (i : ℕ) → i ≢ from → i ≢ to → file_in new i ≡ file_in files i

-- The same of a directory, whose name for its parent leads to its new one.
pub record MovesDirectory (files new : Files) (from : ℕ) (old : List ℕ) (to : ℕ) (name : List ℕ)
    (number : ℕ) : Type 0 where
  pub mid : Files
  pub moves : MovesName files mid from old to name number
  pub up : LeadsTo mid new number parent_name (Some to)

-- The same files are there, each has the type it had, and every directory its bytes: each name leads
-- where it led.
pub record KeepsNames (files new : Files) : Type 0 where
  pub still : (i : ℕ) → IsFile files i → IsFile new i
  pub was : (i : ℕ) → IsFile new i → IsFile files i
  pub kinds : (i : ℕ) → kind_of (file_in new i) ≡ kind_of (file_in files i)
  pub directories : (i : ℕ) → IsDirectory files i → file_in new i ≡ file_in files i
