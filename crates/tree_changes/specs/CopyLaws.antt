-- What the copy of a file makes of the files of an image.
use Rattle.std.specs.Prelude.{◌≡◌, ℕ, List, Option, Ok}
use Rattle.directories.specs.Paths.{names_of}
use Rattle.directories.specs.Trees.{bytes_of, kind_of, root, Steps}
use Rattle.directories.specs.Walks.{walked}
use Rattle.model.specs.Files.{Files, file_in}
use Rattle.model.specs.declared.types.image.Form.{Form}
use Rattle.tree_looks.specs.Copies.{bytes_kind, IsCopyOf}
use Rattle.tree_changes.specs.Puts.{Puts}

-- each name leads where it led
abbrev pub KeepsSteps : Files → Files → Type 0
KeepsSteps files new =
    (from number : ℕ) (name : List ℕ) → Steps files from name number → Steps new from name number

-- A path leads to a file of bytes, which has these alone, and each name leads where it led.
pub record IsPut (files new : Files) (path bytes : List ℕ) : Type 0 where
  pub number : ℕ
  pub led : walked new root (names_of path) ≡ Ok number
  pub kind : kind_of (file_in new number) ≡ bytes_kind
  pub bytes_are : bytes_of (file_in new number) ≡ bytes
  pub keeps : KeepsSteps files new

-- So it is at the path of a copy once the bytes are put there.
abbrev pub CopiesHold : Type 0
CopiesHold = (form : Form) (told : Option ℕ) (files new : Files) (from to path bytes : List ℕ)
    → IsCopyOf files from to path bytes → Puts path bytes form told files new
    → IsPut files new path bytes
