-- What no file of an image shows.
use Rattle.std.specs.Prelude.{◌≡◌, ◌≢◌, ◌⊎◌, ℕ, is_some, if◌then◌else◌, None}
use Rattle.blocks.specs.Disk.{Image}
use Rattle.model.specs.Crash.{IsUntouched, labels_of}
use Rattle.model.specs.Files.{Files, file_in, files_of}

-- the labels that are due to a file: those that it has in image x, or those of a new one
abbrev pub labels_due : Image → ℕ → ℕ × ℕ
labels_due x i = if is_some (file_in (files_of x) i) then labels_of x i else (0, 0)

-- Image y has of image x what no file shows: what no operation touches, and the labels of files.
pub record KeepsUnshown (x y : Image) : Type 0 where
  pub untouched : IsUntouched x y
  pub labels : (i : ℕ) → file_in (files_of y) i ≢ None → labels_of y i ≡ labels_due x i

-- The same of a change that may have given a number up and made it anew: each file has the labels
-- that are due to it, or those of a new one.
pub record KeepsOrRenews (x y : Image) : Type 0 where
  pub untouched : IsUntouched x y
  pub labels : (i : ℕ) → file_in (files_of y) i ≢ None
      → (labels_of y i ≡ labels_due x i) ⊎ (labels_of y i ≡ (0, 0))

-- each number that has a file among the old ones has one among the new
abbrev pub LosesNone : Files → Files → Type 0
LosesNone old new = (i : ℕ) → file_in old i ≢ None → file_in new i ≢ None
