-- A put over a file by way of a new one: the old bytes or the new ones are always there.
use Rattle.std.specs.Prelude.{◌≡◌, ◌⊎◌, ◌<◌, ◌≤◌, ⊤, ℕ, Bool, true, false, List, length, Option, Some, None}
use Rattle.blocks.specs.Disk.{Image}
use Rattle.model.specs.Files.{Files, file_in, files_of}
use Rattle.model.specs.declared.types.image.File.{File}
use Rattle.transfer.specs.Places.{HasNoFree, PutsAll}

-- all of the bytes are in a new file beside the old ones
pub record HasSpare (x : Image) (bytes : List ℕ) (y : Image) : Type 0 where
  pub number : ℕ
  pub put : PutsAll (files_of x) None bytes (files_of y) number

-- What becomes of image x where bytes are put over file inum by way of a new one; `P w place` says
-- what becomes of an image w where they are put at one place. That is a new file, and the old one
-- is as it was; then the old one, beside the new one that has them all; and where no number is
-- free the old one alone.
abbrev pub GoesRound : (Image → Option ℕ → Type 0) → Image → ℕ → List ℕ → Type 0
GoesRound P x inum bytes =
    P x None
    ⊎ ((mid : Image) × HasSpare x bytes mid × P mid (Some inum))
    ⊎ (HasNoFree (files_of x) × P x (Some inum))

-- the same of any put; over a file it goes round where there is room twice
abbrev pub Goes : Option ℕ → Bool → (Image → Option ℕ → Type 0) → Image → List ℕ → Type 0
Goes None twice P x bytes = P x None
Goes (Some inum) false P x bytes = P x (Some inum)
Goes (Some inum) true P x bytes = GoesRound P x inum bytes

-- a file has just these bytes
abbrev pub HasBytes : Option File → List ℕ → Type 0
HasBytes None bytes = ⊥
HasBytes (Some file) bytes = file.bytes ≡ bytes

-- file inum is as it was, or a file has the bytes, all of them
abbrev pub HasOldOrNew : Files → ℕ → List ℕ → Files → Type 0
HasOldOrNew old inum bytes new =
    (file_in new inum ≡ file_in old inum) ⊎ ((i : ℕ) × HasBytes (file_in new i) bytes)

-- some number has no file
pub record HasFree (files : Files) : Type 0 where
  pub number : ℕ
  pub some : 1 ≤ number
  pub below : number < length files
  pub free : file_in files number ≡ None

-- a put over a file, with room twice and a free number, leaves the old bytes or the new ones
abbrev pub IsNeverNeither : Option ℕ → Bool → Files → List ℕ → Files → Type 0
IsNeverNeither None twice old bytes new = ⊤
IsNeverNeither (Some inum) false old bytes new = ⊤
IsNeverNeither (Some inum) true old bytes new = HasFree old → HasOldOrNew old inum bytes new
