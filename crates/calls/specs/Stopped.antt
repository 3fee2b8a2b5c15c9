-- What a stop in the midst of a change leaves, and what stays whatever becomes of it.
use Rattle.std.specs.Prelude.{◌≡◌, ◌⊎◌, ◌<◌, ◌≤◌, ℕ, IsTrue, List, length, take, None, slice_set}
use Rattle.blocks.specs.Disk.{Image, LeavesOnly}
use Rattle.blocks.specs.declared.disk.Disk.{Ghosts}
use Rattle.model.specs.declared.types.operations.Attribute.{Attribute}
use Rattle.model.specs.Files.{Files, file_in, files_of}
use Rattle.model.specs.Log.{is_lawful_log, recovered}
use Rattle.model.specs.Soundness.{IsSound}
use Rattle.calls.specs.Calls.{image_on}
use Rattle.calls.specs.Stepping.{Plain}
use Rattle.calls.specs.Unshown.{KeepsUnshown}
use Rattle.calls.specs.Files.{appended, emptied, empty_file, files_set, relinked, resized}

-- an empty file of that type was made at a free number
pub record MakesAny (kind : ℕ) (old new : Files) : Type 0 where
  pub number : ℕ
  pub some : 1 ≤ number
  pub below : number < length old
  pub free : file_in old number ≡ None
  pub files : new ≡ slice_set old number (empty_file kind)

-- file i was removed
abbrev pub Removes : ℕ → Files → Files → Type 0
Removes i old new = new ≡ slice_set old i None

-- file i was emptied
abbrev pub Empties : ℕ → Files → Files → Type 0
Empties i old new = new ≡ emptied old i

-- an attribute of file i was set
abbrev pub Sets : ℕ → Attribute → Files → Files → Type 0
Sets i a old new = new ≡ files_set old i a

-- file i was given n links
abbrev pub Relinks : ℕ → ℕ → Files → Files → Type 0
Relinks i n old new = new ≡ relinked old i n

-- file i was cut to its first n bytes
abbrev pub Resizes : ℕ → ℕ → Files → Files → Type 0
Resizes i n old new = new ≡ resized old i n

-- the first of these bytes were written behind those of file i
pub record AppendsFirst (i : ℕ) (bytes : List ℕ) (old new : Files) : Type 0 where
  pub count : ℕ
  pub few : count ≤ length bytes
  pub files : new ≡ appended old i (take count bytes)

-- recovery of z gives a sound image with the files of image x, or with those after a change of them
pub record KeepsChange (change : Files → Files → Type 0) (x z : Image) : Type 0 where
  pub log : IsTrue (is_lawful_log z)
  pub sound : IsSound (recovered z)
  pub files : (files_of (recovered z) ≡ files_of x) ⊎ change (files_of x) (files_of (recovered z))
  pub unshown : KeepsUnshown x (recovered z)

-- A stop at any moment from k to m leaves the files on the disk of k, or those after the change:
-- the change is made whole or not at all.
abbrev pub LeavesChange : {D N : Type 0} → Ghosts D N → (Files → Files → Type 0) → Plain D
    → Plain D → Type 0
LeavesChange disk change k m =
    LeavesOnly disk.moment disk.leaves k.store.volume.device m.store.volume.device
    (KeepsChange change (image_on disk.image k))

-- the kernel is over the same disk, as it was opened
pub record StaysOver {D N : Type 0} (disk : Ghosts D N) (k m : Plain D) : Type 0 where
  pub opening : m.opening ≡ k.opening
  pub name : disk.name m.store.volume.device ≡ disk.name k.store.volume.device
