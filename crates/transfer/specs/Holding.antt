-- A kernel that is being filled, and why it isn't filled to the end.
use Rattle.std.specs.Prelude.{◌≡◌, ℕ, ◌<◌, ◌≤◌, ◌⊎◌, ⊤, length, slice_set, take, Some}
use Rattle.blocks.specs.Disk.{Image, Rose}
use Rattle.blocks.specs.declared.disk.Disk.{Ghosts}
use Rattle.model.specs.declared.types.image.File.{File}
use Rattle.model.specs.declared.types.image.Form.{Form}
use Rattle.model.specs.Files.{Files, file_in, files_of}
use Rattle.model.specs.Layout.{form_of}
use Rattle.model.specs.Operations.{with_bytes}
use Rattle.model.specs.Soundness.{IsSound}
use Rattle.calls.specs.Calls.{Rests, call_count, image_on}
use Rattle.calls.specs.Stepping.{Plain}
use Rattle.calls.specs.declared.fault.CallFault.{CallFault}
use Rattle.calls.specs.declared.fault.CallFault.TheVariants as call
use Rattle.calls.specs.Files.{IsFull, files_on}
use Rattle.transfer.specs.Stages.{listed, written_at}
use Rattle.transfer.specs.declared.fault.CopyFault.{CopyFault}
use Rattle.transfer.specs.declared.fault.CopyFault.TheVariants.{Old, NotFirst, Mkfs, Full, Leaked, NoMemory, Disk}

-- The kernel is at rest after at most so many calls. It has these files, in a sound image that has the
-- form and is as long as when the kernel was opened.
pub record Holds {D N : Type 0} (disk : Ghosts D N) (most : ℕ) (files : Files) (k : Plain D)
    : Type 0 where
  pub rests : Rests disk.fault_count k
  pub few : call_count k ≤ most
  pub sound : IsSound (image_on disk.image k)
  pub form : form_of (image_on disk.image k) ≡ form_of (disk.image k.opening)
  pub size : length (image_on disk.image k) ≡ length (disk.image k.opening)
  pub held : files_on disk.image k ≡ files

-- why calls that begin over the disk o end over the disk e without their answer
abbrev pub IsUnanswered : {D N : Type 0} → Ghosts D N → D → D → CallFault → Type 0
IsUnanswered disk o e (call.Disk cause) = Rose (disk.fault_count o) (disk.fault_count e)
IsUnanswered disk o e call.NoMemory = ⊤

-- the files, but of file i only the first bytes
pub record HasFirst (i : ℕ) (old new : Files) : Type 0 where
  pub file : File
  pub count : ℕ
  pub was : file_in old i ≡ Some file
  pub fewer : count < length file.bytes
  pub now : new ≡ slice_set old i (with_bytes file (take count file.bytes))

-- it is file i that was cut short
abbrev pub CutsShort : ℕ → Files → ℕ → Files → Type 0
CutsShort i files j new = (j ≡ i) × HasFirst i files new

-- file i was cut short, those before it are whole, and later ones are without bytes
abbrev pub BreaksOff : Files → ℕ → Files → Type 0
BreaksOff files i new = HasFirst i (listed (length files) (written_at files i)) new

-- no block is free in a sound image of that form and of that many blocks
pub record HasNoRoom (size : ℕ) (kind : Form) (x : Image) : Type 0 where
  pub sound : IsSound x
  pub form : form_of x ≡ kind
  pub long : length x ≡ size
  pub full : IsFull x

-- in an image of that size and form, in which no block is free, file i is cut short
pub record RunsShort (size : ℕ) (form : Form) (i : ℕ) (files : Files) : Type 0 where
  pub image : Image
  pub part : BreaksOff files i (files_of image)
  pub room : HasNoRoom size form image

-- why files, read of the disk d, which is d' then, were not all written to the disk o, which is e
-- then: where it has no room, they are cut short as `part` says
abbrev pub IsUnwritten : {D E M N : Type 0} → Ghosts D M → Ghosts E N → (ℕ → Files → Type 0)
    → D → D → E → E → CopyFault → Type 0
IsUnwritten old new part d d' o e (Old fault) = ⊥
IsUnwritten old new part d d' o e NotFirst = ⊥
IsUnwritten old new part d d' o e (Mkfs fault) = ⊥
IsUnwritten old new part d d' o e (Full i) = ⊥
IsUnwritten old new part d d' o e (Leaked i) =
    part i (files_of (new.image e))
    × HasNoRoom (length (new.image o)) (form_of (new.image o)) (new.image e)
    × (old.fault_count d' ≡ old.fault_count d)
IsUnwritten old new part d d' o e NoMemory = ⊤
IsUnwritten old new part d d' o e Disk =
    Rose (old.fault_count d) (old.fault_count d') ⊎ Rose (new.fault_count o) (new.fault_count e)
