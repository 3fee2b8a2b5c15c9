-- What is asked of the file of a number.
use Rattle.std.specs.Prelude.{◌≡◌, ◌≤◌, ◌<◌, ◌⊎◌, ℕ, Bool, true, false, List, [], length, take, slice_set, Option, None, Some, Result, Ok, Err, IsTrue}
use Rattle.blocks.specs.Block.{overwritten}
use Rattle.blocks.specs.declared.disk.Disk.{Ghosts}
use Rattle.calls.specs.Calls.{image_on}
use Rattle.calls.specs.Files.{IsFull}
use Rattle.calls.specs.Stepping.{Plain}
use Rattle.model.specs.declared.types.image.File.{File}
use Rattle.model.specs.declared.types.image.Form.{Form}
use Rattle.model.specs.declared.types.operations.Op.TheVariants.{Write}
use Rattle.model.specs.declared.types.operations.Reply.{Reply}
use Rattle.model.specs.declared.types.operations.Reply.TheVariants.{Wrote, Done, BadOffset, TooBig, TooLong}
use Rattle.model.specs.Files.{Files, file_in, files_of}
use Rattle.model.specs.Operations.{may_have_written, refusal_of, with_bytes}
use Rattle.names.specs.declared.asking.Found.{Found}
use Rattle.directories.specs.declared.refusal.Refusal.{Refusal}
use Rattle.directories.specs.declared.refusal.Refusal.TheVariants.{NotFound, NotADirectory}
use Rattle.names.specs.declared.writing.Unwritten.{Unwritten}
use Rattle.names.specs.declared.writing.Unwritten.TheVariants as unwritten
use Rattle.names.specs.Contents.{HasOnly, IsNoPlain, IsPlainFile}
use Rattle.names.specs.Inside.{form_seen}
use Rattle.names.specs.Looks.{IsFound}
use Rattle.directories.specs.Trees.{directory_in, IsDirectory}
use Rattle.directories.specs.Walks.{stepped}
use Rattle.names.specs.Writing.{reply_of}

-- there is no file of that number
abbrev pub IsNoFile : ℕ → Files → Refusal → Type 0
IsNoFile number files cause = (cause ≡ NotFound) × (file_in files number ≡ None)

-- or it is a directory
abbrev pub IsNoFileOrDirectory : ℕ → Files → Refusal → Type 0
IsNoFileOrDirectory number files cause = IsNoFile number files cause ⊎ IsNoPlain number files cause

-- it is no directory
abbrev pub IsNoDirectory : ℕ → Files → Refusal → Type 0
IsNoDirectory number files cause = (cause ≡ NotADirectory) × (IsDirectory files number → ⊥)

-- what the file of a number is, and no file changes
pub record LooksAt (number : ℕ) (found : Found) (files new : Files) : Type 0 where
  pub same : new ≡ files
  pub found_is : IsFound files number found

-- a name of a directory leads to it
pub record LooksIn (from : ℕ) (name : List ℕ) (found : Found) (files new : Files) : Type 0 where
  pub same : new ≡ files
  pub number : ℕ
  pub led : stepped files from name ≡ Ok number
  pub found_is : IsFound files number found

-- or it leads nowhere
abbrev pub IsUnseenIn : ℕ → List ℕ → Files → Refusal → Type 0
IsUnseenIn from name files cause = (stepped files from name ≡ Err cause)
    ⊎ ((number : ℕ) × (stepped files from name ≡ Ok number) × IsNoFile number files cause)

-- the bytes of a directory, and no file changes
pub record ListsAt (number : ℕ) (bytes : List ℕ) (files new : Files) : Type 0 where
  pub same : new ≡ files
  pub directory : IsDirectory files number
  pub bytes_are : bytes ≡ directory_in files number

-- the file of a number has no bytes
abbrev pub EmptiesAt : ℕ → Unit {0} → Files → Files → Type 0
EmptiesAt number done files new = HasOnly number [] files new

-- what a reply tells of a write: how many bytes were written, or why none
abbrev pub some_told : Reply → Option (Result ℕ Unwritten)
some_told (Wrote count) = Some (Ok count)
some_told TooLong = Some (Err unwritten.TooLong)
some_told BadOffset = Some (Err unwritten.BadOffset)
some_told TooBig = Some (Err unwritten.TooBig)
some_told reply = None

-- The first so many of the bytes stand in the file from the offset on, all of them unless no block was
-- free; or the kernel refuses their write, and the files are as they were.
abbrev pub WritesSomeAs : Form → ℕ → ℕ → List ℕ → File → Result ℕ Unwritten → Files → Files → Type 0
WritesSomeAs form number offset bytes file (Ok count) files new =
    IsTrue (may_have_written (length file.bytes) offset (length bytes) count)
    × (new ≡ slice_set files number (with_bytes file (overwritten file.bytes offset (take count bytes))))
WritesSomeAs form number offset bytes file (Err cause) files new = (new ≡ files)
    × (refusal_of form files (Write number offset bytes) ≡ Some (reply_of cause))

-- the same of the file of a number
pub record WritesSomeOf (form : Form) (number offset : ℕ) (bytes : List ℕ) (done : Result ℕ Unwritten)
    (files new : Files) : Type 0 where
  pub file : File
  pub plain : IsPlainFile files number file
  pub writes : WritesSomeAs form number offset bytes file done files new

-- fewer of these bytes were written than there are
abbrev pub IsPart : List ℕ → Result ℕ Unwritten → Type 0
IsPart bytes (Ok count) = count < length bytes
IsPart bytes (Err cause) = ⊥

-- the same on the disk, from kernel k to m: no block is free where fewer were written
pub record WritesSome {D N : Type 0} (disk : Ghosts D N) (number offset : ℕ) (bytes : List ℕ)
    (k m : Plain D) (done : Result ℕ Unwritten) : Type 0 where
  pub writes : WritesSomeOf (form_seen disk.image k) number offset bytes done
      (files_of (image_on disk.image k)) (files_of (image_on disk.image m))
  pub full : IsPart bytes done → IsFull (image_on disk.image m)

-- the file has its first bytes alone, or it has fewer than these, and no file changes
abbrev pub CutsAs : ℕ → ℕ → File → Bool → Files → Files → Type 0
CutsAs number size file true files new = (size ≤ length file.bytes)
    × (new ≡ slice_set files number (with_bytes file (take size file.bytes)))
CutsAs number size file false files new = (length file.bytes < size) × (new ≡ files)

-- the same of the file of a number
pub record CutsAt (number size : ℕ) (done : Bool) (files new : Files) : Type 0 where
  pub file : File
  pub plain : IsPlainFile files number file
  pub cuts : CutsAs number size file done files new
