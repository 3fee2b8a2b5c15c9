-- Bytes written into a file of a tree that is no directory.
use Rattle.std.specs.Prelude.{◌≡◌, ℕ, ◌==◌, Bool, true, false, List, length, slice_set, Option, Some, None, Result, Ok, Err}
use Rattle.blocks.specs.Block.{overwritten}
use Rattle.blocks.specs.Disk.{Image}
use Rattle.model.specs.declared.types.image.File.{File}
use Rattle.model.specs.declared.types.image.Form.{Form}
use Rattle.model.specs.declared.types.operations.Op.TheVariants.{Write}
use Rattle.model.specs.declared.types.operations.Reply.{Reply}
use Rattle.model.specs.declared.types.operations.Reply.TheVariants.{Wrote, BadOffset, TooBig, TooLong}
use Rattle.model.specs.Files.{Files}
use Rattle.model.specs.Operations.{refusal_of, where_true, with_bytes}
use Rattle.calls.specs.Calls.{ShortIsFull}
use Rattle.calls.specs.Stepping.{Plain}
use Rattle.calls.specs.Transactions.{image_seen}
use Rattle.names.specs.declared.writing.Unwritten.{Unwritten}
use Rattle.names.specs.declared.writing.Unwritten.TheVariants as unwritten
use Rattle.names.specs.Contents.{IsPlainFile}
use Rattle.names.specs.Inside.{Answers}
use Rattle.directories.specs.Trees.{root}
use Rattle.directories.specs.Walks.{walked}

-- what became of a write: all bytes were written, or none for a cause
abbrev pub Outcome : Type 0
Outcome = Result (Unit {0}) Unwritten

-- all bytes were written
abbrev pub is_whole : Option Outcome → Bool
is_whole (Some (Ok one)) = true
is_whole outcome = false

-- the reply that tells a cause
abbrev pub reply_of : Unwritten → Reply
reply_of unwritten.TooLong = TooLong
reply_of unwritten.BadOffset = BadOffset
reply_of unwritten.TooBig = TooBig

-- what a reply tells of a write of so many bytes; none where only some were written
abbrev pub written : Reply → ℕ → Option Outcome
written (Wrote count) size = where_true (count == size) (Ok tt)
written TooLong size = Some (Err unwritten.TooLong)
written BadOffset size = Some (Err unwritten.BadOffset)
written TooBig size = Some (Err unwritten.TooBig)
written reply size = None

-- the write was answered, and what the reply tells
pub record HasWritten {D : Type 0} (image : D → Image) (number offset : ℕ) (bytes : List ℕ)
    (k m : Plain D) (told : Option Outcome) : Type 0 where
  pub reply : Reply
  pub answers : Answers image (Write number offset bytes) k m reply
  pub is : told ≡ written reply (length bytes)
  -- a short one leaves no block free
  pub short : ShortIsFull (image_seen image m) (Write number offset bytes) reply

-- All bytes stand in the file from the offset on; or the kernel refuses their write, and the files are
-- as they were.
abbrev pub WritesAs : Form → ℕ → ℕ → List ℕ → File → Outcome → Files → Files → Type 0
WritesAs form number offset bytes file (Ok done) files new =
    (refusal_of form files (Write number offset bytes) ≡ None)
    × (new ≡ slice_set files number (with_bytes file (overwritten file.bytes offset bytes)))
WritesAs form number offset bytes file (Err cause) files new = (new ≡ files)
    × (refusal_of form files (Write number offset bytes) ≡ Some (reply_of cause))

-- the same of the file of a number
pub record WritesOf (form : Form) (number offset : ℕ) (bytes : List ℕ) (done : Outcome)
    (files new : Files) : Type 0 where
  pub file : File
  pub plain : IsPlainFile files number file
  pub writes : WritesAs form number offset bytes file done files new

-- the same of the file that names lead to
pub record Writes (form : Form) (names : List (List ℕ)) (offset : ℕ) (bytes : List ℕ)
    (done : Outcome) (files new : Files) : Type 0 where
  pub number : ℕ
  pub led : walked files root names ≡ Ok number
  pub wrote : WritesOf form number offset bytes done files new
