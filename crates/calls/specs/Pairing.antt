-- Two operations in one transaction.
use Rattle.std.specs.Prelude.{◌≡◌, ◌≢◌, ◌⊎◌, ℕ, ◌+◌, IsTrue, Some, None}
use Rattle.blocks.specs.Disk.{Image}
use Rattle.blocks.specs.declared.disk.Disk.{Ghosts}
use Rattle.model.specs.Crash.{IsUntouched, labels_of}
use Rattle.model.specs.Files.{Files, file_in, files_of}
use Rattle.model.specs.Layout.{form_of}
use Rattle.model.specs.Log.{is_lawful_log, recovered}
use Rattle.model.specs.Operations.{after}
use Rattle.model.specs.Soundness.{IsSound}
use Rattle.model.specs.declared.types.operations.Op.{Op}
use Rattle.model.specs.declared.types.operations.Reply.{Reply}
use Rattle.calls.specs.Calls.{HasFailed, call_count, faults_on, image_on}
use Rattle.calls.specs.Stepping.{Plain}
use Rattle.calls.specs.Transactions.{labels_after}
use Rattle.calls.specs.Unshown.{KeepsOrRenews}
use Rattle.calls.specs.declared.transactions.fault.TransactionFault.{TransactionFault}
use Rattle.calls.specs.declared.transactions.fault.TransactionFault.TheVariants as fault

-- these are the files of image x after both operations, with these replies
pub record AreAfterBoth (x : Image) (first second : Op) (r s : Reply) (made : Files) : Type 0 where
  pub between : Files
  pub one : after (form_of x) (files_of x) first r ≡ Some between
  pub two : after (form_of x) between second s ≡ Some made

-- The files on the disk are those after both; the image is sound and of the same form, and what no
-- file shows stays, but for the labels of files that were made. Three calls more were answered, that
-- of the anchor too.
pub record MakesBoth {D : Type 0} (image : D → Image) (first second : Op) (k m : Plain D)
    (r s : Reply) : Type 0 where
  pub files : AreAfterBoth (image_on image k) first second r s (files_of (image_on image m))
  pub sound : IsSound (image_on image m)
  pub form : form_of (image_on image m) ≡ form_of (image_on image k)
  pub untouched : IsUntouched (image_on image k) (image_on image m)
  pub labels : (i : ℕ) → file_in (files_of (image_on image m)) i ≢ None
      → labels_of (image_on image m) i
      ≡ labels_after s i (labels_after r i (labels_of (image_on image k) i))
  pub three_more : call_count m ≡ call_count k + 3

-- BOTH OR NEITHER: what a stop leaves of image x
pub record KeepsBoth (x : Image) (first second : Op) (z : Image) : Type 0 where
  pub log : IsTrue (is_lawful_log z)
  pub sound : IsSound (recovered z)
  pub files : (files_of (recovered z) ≡ files_of x)
      ⊎ ((r s : Reply) × AreAfterBoth x first second r s (files_of (recovered z)))
  pub unshown : KeepsOrRenews x (recovered z)

-- Why they are not made, in kernel k, which is m now: the disk failed, or memory was refused before
-- anything was written. Room is never wanted.
abbrev pub IsUnmade : {D N : Type 0} → Ghosts D N → Plain D → Plain D → TransactionFault → Type 0
IsUnmade disk k m (fault.Disk cause) = HasFailed disk k m cause
IsUnmade disk k m fault.NoMemory = (image_on disk.image m ≡ image_on disk.image k)
    × (faults_on disk.fault_count m ≡ faults_on disk.fault_count k)
IsUnmade disk k m fault.NoRoom = ⊥
