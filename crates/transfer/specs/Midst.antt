-- A put in the midst of its transaction: a file is emptied or made, and the bytes are written.
use Rattle.std.specs.Prelude.{◌≡◌, ◌≢◌, ℕ, ◌+◌, ◌*◌, ◌<◌, ◌≤◌, ◌^◌, Bool, true, false, List, [], length, take, Option, Some, None}
use Rattle.blocks.specs.Disk.{LeavesOnly}
use Rattle.blocks.specs.declared.disk.Disk.{Ghosts}
use Rattle.model.specs.Files.{Files, file_in}
use Rattle.model.specs.Layout.{form_of}
use Rattle.calls.specs.Calls.{KeepsFiles, call_count, image_on}
use Rattle.calls.specs.Files.{IsFull, files_on}
use Rattle.calls.specs.Stepping.{IsReached, Plain}
use Rattle.calls.specs.Stopped.{StaysOver}
use Rattle.calls.specs.Transactions.{HasFiles, IsInside, image_seen, labels_made}
use Rattle.calls.specs.Unshown.{labels_due}
use Rattle.transfer.specs.Places.{HasNoFree, IsPlace, put_at}
use Rattle.transfer.specs.declared.writing.Outcome.{Outcome}
use Rattle.transfer.specs.declared.writing.Outcome.TheVariants as outcome

-- A transaction is under way, and so many calls of it were made. With them the files are these, and
-- have the labels that are due to them.
pub record IsMidst {D N : Type 0} (disk : Ghosts D N) (count : ℕ) (made : Files) (k : Plain D)
    : Type 0 where
  pub inside : IsInside disk.fault_count k
  pub files : HasFiles disk.image k made
  pub labels : (i : ℕ) → file_in made i ≢ None
      → labels_made disk.image k i ≡ labels_due (image_on disk.image k) i
  pub form : form_of (image_on disk.image k) ≡ form_of (disk.image k.opening)
  pub logged : length k.store.volume.log.homes ≤ 9 * count
  pub few : call_count k ≤ 2 ^ 62 + count

-- the disk has the image that it had
abbrev pub IsSame : {D N : Type 0} → Ghosts D N → Plain D → Plain D → Type 0
IsSame disk k m = image_on disk.image m ≡ image_on disk.image k

-- However a call in the midst of it ends, with m: a stop leaves the files on the disk.
pub record StaysMidst {D N : Type 0} (disk : Ghosts D N) (k m : Plain D) : Type 0 where
  pub leaves : LeavesOnly disk.moment disk.leaves k.store.volume.device m.store.volume.device
      (KeepsFiles (image_on disk.image k))
  pub over : StaysOver disk k m
  pub reached : IsReached disk k m

-- the old file was emptied, or a new one made; or each number is taken
abbrev pub IsCleared : {D N : Type 0} → Ghosts D N → Option ℕ → Plain D → Plain D → Option ℕ
    → Type 0
IsCleared disk inum k m (Some i) =
    IsPlace (files_on disk.image k) inum i × (i < length (files_on disk.image k))
    × IsMidst disk 1 (put_at (files_on disk.image k) i []) m
IsCleared disk inum k m None = (inum ≡ None) × HasNoFree (files_on disk.image k)

-- a transaction of kernel k, which is m now, wrote only the first of the bytes at number i, and of the
-- image that it sees no block is free
pub record WritesShort {D N : Type 0} (disk : Ghosts D N) (i : ℕ) (bytes : List ℕ) (k m : Plain D)
    : Type 0 where
  pub count : ℕ
  pub fewer : count < length bytes
  pub files : HasFiles disk.image m (put_at (files_on disk.image k) i (take count bytes))
  pub full : IsFull (image_seen disk.image m)

-- it wrote all of them, or not
abbrev pub Writes : {D N : Type 0} → Ghosts D N → ℕ → List ℕ → Plain D → Plain D → Bool → Type 0
Writes disk i bytes k m true = IsMidst disk 2 (put_at (files_on disk.image k) i bytes) m
Writes disk i bytes k m false = WritesShort disk i bytes k m

-- only the first of the bytes were written, at the place for them, and then no block is free
pub record PutsShort {D N : Type 0} (disk : Ghosts D N) (inum : Option ℕ) (bytes : List ℕ)
    (k m : Plain D) : Type 0 where
  pub number : ℕ
  pub place : IsPlace (files_on disk.image k) inum number
  pub short : WritesShort disk number bytes k m

-- what the calls of the transaction came to
abbrev pub HasTried : {D N : Type 0} → Ghosts D N → Option ℕ → List ℕ → Plain D → Plain D → Outcome
    → Type 0
HasTried disk inum bytes k m (outcome.Put i) =
    IsPlace (files_on disk.image k) inum i × (i < length (files_on disk.image k))
    × IsMidst disk 2 (put_at (files_on disk.image k) i bytes) m
HasTried disk inum bytes k m outcome.NoInode =
    (inum ≡ None) × HasNoFree (files_on disk.image k)
HasTried disk inum bytes k m outcome.Full = PutsShort disk inum bytes k m
