-- A copy of a file within an image.
use Rattle.std.specs.Prelude.{◌≡◌, ◌<◌, ℕ, Bool, IsTrue, List, length, Option}
use Rattle.blocks.specs.Calls.{OnlyReads}
use Rattle.blocks.specs.declared.disk.Disk.{Ghosts}
use Rattle.model.specs.Files.{files_of}
use Rattle.model.specs.Log.{recovered}
use Rattle.model.specs.Operations.{transfer_limit}
use Rattle.tree_looks.specs.Copies.{IsCopyOf, IsUnplanned}
use Rattle.tree_changes.specs.Changes.{HasChanged, HasNotChanged, StopsChange}
use Rattle.tree_changes.specs.Puts.{IsUnputAt, Puts, PutsSome}
use Rattle.tree_changes.specs.Room.{HasRoomFor, LacksRoom}
use Rattle.tree_changes.specs.declared.copying.CopyOver.{CopyOver}
use Rattle.tree_changes.specs.declared.copying.CopyRefusal.{CopyRefusal}
use Rattle.tree_changes.specs.declared.copying.CopyRefusal.TheVariants.{Unplanned, NoRoom, Of}
use Rattle.tree_changes.specs.declared.faults.ChangeRefusal.{ChangeRefusal}

-- A copy that is asked for: from a path to another one; whether its room is judged, and whether the disk
-- is synced at the end.
pub record Asked : Type 0 where
  pub from : List ℕ
  pub to : List ℕ
  pub judges : Bool
  pub last : Bool

abbrev pub asked : List ℕ → List ℕ → Bool → Bool → Asked
asked from to judges last = record { from = from; to = to; judges = judges; last = last }

abbrev pub asked_by : CopyOver → Asked
asked_by copy = asked copy.from.now copy.to.now copy.judges copy.last

-- The disk d, now e, was only read. So many bytes have room in it where that is judged and one call does
-- not write them.
pub record IsJudged {D N : Type 0} (disk : Ghosts D N) (judges : Bool) (count : ℕ) (d e : D)
    : Type 0 where
  pub reads : OnlyReads disk d e
  pub room : IsTrue judges → transfer_limit < count → HasRoomFor disk count d e

-- The disk d, now e, was only read, and of its files, as recovery would leave them, these are the path
-- and the bytes of the copy that is asked for. They have room, where that is judged.
pub record IsPlannedOn {D N : Type 0} (disk : Ghosts D N) (copy : Asked) (path bytes : List ℕ)
    (d e : D) : Type 0 where
  pub looked : D
  pub looks : OnlyReads disk d looked
  pub plan : IsCopyOf (files_of (recovered (disk.image d))) copy.from copy.to path bytes
  pub judged : IsJudged disk copy.judges (length bytes) looked e

-- THE PROMISE of a copy over the disk d, now e: the bytes of the file that the one path led to were put at
-- the path of the copy, and what a stop leaves of that.
pub record HasCopied {D N : Type 0} (disk : Ghosts D N) (copy : Asked) (d e : D)
    (old new : Option (List ℕ)) : Type 0 where
  pub path : List ℕ
  pub bytes : List ℕ
  pub read : D
  pub planned : IsPlannedOn disk copy path bytes d read
  pub changed : HasChanged disk (Puts path bytes) copy.last read e old new
  pub stops : StopsChange disk (PutsSome path bytes) read e

-- the bytes are more than one call writes, and have no room; the disk was only read
pub record HasNoRoomOn {D N : Type 0} (disk : Ghosts D N) (copy : Asked) (d e : D)
    (r : ChangeRefusal) : Type 0 where
  pub path : List ℕ
  pub bytes : List ℕ
  pub looked : D
  pub looks : OnlyReads disk d looked
  pub plan : IsCopyOf (files_of (recovered (disk.image d))) copy.from copy.to path bytes
  pub judged : IsTrue copy.judges
  pub many : transfer_limit < length bytes
  pub lacks : LacksRoom disk (length bytes) looked e r

-- why there is nothing to put: the file can't be copied, or has no room, and the disk was only read
abbrev pub IsNotReady : {D N : Type 0} → Ghosts D N → Asked → D → D → CopyRefusal → Type 0
IsNotReady disk copy d e (Unplanned fault) =
    OnlyReads disk d e × IsUnplanned disk copy.from copy.to d e fault
IsNotReady disk copy d e (NoRoom r) = HasNoRoomOn disk copy d e r
IsNotReady disk copy d e (Of r) = ⊥

-- the copy was planned, and its bytes not put for this reason, or its number not printed
pub record HasNotPut {D N : Type 0} (disk : Ghosts D N) (copy : Asked) (d e : D) (none : Type 0)
    (r : ChangeRefusal) : Type 0 where
  pub path : List ℕ
  pub bytes : List ℕ
  pub read : D
  pub planned : IsPlannedOn disk copy path bytes d read
  pub refused : HasNotChanged disk (Puts path bytes)
      (λ t. IsUnputAt t.disk path bytes t.was t.now) copy.last read e none r
  pub stops : StopsChange disk (PutsSome path bytes) read e

-- Why a file is not copied; `none` says that nothing was printed.
abbrev pub HasNotCopied : {D N : Type 0} → Ghosts D N → Asked → D → D → Type 0 → CopyRefusal
    → Type 0
HasNotCopied disk copy d e none (Unplanned fault) = IsNotReady disk copy d e (Unplanned fault) × none
HasNotCopied disk copy d e none (NoRoom r) = IsNotReady disk copy d e (NoRoom r) × none
HasNotCopied disk copy d e none (Of r) = HasNotPut disk copy d e none r
