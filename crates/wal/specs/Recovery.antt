-- What recovery makes of an image, and why it may refuse.
use Rattle.std.specs.Prelude.{◌≡◌, ◌⊎◌, ◌≤◌, ℕ, Bool, true, false, ◌+◌, ◌==◌, ⊤, nat_lt, if◌then◌else◌, IsTrue, List, length, slice_set, Result, Ok, Err, IfErr, OnErr, Option, Some, None}
use Rattle.blocks.specs.Block.{zero_block}
use Rattle.blocks.specs.Calls.{Holds, OnlyReads, UnlessHolds}
use Rattle.blocks.specs.declared.disk.Disk.{Ghosts}
use Rattle.blocks.specs.Disk.{Image, AddsNone, AddsOnly, IsSettled, block_at, counted, one_more, LeavesOnly}
use Rattle.layout.specs.declared.header.Header.{Header}
use Rattle.model.specs.Log.{homes_of, is_lawful_log, logged_count, place_among, recovered}
use Rattle.wal.specs.declared.faults.RecoverFault.{RecoverFault}
use Rattle.wal.specs.declared.faults.RecoverFault.TheVariants.{Disk, BadLog, NoMemory, Sync}

-- P holds where the disk failed
abbrev pub OnDisk : {T : Type 0} → Result T RecoverFault → Type 0 → Type 0
OnDisk (Err Disk) P = P
OnDisk (Err BadLog) P = ⊤
OnDisk (Err NoMemory) P = ⊤
OnDisk (Err Sync) P = ⊤
OnDisk (Ok v) P = ⊤

-- P holds where the log was found unlawful
abbrev pub OnBadLog : {T : Type 0} → Result T RecoverFault → Type 0 → Type 0
OnBadLog (Err BadLog) P = P
OnBadLog (Err Disk) P = ⊤
OnBadLog (Err NoMemory) P = ⊤
OnBadLog (Err Sync) P = ⊤
OnBadLog (Ok v) P = ⊤

-- P holds where memory was refused
abbrev pub OnNoMemory : {T : Type 0} → Result T RecoverFault → Type 0 → Type 0
OnNoMemory (Err NoMemory) P = P
OnNoMemory (Err Disk) P = ⊤
OnNoMemory (Err BadLog) P = ⊤
OnNoMemory (Err Sync) P = ⊤
OnNoMemory (Ok v) P = ⊤

-- P holds where a sync failed
abbrev pub OnSync : {T : Type 0} → Result T RecoverFault → Type 0 → Type 0
OnSync (Err Sync) P = P
OnSync (Err Disk) P = ⊤
OnSync (Err BadLog) P = ⊤
OnSync (Err NoMemory) P = ⊤
OnSync (Ok v) P = ⊤

-- recovery gives the same image for both, and finds the log of both lawful, or of none
pub record RecoversAs (x y : Image) : Type 0 where
  pub image : recovered y ≡ recovered x
  pub lawful : is_lawful_log y ≡ is_lawful_log x

-- the writes of a recovery that copies that many blocks: each of them, and the header
abbrev pub writes_to_recover : ℕ → ℕ
writes_to_recover n = if n == 0 then 0 else n + 1

-- the syncs that a call makes once it has written, of a disk that holds writes back or doesn't
abbrev pub syncs_to_settle : Bool → ℕ
syncs_to_settle holds = if holds then 1 else 0

-- the syncs of a recovery that copies that many blocks, behind its first: after the copies, and
-- after the header
abbrev pub syncs_to_restore : Bool → ℕ → ℕ
syncs_to_restore holds n = if holds then (if n == 0 then 0 else 2) else 0

-- and all of them, the first before the header is read
abbrev pub syncs_to_recover : Bool → ℕ → ℕ
syncs_to_recover holds n = if holds then (if n == 0 then 1 else 3) else 0

-- block b, or the logged one at its place among the homes, if that is one of the first k
abbrev pub copied_block : Image → ℕ → ℕ → Option ℕ → List ℕ
copied_block x k b None = block_at x b
copied_block x k b (Some j) = if nat_lt j k then block_at x (3 + j) else block_at x b

-- y is x with the first k logged blocks copied to their homes
pub record HasCopied (k : ℕ) (x y : Image) : Type 0 where
  pub size : length y ≡ length x
  pub each : (b : ℕ) → block_at y b ≡ copied_block x k b (place_among (homes_of x) b)

-- the first of the homes were copied, in the order of logging, or all was done
abbrev pub IsRecoveredInPart : Image → Image → Type 0
IsRecoveredInPart x z = ((k : ℕ) × (k ≤ length (homes_of x)) × HasCopied k x z) ⊎ (z ≡ recovered x)

-- nothing is held, so that a crash leaves what reads give
abbrev pub IsCalm : {D N : Type 0} → Ghosts D N → D → Type 0
IsCalm disk d = IsSettled (disk.image d) (disk.leaves d (disk.moment d))

-- where nothing is held at the start, a crash at any moment leaves an image that has P
abbrev pub LeavesIfCalm : {D N : Type 0} → Ghosts D N → D → D → (Image → Type 0) → Type 0
LeavesIfCalm disk old new P = IsCalm disk old → LeavesOnly disk.moment disk.leaves old new P

-- There was a first sync, before which nothing was changed or added to what a crash may leave. From
-- the moment of the disk behind it on, a crash leaves only what has P.
pub record HasSynced {D N : Type 0} (disk : Ghosts D N) (old new : D) (P : Image → Type 0)
    : Type 0 where
  -- the disk behind that sync
  pub at : D
  pub name : disk.name at ≡ disk.name old
  pub image : disk.image at ≡ disk.image old
  pub synced : disk.sync_count at ≡ one_more (disk.sync_count old)
  pub settled : IsCalm disk at
  pub time : AddsNone (disk.moment old) (disk.moment at) (disk.leaves old) (disk.leaves at)
  pub then_on : LeavesOnly disk.moment disk.leaves at new P

-- What a stop leaves of a run that begins with a sync of a disk that holds writes back. The run adds
-- only what has P to what a crash may leave, and from that sync on that is all; where nothing is held
-- at its start, that is all from the start on.
pub record LeavesFromSync {D N : Type 0} (disk : Ghosts D N) (old new : D) (P : Image → Type 0)
    : Type 0 where
  pub any_moment : LeavesIfCalm disk old new P
  pub adds : AddsOnly disk.moment disk.leaves old new P
  pub from_sync : Holds disk old → HasSynced disk old new P

-- the same of a run that may be refused before that sync, and then syncs nothing
pub record LeavesIfSynced {D N : Type 0} (disk : Ghosts D N) (old new : D) (P : Image → Type 0)
    : Type 0 where
  pub any_moment : LeavesIfCalm disk old new P
  pub adds : AddsOnly disk.moment disk.leaves old new P
  pub from_sync : Holds disk old → (disk.sync_count new ≡ disk.sync_count old)
      ⊎ HasSynced disk old new P

-- a disk was only read; one that holds writes back may have been synced, too
pub record Rests {D N : Type 0} (disk : Ghosts D N) (old new : D) : Type 0 where
  pub name : disk.name new ≡ disk.name old
  pub image : disk.image new ≡ disk.image old
  pub writes : disk.write_count new ≡ disk.write_count old
  pub time : AddsNone (disk.moment old) (disk.moment new) (disk.leaves old) (disk.leaves new)
  pub reads : UnlessHolds disk old (OnlyReads disk old new)

-- and no call of it failed
pub record Looks {D N : Type 0} (disk : Ghosts D N) (old new : D) : Type 0 where
  pub rests : Rests disk old new
  pub faults : disk.fault_count new ≡ disk.fault_count old

-- the header of a lawful log was read
pub record ReadsHeader {D N : Type 0} (disk : Ghosts D N) (old new : D) (header : Header)
    : Type 0 where
  pub lawful : IsTrue (is_lawful_log (disk.image old))
  pub count : header.n ≡ logged_count (disk.image old)
  pub homes : header.homes.items ≡ homes_of (disk.image old)
  pub faults : disk.fault_count new ≡ disk.fault_count old

-- one call failed, and none was made behind it, since it might have failed, too
abbrev pub FailsOnce : {D N : Type 0} → Ghosts D N → D → D → Type 0
FailsOnce disk old new = disk.fault_count new ≡ one_more (disk.fault_count old)

-- when each fault of a recovery comes, and how the disk is then
pub record RefusesToRecover {D N T : Type 0} (disk : Ghosts D N) (old new : D)
    (result : Result T RecoverFault) : Type 0 where
  pub bad : OnBadLog result (is_lawful_log (disk.image old) ≡ false)
  pub unwritten : OnBadLog result (Looks disk old new)
  pub memory : OnNoMemory result (new ≡ old)
  pub fault : OnDisk result (FailsOnce disk old new)
  pub unsynced : OnSync result (FailsOnce disk old new)
  pub holds : OnSync result (disk.holding (disk.name old) ≡ true)

-- the first n logged blocks were copied home, and no call failed
pub record Copies {D N : Type 0} (disk : Ghosts D N) (n : ℕ) (old new : D) : Type 0 where
  pub copied : HasCopied n (disk.image old) (disk.image new)
  pub writes : disk.write_count new ≡ counted (disk.write_count old) n
  pub faults : disk.fault_count new ≡ disk.fault_count old

-- nothing is held any more, by that many syncs
pub record Settles {D N : Type 0} (disk : Ghosts D N) (count : ℕ) (old new : D) : Type 0 where
  pub settled : IsCalm disk new
  pub syncs : disk.sync_count new ≡ counted (disk.sync_count old) count

-- the header was cleared
pub record Clears {D N : Type 0} (disk : Ghosts D N) (old new : D) : Type 0 where
  pub image : disk.image new ≡ slice_set (disk.image old) 2 zero_block
  pub writes : disk.write_count new ≡ one_more (disk.write_count old)
  pub faults : disk.fault_count new ≡ disk.fault_count old
  pub settles : Settles disk (syncs_to_settle (disk.holding (disk.name old))) old new

-- the homes were copied, and nothing is held any more
pub record BringsHome {D N : Type 0} (disk : Ghosts D N) (n : ℕ) (old new : D) : Type 0 where
  pub copies : Copies disk n old new
  pub settles : Settles disk (syncs_to_settle (disk.holding (disk.name old))) old new

-- once a recovery has written it fails by the disk, or by a sync where that holds writes back
pub record FailsLate {D N T : Type 0} (disk : Ghosts D N) (old new : D)
    (result : Result T RecoverFault) : Type 0 where
  pub name : disk.name new ≡ disk.name old
  pub kinds : IfErr result (λ e. (e ≡ Disk) ⊎ ((e ≡ Sync) × (disk.holding (disk.name old) ≡ true)))
  pub once : OnErr result (FailsOnce disk old new)
  pub plain : UnlessHolds disk old (disk.sync_count new ≡ disk.sync_count old)

-- A crash at any moment leaves an image that is recovered to the same one, and whose log is lawful
-- where that of the start is; of a disk that holds no writes back it has the first homes copied, or
-- is the recovered one.
pub record StopsAlike {D N : Type 0} (disk : Ghosts D N) (old new : D) : Type 0 where
  pub in_order : UnlessHolds disk old
      (LeavesOnly disk.moment disk.leaves old new (IsRecoveredInPart (disk.image old)))
  pub any_moment : LeavesOnly disk.moment disk.leaves old new (RecoversAs (disk.image old))
  pub plain : UnlessHolds disk old (disk.sync_count new ≡ disk.sync_count old)

-- what a stop leaves of a recovery, which begins with a sync of a disk that holds writes back
pub record MayStop {D N : Type 0} (disk : Ghosts D N) (old new : D) : Type 0 where
  pub in_order : UnlessHolds disk old
      (LeavesOnly disk.moment disk.leaves old new (IsRecoveredInPart (disk.image old)))
  pub leaves : LeavesIfSynced disk old new (RecoversAs (disk.image old))
  -- a disk that holds no writes back is not synced
  pub plain : UnlessHolds disk old (disk.sync_count new ≡ disk.sync_count old)

-- A disk with a lawful log of n blocks was recovered by that many syncs, and nothing is logged any
-- more, or held. Where nothing was logged it was only read.
pub record RecoversBy {D N : Type 0} (disk : Ghosts D N) (n syncs : ℕ) (old new : D) : Type 0 where
  pub lawful : IsTrue (is_lawful_log (disk.image old))
  pub count : n ≡ logged_count (disk.image old)
  pub image : disk.image new ≡ recovered (disk.image old)
  pub none : logged_count (disk.image new) ≡ 0
  pub writes : disk.write_count new ≡ counted (disk.write_count old) (writes_to_recover n)
  pub faults : disk.fault_count new ≡ disk.fault_count old
  pub unwritten : n ≡ 0 → Rests disk old new
  pub settles : Settles disk syncs old new

-- the same by all syncs of a recovery
abbrev pub Recovers : {D N : Type 0} → Ghosts D N → ℕ → D → D → Type 0
Recovers disk n old new =
    RecoversBy disk n (syncs_to_recover (disk.holding (disk.name old)) n) old new
