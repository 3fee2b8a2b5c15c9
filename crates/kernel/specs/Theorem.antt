-- The recovery theorem: from the image that a disk had when a kernel was opened over it, or since
-- then, to what recovery makes of each image that a stop may leave, whoever recovers it.
use Rattle.std.specs.Prelude.{◌≡◌, ◌≢◌, ◌≤◌, ◌==◌, ℕ, if◌then◌else◌, IsTrue, List, map, None, Some}
use mathlib.Core.List.{IsPrefix}
use Rattle.std.specs.List.{filter}
use Rattle.blocks.specs.Calls.{Holds}
use Rattle.blocks.specs.Disk.{Image, LeavesOnly}
use Rattle.blocks.specs.declared.disk.Disk as disk_trait
use Rattle.model.specs.declared.types.operations.Entry.{Entry}
use Rattle.model.specs.Crash.{IsUntouched, due_labels, labels_of}
use Rattle.model.specs.Files.{files_of}
use Rattle.model.specs.Journal.{is_changing, is_number, kept, own, replay}
use Rattle.model.specs.Layout.{form_of, inode_count_of, inode_of}
use Rattle.model.specs.Log.{logged_count, recovered}
use Rattle.model.specs.Soundness.{IsSound}
use Rattle.model.specs.Verdict.{verdict}
use Rattle.ports.specs.History.{History}
use Rattle.ports.specs.declared.herald.Herald as herald_trait
use Rattle.ports.specs.declared.intake.Intake as intake_trait
use Rattle.wal.specs.Recovery.{HasSynced, IsCalm, LeavesFromSync, RecoversAs}
use Rattle.history.specs.Histories.{IsHistory}
use Rattle.history.specs.Keeps.{KeepsBetween}
use Rattle.history.specs.Most.{most_of}
use Rattle.history.specs.Processes.{process}
use Rattle.history.specs.Stop.{KeptNow, KeptSince}
use Rattle.kernel.specs.declared.types.Turn.{Turn}
use Rattle.kernel.specs.Runs.{RunsOn, Session}
use Rattle.kernel.specs.State.{State}

-- over x, what the first groups keep of each process's operations is a beginning of the changing
-- ones that were taken of it
abbrev pub KeepsOwn : {D I H : Type 0} → Image → State D I H → ℕ → Type 0
KeepsOwn x m groups = (p : ℕ) (h : History)
    → IsHistory m.world.journal.list (process m.world p).at (process m.world p).begun p h
    → IsPrefix (map (λ (e : Entry). e.op)
    (own p (kept (inode_count_of x) m.world.journal.list groups)))
    (filter (is_changing (inode_count_of x)) h.taken)

-- y is sound; its files are those of x after the changing operations of the first groups, each once
-- in the order of their turns; each process's are a beginning of those that were taken of it; what
-- no operation touches is as in x; and recovery of y changes nothing
pub record IsRecoveredRun {D I H : Type 0} (x : Image) (least : ℕ) (m : State D I H) (y : Image)
    : Type 0 where
  pub groups : ℕ
  pub least_is : least ≤ groups
  pub most : groups ≤ most_of m.store.volume
  pub sound : IsSound y
  pub files : replay (form_of x) (files_of x)
      (kept (inode_count_of x) m.world.journal.list groups) ≡ Some (files_of y)
  pub untouched : IsUntouched x y
  pub labels : (i : ℕ) → (inode_of y i).kind ≢ 0 → IsTrue (is_number (inode_count_of x) i)
      → labels_of y i ≡ due_labels x (kept (inode_count_of x) m.world.journal.list groups) i
  pub own : KeepsOwn x m groups
  pub again : recovered y ≡ y

-- What the theorem asks of a kernel: these facts of `Known`, which any kernel has.
pub record KnownStop {D N I H : Type 0} (disk : disk_trait.Ghosts D N) (m : State D I H) : Type 0
  where
    pub keeps : KeptNow disk m.opening m.store.volume.device m.store.volume.log.committed
        (most_of m.store.volume) m.world.journal.list
    pub since : KeptSince disk m.opening m.store.volume.device (most_of m.store.volume)
        m.world.journal.list
    pub beginnings : (c : ℕ) → KeepsOwn (disk.image m.opening) m c

-- THE RECOVERY THEOREM of any kernel: of each image x that a stop at any moment since its opening
-- may leave
abbrev pub RecoversSince : {D N : Type 0} → (I H : Type 0) → disk_trait.Ghosts D N → Type 0
RecoversSince {D} {N} I H disk =
    (x : Image) (m : State D I H) → KnownStop disk m →
    disk.leaves m.store.volume.device (disk.moment m.opening) x →
    IsRecoveredRun (disk.image m.opening) 0 m (recovered x)

-- and of each image z that a stop in a recovery of x may leave, or in one of such a z
abbrev pub RecoversStopped : {D N : Type 0} → (I H : Type 0) → disk_trait.Ghosts D N → Type 0
RecoversStopped {D} {N} I H disk =
    (x z : Image) (m : State D I H) → KnownStop disk m →
    disk.leaves m.store.volume.device (disk.moment m.opening) x → RecoversAs x z →
    IsRecoveredRun (disk.image m.opening) 0 m (recovered z)

-- and of each disk f, of any type, that a recovery made of a disk e with such an image. That its
-- image is the recovered one is what `Kernel::open` ensures of the opening, and what each other call
-- that recovers ensures of its disk.
abbrev pub RecoversDisks : {D N E M : Type 0} → (I H : Type 0) → disk_trait.Ghosts D N
    → disk_trait.Ghosts E M → Type 0
RecoversDisks {D} {N} {E} {M} I H disk other =
    (x : Image) (m : State D I H) (e f : E) → KnownStop disk m →
    disk.leaves m.store.volume.device (disk.moment m.opening) x → RecoversAs x (other.image e) →
    other.image f ≡ recovered (other.image e) →
    IsRecoveredRun (disk.image m.opening) 0 m (other.image f)

-- What the theorem asks of an opening over the disk d: these facts of `IsOpened`.
pub record KnownOpening {D N : Type 0} (disk : disk_trait.Ghosts D N) (d opening : D) : Type 0
  where
    pub sound : verdict (disk.image d) ≡ None
    pub image : disk.image opening ≡ recovered (disk.image d)
    pub leaves : LeavesFromSync disk d opening (RecoversAs (disk.image d))

-- the same from the disk that it was opened over, for a stop at any moment since the opening began
abbrev pub RecoversWhole : {D N : Type 0} → (I H : Type 0) → disk_trait.Ghosts D N → Type 0
RecoversWhole {D} {N} I H disk =
    (x : Image) (d : D) (m : State D I H) →
    IsCalm disk d → KnownOpening disk d m.opening → KnownStop disk m →
    disk.leaves m.store.volume.device (disk.moment d) x →
    IsRecoveredRun (recovered (disk.image d)) 0 m (recovered x)

-- m goes on from a kernel that was just opened: it is over the same image, and what a stop left
-- since keeps some of the groups of now. That is so where both have the same opening, and of a
-- kernel that threads share by its frame.
pub record GoesOn {D N I H : Type 0} (disk : disk_trait.Ghosts D N) (opening : D) (m : State D I H)
    : Type 0 where
  pub image : disk.image m.opening ≡ disk.image opening
  pub since : LeavesOnly disk.moment disk.leaves opening m.store.volume.device
      (KeepsBetween 0 (most_of m.store.volume) (disk.image m.opening) m.world.journal.list)

-- the same of such a kernel
abbrev pub RecoversGoing : {D N : Type 0} → (I H : Type 0) → disk_trait.Ghosts D N → Type 0
RecoversGoing {D} {N} I H disk =
    (x : Image) (d opening : D) (m : State D I H) →
    IsCalm disk d → KnownOpening disk d opening → GoesOn disk opening m → KnownStop disk m →
    disk.leaves m.store.volume.device (disk.moment d) x →
    IsRecoveredRun (recovered (disk.image d)) 0 m (recovered x)

-- the same from a disk that holds writes back, for a stop since the sync with which its recovery
-- began
abbrev pub RecoversHeld : {D N : Type 0} → (I H : Type 0) → disk_trait.Ghosts D N → Type 0
RecoversHeld {D} {N} I H disk =
    (d : D) (m : State D I H) →
    Holds disk d → KnownOpening disk d m.opening → KnownStop disk m →
    HasSynced disk d m.store.volume.device
    (λ x. IsRecoveredRun (recovered (disk.image d)) 0 m (recovered x))

-- and for one since some state of the run: no group that was committed then is lost
abbrev pub NoneIsLost : {D N : Type 0} → (I H : Type 0) → disk_trait.Ghosts D N → Type 0
NoneIsLost {D} {N} I H disk =
    (x : Image) (a m : State D I H) → RunsOn disk a m → KnownStop disk m →
    disk.leaves m.store.volume.device (disk.moment a.store.volume.device) x →
    IsRecoveredRun (disk.image m.opening) a.store.volume.log.committed m (recovered x)

-- and for one now, of an image that it may leave: exactly the committed groups, or one more exactly
-- where a header got through whose write failed or whose sync is still to come
pub record IsExact {D I H : Type 0} (opening : Image) (m : State D I H) (x : Image) : Type 0 where
  pub run : IsRecoveredRun opening m.store.volume.log.committed m (recovered x)
  pub exactly : run.groups ≡ (if logged_count x == 0 then m.store.volume.log.committed
      else most_of m.store.volume)

abbrev pub ExactlyTheCommitted : {D N : Type 0} → (I H : Type 0) → disk_trait.Ghosts D N → Type 0
ExactlyTheCommitted {D} {N} I H disk =
    (x : Image) (m : State D I H) → KnownStop disk m →
    disk.leaves m.store.volume.device (disk.moment m.store.volume.device) x →
    IsExact (disk.image m.opening) m x

-- any session keeps its opening and what was committed, and none begins after a shutdown
abbrev pub SessionKeeps : {D N I M H : Type 0} → disk_trait.Ghosts D N → intake_trait.Ghosts I M
    → herald_trait.Ghosts H → Type 0
SessionKeeps {D} {N} {I} {M} {H} disk intake herald =
    (a m : State D I H) (ts : List Turn) → Session disk intake herald ts a m →
    KnownStop disk a → RunsOn disk a m
