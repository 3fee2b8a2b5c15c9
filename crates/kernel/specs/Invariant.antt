-- What is true of every kernel, between two steps.
use Rattle.std.specs.Prelude.{◌≡◌, ◌<◌, ◌≤◌, ℕ, ◌+◌, true, false, is_none, List, length, IfNone, IfSome, Option, Some}
use Rattle.wal.specs.declared.types.DeviceFault.{DeviceFault}
use Rattle.blocks.specs.Disk.{Image}
use Rattle.blocks.specs.declared.disk.Disk as disk_trait
use Rattle.model.specs.declared.types.operations.Entry.{Entry}
use Rattle.model.specs.Files.{Files, files_of}
use Rattle.model.specs.Gathered.{GatheredBytes}
use Rattle.model.specs.Journal.{answered, replay}
use Rattle.model.specs.Layout.{form_of, inode_count_of}
use Rattle.wal.specs.Volume.{faults_after}
use Rattle.inodes.specs.Store.{StoreState}
use Rattle.inodes.specs.Tasks.{TaskState, task}
use Rattle.inodes.specs.Stages.{is_over, owes_reply, is_unturned}
use Rattle.ports.specs.History.{History}
use Rattle.ports.specs.declared.herald.Herald as herald_trait
use Rattle.ports.specs.declared.intake.Intake as intake_trait
use Rattle.history.specs.declared.types.Phase.{Phase}
use Rattle.history.specs.Alone.{CommitsAlone}
use Rattle.history.specs.Views.{KernelFacts}
use Rattle.history.specs.Follows.{IsJournal}
use Rattle.history.specs.Histories.{IsHistory}
use Rattle.history.specs.Journal.{IsItsRoom}
use Rattle.history.specs.Stop.{KeptNow, KeptSince}
use Rattle.history.specs.Most.{most_of}
use Rattle.history.specs.Counting.{IsCounted}
use Rattle.history.specs.Open.{IsEntry}
use Rattle.history.specs.Processes.{World, process}
use Rattle.history.specs.Bound.{is_busy_at}
use Rattle.kernel.specs.Lasting.{Lasts}
use Rattle.kernel.specs.State.{State, ats_of}
use Rattle.kernel.specs.View.{view_of}

-- The task of an entry's operation goes on behind its turn. The entry has no reply exactly while the
-- task still owes it.
pub record IsBehind (t : TaskState) (e : Entry) : Type 0 where
  pub same : t.op ≡ Some e.op
  pub unfinished : is_over t.stage ≡ false
  pub turned : is_unturned t.stage ≡ false
  pub reply : owes_reply t.stage ≡ is_none e.reply

-- a process's task stands where its operation does
abbrev pub TaskStands : List Entry → TaskState → Phase → Type 0
TaskStands es t Phase.Idle = is_over t.stage ≡ true
TaskStands es t (Phase.BeforeTurn group op) = (t.op ≡ Some op) × (is_unturned t.stage ≡ true)
TaskStands es t (Phase.AfterTurn group k) = (e : Entry) → IsEntry es k e → IsBehind t e
TaskStands es t (Phase.Ending group k) = is_over t.stage ≡ true
TaskStands es t (Phase.Committing group k) = (is_over t.stage ≡ true) × (0 < group)

-- and the operation under way has room for its answer
pub record IsPaired (es : List Entry) (t : TaskState) (a : Phase) (room : Option GatheredBytes)
    : Type 0 where
  pub stands : TaskStands es t a
  pub room_is : is_busy_at a ≡ true → IsItsRoom t.op room

-- so many processes, each with its task
pub record ArePaired {D : Type 0} (s : StoreState D) (w : World) : Type 0 where
  pub many : length s.tasks ≡ length w.processes
  pub some : 1 ≤ length w.processes
  pub few : length w.processes ≤ 32
  pub stand : (p : ℕ) → IsPaired w.journal.list (task s.tasks p) (process w p).at (process w p).room

-- the facts of store and journal, while the disk has not failed
pub record HasFacts {D : Type 0} (image : D → Image) (opening : Image) (s : StoreState D)
    (w : World) : Type 0 where
  pub facts : KernelFacts opening (view_of image s) w.journal.list (ats_of w)
  pub alone : CommitsAlone (ats_of w) s.volume.log

-- the answered entries can be replayed
pub record CanReplay (opening : Image) (w : World) : Type 0 where
  pub files : Files
  pub run : replay (form_of opening) (files_of opening) (answered w.journal.list) ≡ Some files

-- what is true of store and processes
pub record IsRight {D N : Type 0} (disk : disk_trait.Ghosts D N) (opening : D) (s : StoreState D)
    (w : World) : Type 0 where
  pub numbers : s.table.inode_count ≡ inode_count_of (disk.image opening)
  pub paired : ArePaired s w
  pub counted : IsCounted s.volume.log.opened w
  -- all groups but one are committed
  pub near : s.volume.log.opened ≤ s.volume.log.committed + 1
  pub facts : IfNone s.volume.fault (HasFacts disk.image (disk.image opening) s w)
  pub lasts : IfSome s.volume.fault
      (λ (fault : DeviceFault). Lasts disk.image (form_of (disk.image opening)) s w)
  pub journal : IsJournal (inode_count_of (disk.image opening)) s.volume.log.opened w.journal.list
  pub replays : CanReplay (disk.image opening) w
  -- what recovery gives of each image that the disk may leave, once it has failed; before, it
  -- follows from the facts and from what the store says of those images
  pub keeps : IfSome s.volume.fault (λ fault. KeptNow disk opening
      s.volume.device s.volume.log.committed (most_of s.volume) w.journal.list)
  -- the disk counted no fault since the opening, or this one
  pub faults : disk.fault_count s.volume.device
      ≡ faults_after s.volume.fault (disk.fault_count opening)

-- an intake agrees with what the journal tells of a process
pub record HasHistory (fits : ℕ → History → Type 0) (w : World) (p : ℕ) : Type 0 where
  pub history : History
  pub is : IsHistory w.journal.list (process w p).at (process w p).begun p history
  pub fit : fits p history

-- what is true of the ports
pub record ArePorts {I M H : Type 0} (intake : intake_trait.Ghosts I M)
    (herald : herald_trait.Ghosts H) (i : I) (h : H) (committed : ℕ) (w : World) : Type 0 where
  pub served : intake.process_count i ≡ length w.processes
  -- there is room for the answer of each operation under way
  pub room : (p : ℕ) → is_busy_at (process w p).at ≡ true → (intake.side i p).has_room ≡ true
  -- the herald was told of each commit
  pub told : herald.count h ≡ committed
  pub histories : (p : ℕ) → p < length w.processes → HasHistory (intake.fits i) w p

-- Each image that a crash at any moment since the opening may leave keeps some groups, at most those
-- of now.
abbrev pub LeavesSince : {D N : Type 0} → disk_trait.Ghosts D N → D → StoreState D → World → Type 0
LeavesSince disk opening s w =
    KeptSince disk opening s.volume.device (most_of s.volume) w.journal.list

pub record Inv {D N I M H : Type 0} (disk : disk_trait.Ghosts D N)
    (intake : intake_trait.Ghosts I M) (herald : herald_trait.Ghosts H)
    (k : State D I H) : Type 0 where
  pub right : IsRight disk k.opening k.store k.world
  pub since : LeavesSince disk k.opening k.store k.world
  pub ports : ArePorts intake herald k.intake k.herald k.store.volume.log.committed k.world
