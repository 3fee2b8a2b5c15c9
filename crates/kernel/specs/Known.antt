-- What is known of a kernel between two steps.
use Rattle.std.specs.Prelude.{◌≡◌, ◌<◌, ◌≤◌, ℕ, true, map, length, IfNone, Some}
use mathlib.Core.List.{IsPrefix}
use Rattle.std.specs.List.{filter}
use Rattle.blocks.specs.Disk.{Image}
use Rattle.blocks.specs.declared.disk.Disk as disk_trait
use Rattle.model.specs.declared.types.operations.Entry.{Entry}
use Rattle.model.specs.Files.{Files, files_of}
use Rattle.model.specs.Journal.{answered, kept, own, replay, is_changing}
use Rattle.model.specs.Layout.{form_of, inode_count_of}
use Rattle.model.specs.Log.{cleared, logged_count}
use Rattle.bcache.specs.Buffers.{IsCache}
use Rattle.wal.specs.Machine.{LogState, is_quiet}
use Rattle.wal.specs.Volume.{faults_after}
use Rattle.inodes.specs.Store.{FitsFiles, current_of}
use Rattle.ports.specs.History.{History}
use Rattle.ports.specs.declared.herald.Herald as herald_trait
use Rattle.ports.specs.declared.intake.Intake as intake_trait
use Rattle.history.specs.Follows.{IsJournal}
use Rattle.history.specs.Histories.{IsHistory}
use Rattle.history.specs.Keeps.{HasFilesAfter, KeepsBeginnings}
use Rattle.history.specs.Most.{most_of}
use Rattle.history.specs.Processes.{process}
use Rattle.history.specs.Stop.{StopLeaves}
use Rattle.kernel.specs.Awake.{AreIdle, IsAwake}
use Rattle.kernel.specs.Bound.{left_of, step_bound}
use Rattle.kernel.specs.Invariant.{CanReplay, HasHistory}
use Rattle.kernel.specs.Lasting.{AreUnderWay, HaveLocks}
use Rattle.kernel.specs.State.{State}

-- no operation is open in the log, and no commit is under way
pub record IsAtRest (l : LogState) : Type 0 where
  pub none : l.outstanding ≡ 0
  pub quiet : is_quiet l.commit ≡ true

-- the current image has the files after all of the journal where no changing operation is under way
pub record IsCurrent {D I H : Type 0} (image : D → Image) (k : State D I H) : Type 0 where
  pub files : k.store.volume.log.outstanding ≡ 0 → HasFilesAfter (image k.opening)
      (kept (inode_count_of (image k.opening)) k.world.journal.list k.store.volume.log.opened)
      (cleared (current_of image k.store.volume))
  pub idle : AreIdle k.world
      → replay (form_of (image k.opening)) (files_of (image k.opening))
      k.world.journal.list ≡ Some (files_of (cleared (current_of image k.store.volume)))
  -- no operation is open then, and no commit under way
  pub rests : AreIdle k.world → IsAtRest k.store.volume.log
  -- all groups are committed then, but for one that is being committed
  pub settled : k.store.volume.log.outstanding ≡ 0 → is_quiet k.store.volume.log.commit ≡ true
      → k.store.volume.log.committed ≡ k.store.volume.log.opened
  -- between two commits its log is empty
  pub empty : is_quiet k.store.volume.log.commit ≡ true
      → logged_count (current_of image k.store.volume) ≡ 0
  -- and so has its disk
  pub clear : is_quiet k.store.volume.log.commit ≡ true
      → logged_count (image k.store.volume.device) ≡ 0
  -- at rest no block stands in buffers alone
  pub shown : IsAtRest k.store.volume.log
      → current_of image k.store.volume ≡ image k.store.volume.device
  -- whatever is under way, it stands for the files after the entries that have a reply
  pub stands : (m : Files) → replay (form_of (image k.opening)) (files_of (image k.opening))
      (answered k.world.journal.list) ≡ Some m → FitsFiles image k.store m
  pub size : k.store.volume.log.size ≡ length (image k.opening)

-- What any kernel is like. A stop leaves an image that keeps the committed groups.
pub record Known {D N I M H : Type 0} (disk : disk_trait.Ghosts D N)
    (intake : intake_trait.Ghosts I M) (herald : herald_trait.Ghosts H)
    (k : State D I H) : Type 0 where
  pub stop : StopLeaves disk k.opening k.store.volume.device k.store.volume.log.committed
      (most_of k.store.volume) k.world.journal.list
  pub current : IfNone k.store.volume.fault (IsCurrent disk.image k)
  pub awake : IfNone k.store.volume.fault (IsAwake disk.image k)
  pub cache : IsCache k.store.volume.buffers
  pub locks : HaveLocks k.store.table k.world
  pub unanswered : AreUnderWay k.world
  pub left : (p : ℕ) → left_of disk.image k p < step_bound (form_of (disk.image k.opening))
  pub journal : IsJournal
      (inode_count_of (disk.image k.opening)) k.store.volume.log.opened k.world.journal.list
  pub order : KeepsBeginnings
      (inode_count_of (disk.image k.opening)) k.world.journal.list k.store.volume.log.opened
  pub replays : CanReplay (disk.image k.opening) k.world
  pub histories : (p : ℕ) → p < length k.world.processes
      → HasHistory (intake.fits k.intake) k.world p
  -- what is kept of a process's operations is a beginning of the changing ones that were taken of
  -- it
  pub beginnings : (p c : ℕ) (h : History)
      → IsHistory k.world.journal.list (process k.world p).at (process k.world p).begun p h
      → IsPrefix (map (λ (e : Entry). e.op)
      (own p (kept (inode_count_of (disk.image k.opening)) k.world.journal.list c)))
      (filter (is_changing (inode_count_of (disk.image k.opening))) h.taken)
  pub told : herald.count k.herald ≡ k.store.volume.log.committed
  pub served : intake.process_count k.intake ≡ length k.world.processes
  pub some : 1 ≤ length k.world.processes
  pub few : length k.world.processes ≤ 32
  pub numbers : k.store.table.inode_count ≡ inode_count_of (disk.image k.opening)
  -- the disk counted no fault since the opening, or the one after which nothing is done any more
  pub faults : disk.fault_count k.store.volume.device
      ≡ faults_after k.store.volume.fault (disk.fault_count k.opening)
