-- What a step of a task promises.
use Rattle.std.specs.Prelude.{◌≡◌, ◌≢◌, ◌<◌, ◌⊎◌, ℕ, Bool, true, false, length, Option, Some, None}
use Rattle.blocks.specs.Calls.{OnlyReads}
use Rattle.blocks.specs.Disk.{Image}
use Rattle.blocks.specs.declared.disk.Disk.{Ghosts}
use Rattle.model.specs.declared.types.operations.Op.{Op}
use Rattle.model.specs.declared.types.operations.Reply.{Reply}
use Rattle.model.specs.declared.types.operations.TaskProgress.{TaskProgress}
use Rattle.model.specs.declared.types.operations.Why.{Why}
use Rattle.model.specs.Files.{Files}
use Rattle.model.specs.Journal.{is_making}
use Rattle.model.specs.Layout.{form_of, inode_of}
use Rattle.model.specs.Tasks.{FilesThen, reply_at_turn, Marks}
use Rattle.wal.specs.Volume.{fault_of_task}
use Rattle.in_flight.specs.Held.{Claim, names_claimed}
use Rattle.in_flight.specs.HeldLaws.{HasSameFile}
use Rattle.wal.specs.declared.types.Committed.{Committed}
use Rattle.wal.specs.Held.{HasLock}
use Rattle.wal.specs.Machine.{LogState, SameGroups, noted, used_by}
use Rattle.wal.specs.Volume.{VolumeCommits, faults_after}
use Rattle.inodes.specs.Goes.{Goes}
use Rattle.inodes.specs.Grips.{unlocked_grip, locked_grip}
use Rattle.inodes.specs.Holding.{claims_of}
use Rattle.inodes.specs.Stages.{asked, asked_by, is_over, owes_reply, HasSlot, block_at_stage, grip_of, steps_left}
use Rattle.inodes.specs.Store.{StoreState, FitsFiles, KeepsFiles, current_of}
use Rattle.inodes.specs.Tasks.{task}
use Rattle.inodes.specs.Writing.{most_logged}

-- block b's buffer is locked by another process than p, whose task has got it
pub record IsHeldByAnother {D : Type 0} (s : StoreState D) (p b : ℕ) : Type 0 where
  pub other : ℕ
  pub slot : ℕ
  pub apart : other ≢ p
  pub lock : HasLock s.volume.buffers other b slot
  pub got : HasSlot (task s.tasks other).stage slot

-- the inode that process p takes is locked by another process
pub record IsInodeHeld {D : Type 0} (s : StoreState D) (p : ℕ) : Type 0 where
  pub other : ℕ
  pub place : ℕ
  pub number : ℕ
  pub apart : other ≢ p
  pub wanted : grip_of (task s.tasks p) ≡ Some (unlocked_grip place number)
  pub locked : grip_of (task s.tasks other) ≡ Some (locked_grip place number)

-- a step of process p changes the stage of its own task alone
pub record LeavesTasks {D : Type 0} (old : StoreState D) (p : ℕ) (new : StoreState D) : Type 0 where
  pub op_stays : (task new.tasks p).op ≡ (task old.tasks p).op
  pub others : (q : ℕ) → q ≢ p → task new.tasks q ≡ task old.tasks q
  pub many : length new.tasks ≡ length old.tasks
  pub numbers : new.table.inode_count ≡ old.table.inode_count
  pub form : new.table.form ≡ old.table.form

-- who has to wait changed nothing, and where it waits for a buffer or an inode, another has it
pub record Waits {D : Type 0} (old : StoreState D) (p : ℕ) (r : TaskProgress) (new : StoreState D)
    : Type 0 where
  pub sleeping : (cause : Why) → r ≡ TaskProgress.Sleeping cause → new ≡ old
  pub held : r ≡ TaskProgress.Sleeping Why.BufferHeld
      → IsHeldByAnother old p (block_at_stage (task old.tasks p).stage)
  pub inode : r ≡ TaskProgress.Sleeping Why.InodeHeld → IsInodeHeld old p

-- the operation is not that of number i, and makes it not
abbrev pub LeavesNumber : Op → Option Reply → ℕ → Type 0
LeavesNumber op None i = Unit {0}
LeavesNumber op (Some reply) i = (asked op ≢ i) × (is_making i (Some reply) ≡ false)

-- a turn whose reply stands has nothing to do with the inode of another whose reply is to come
abbrev pub LeavesLate : {D : Type 0} → StoreState D → ℕ → Op → TaskProgress → Type 0
LeavesLate s p op r = (q : ℕ) → q ≢ p → owes_reply (task s.tasks q).stage ≡ true
    → LeavesNumber op (reply_at_turn r) (asked_by (task s.tasks q).op)

-- what stays of a number: its file where no task holds it, and else the blocks that the task owns
abbrev pub SameShare : Image → Image → ℕ → Option Claim → Type 0
SameShare x y i None = HasSameFile x y i
SameShare x y i (Some c) = names_claimed y i (Some c) ≡ names_claimed x i (Some c)

-- THE SHARE of who has locked a used inode stays: the inode, what is held of it, and its blocks
pub record LeavesShare {D : Type 0} (image : D → Image) (old : StoreState D) (i : ℕ)
    (new : StoreState D) : Type 0 where
  pub inode : inode_of (current_of image new.volume) i ≡ inode_of (current_of image old.volume) i
  pub claim : claims_of new.tasks i ≡ claims_of old.tasks i
  pub same : SameShare (current_of image old.volume) (current_of image new.volume) i
      (claims_of old.tasks i)

-- a step of process p leaves those of the others
abbrev pub LeavesShares : {D : Type 0} → (D → Image) → StoreState D → ℕ → StoreState D → Type 0
LeavesShares image old p new = (q k i : ℕ) → q ≢ p
    → grip_of (task old.tasks q) ≡ Some (locked_grip k i)
    → (inode_of (current_of image old.volume) i).kind ≢ 0 → LeavesShare image old i new

-- a step was made
abbrev pub is_made : TaskProgress → Bool
is_made TaskProgress.Moved = true
is_made (TaskProgress.Turned reply) = true
is_made (TaskProgress.Decided reply) = true
is_made TaskProgress.Over = true
is_made (TaskProgress.Sleeping why) = false
is_made (TaskProgress.Fault fault) = false

-- a step only reads; how often isn't said
pub record Reads {D N : Type 0} (disk : Ghosts D N) (old : StoreState D) (r : TaskProgress)
    (new : StoreState D) : Type 0 where
  pub device : OnlyReads disk old.volume.device new.volume.device
  pub fault : new.volume.fault ≡ fault_of_task r
  pub faults : disk.fault_count new.volume.device
      ≡ faults_after (fault_of_task r) (disk.fault_count old.volume.device)

-- process p's operation, which is open in the log, and added fewer blocks than so many, logs one more
pub record LogsBlock (most : ℕ) (l : LogState) (p : ℕ) (m : LogState) : Type 0 where
  pub added : ℕ
  pub used : used_by l p ≡ Some added
  pub few : added < most
  pub block : ℕ
  pub is : m ≡ noted l p block

-- a step logs one block at most, and an operation never more than so many
abbrev pub LogsAtMost : ℕ → LogState → ℕ → LogState → Type 0
LogsAtMost most l p m = (m ≡ l) ⊎ LogsBlock most l p m

-- THE PROMISE OF A STEP of process p's task, which carries out this operation.
pub record Steps {D N : Type 0} (disk : Ghosts D N) (old : StoreState D) (p : ℕ) (op : Op)
    (r : TaskProgress) (new : StoreState D) : Type 0 where
  -- whatever files it stood for, it stands for those that the answer says
  pub files : (m : Files) → FitsFiles disk.image old m
      → FilesThen (form_of (current_of disk.image old.volume)) op r m (FitsFiles disk.image new)
  -- and which these are, table, image and log say
  pub goes : Goes disk (task old.tasks p).stage old p op r new
  pub tasks : LeavesTasks old p new
  pub groups : SameGroups old.volume.log new.volume.log
  pub logs : LogsAtMost (most_logged old.table.form op) old.volume.log p new.volume.log
  pub marks : Marks (reply_at_turn r)
      (current_of disk.image old.volume) (current_of disk.image new.volume)
  pub waits : Waits old p r new
  pub reads : Reads disk old r new
  pub apart : LeavesLate old p op r
  pub shares : LeavesShares disk.image old p new
  pub falls : is_made r ≡ true → is_over (task old.tasks p).stage ≡ false
      → steps_left (current_of disk.image new.volume) (task new.tasks p).stage old.table.inode_count
      < steps_left (current_of disk.image old.volume) (task old.tasks p).stage old.table.inode_count

-- THE PROMISE OF A COMMIT'S WRITE.
pub record Commits {D N : Type 0} (disk : Ghosts D N) (old : StoreState D) (r : Committed)
    (new : StoreState D) : Type 0 where
  pub volume : VolumeCommits disk old.volume r new.volume
  pub files : KeepsFiles disk.image old new
  pub tasks : new.tasks ≡ old.tasks
  pub table : new.table ≡ old.table
