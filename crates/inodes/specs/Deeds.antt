-- What the next step of a process's task does, by where the task stands.
use Rattle.std.specs.Prelude.{ℕ, Option, Some, None}
use Rattle.model.specs.Layout.{inode_block}
use Rattle.bcache.specs.Buffers.{Buffers, buffer, found}
use Rattle.wal.specs.Deeds.{with_block}
use Rattle.wal.specs.declared.deeds.TaskDeed.{TaskDeed}
use Rattle.blockmap.specs.Deeds.{deed_of_target, deed_on_way}
use Rattle.inodes.specs.declared.freeing.Freeing.{Freeing}
use Rattle.inodes.specs.declared.freeing.Got.{Got}
use Rattle.inodes.specs.declared.ilock.LockAt.{LockAt}
use Rattle.inodes.specs.declared.tasks.Stage.{Stage}
use Rattle.inodes.specs.declared.writei.WriteAt.{WriteAt}
use Rattle.inodes.specs.Freeing.{block_next, now_of}
use Rattle.inodes.specs.Ialloc.{SearchState}
use Rattle.inodes.specs.Iupdate.{UpdateState}
use Rattle.inodes.specs.Store.{StoreState}
use Rattle.inodes.specs.Table.{TableState, holder_at}
use Rattle.inodes.specs.Tasks.{task}

abbrev pub deed_of_search : SearchState → TaskDeed
deed_of_search m = with_block m.slot m.block

abbrev pub deed_of_update : UpdateState → TaskDeed
deed_of_update m = with_block m.slot (inode_block m.number)

-- the inode's block is got and looked at
abbrev pub deed_of_read : Option ℕ → ℕ → TaskDeed
deed_of_read None b = TaskDeed.Get b
deed_of_read (Some i) b = TaskDeed.Look b

abbrev pub deed_of_lock : LockAt → ℕ → TaskDeed
deed_of_lock LockAt.Reference i = TaskDeed.Reference i
deed_of_lock (LockAt.Lock k) i = TaskDeed.Lock i k
deed_of_lock (LockAt.Read k slot) i = deed_of_read slot (inode_block i)

-- the block in hand is used, and without one the next is got
abbrev pub deed_in_hand : Option Got → ℕ → TaskDeed
deed_in_hand None b = TaskDeed.Get b
deed_in_hand (Some g) b = TaskDeed.Use g.block

abbrev pub deed_of_freeing : Freeing → TaskDeed
deed_of_freeing m = deed_in_hand (now_of m) (block_next m)

abbrev pub deed_of_write : WriteAt → TaskDeed
deed_of_write (WriteAt.Mapping way) = deed_on_way way.at
deed_of_write (WriteAt.Block b slot) = with_block slot b
deed_of_write (WriteAt.Updating u) = deed_of_update u

abbrev pub deed_at_stage : Stage → Option TaskDeed
deed_at_stage Stage.Nowhere = None
deed_at_stage (Stage.Creating m) = Some (deed_of_search m)
deed_at_stage (Stage.Taking m) = Some (deed_of_lock m.at m.number)
deed_at_stage (Stage.Reading k m) = Some (deed_of_target m.target)
deed_at_stage (Stage.Delivering k) = Some TaskDeed.Finish
deed_at_stage (Stage.Truncating k m) = Some (deed_of_freeing m)
deed_at_stage (Stage.Writing k m) = Some (deed_of_write m.at)
deed_at_stage (Stage.Setting k d u) = Some (deed_of_update u)
deed_at_stage (Stage.Leaving k) = Some TaskDeed.Put

-- what the next step of process p's task does; none where the process has no task
abbrev pub task_deed : {D : Type 0} → StoreState D → ℕ → Option TaskDeed
task_deed s p = deed_at_stage (task s.tasks p).stage

-- ---- who has what it takes

abbrev pub holder_of_slot : Buffers → Option ℕ → Option ℕ
holder_of_slot c None = None
holder_of_slot c (Some i) = (buffer c i).holder

-- who holds the block's buffer that a step gets, or the inode's lock that it takes
abbrev pub holder_by : Buffers → TableState → Option TaskDeed → Option ℕ
holder_by c t None = None
holder_by c t (Some (TaskDeed.Reference i)) = None
holder_by c t (Some (TaskDeed.Lock i k)) = holder_at t.places k
holder_by c t (Some (TaskDeed.Get b)) = holder_of_slot c (found c b)
holder_by c t (Some (TaskDeed.Use b)) = None
holder_by c t (Some (TaskDeed.Look b)) = None
holder_by c t (Some TaskDeed.Finish) = None
holder_by c t (Some TaskDeed.Put) = None

-- who holds what the next step of process p's task gets or takes
abbrev pub wanted_holder : {D : Type 0} → StoreState D → ℕ → Option ℕ
wanted_holder s p = holder_by s.volume.buffers s.table (task_deed s p)
