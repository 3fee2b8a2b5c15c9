-- Why a task's next step has to wait, and that of the tasks under way one need not.
use Rattle.std.specs.Prelude.{◌≡◌, ◌≢◌, ℕ, false, Option, Some, None}
use Rattle.blocks.specs.declared.disk.Disk.{Ghosts}
use Rattle.model.specs.declared.types.operations.Op.{Op}
use Rattle.model.specs.declared.types.operations.TaskProgress.{TaskProgress}
use Rattle.model.specs.declared.types.operations.Why.{Why}
use Rattle.model.specs.Layout.{inode_block}
use Rattle.bcache.specs.Buffers.{Buffers}
use Rattle.wal.specs.Volume.{cause_to_get}
use Rattle.blockmap.specs.Balloc.{AllocState}
use Rattle.blockmap.specs.Target.{block_of, slot_in}
use Rattle.blockmap.specs.declared.bmap_alloc.MapAt.{MapAt}
use Rattle.inodes.specs.declared.ilock.LockAt.{LockAt}
use Rattle.inodes.specs.declared.tasks.Stage.{Stage}
use Rattle.inodes.specs.declared.writei.WriteAt.{WriteAt}
use Rattle.inodes.specs.Freeing.{block_next, now_of, slot_kept}
use Rattle.inodes.specs.Stages.{HasSlot, is_over}
use Rattle.inodes.specs.Steps.{Steps}
use Rattle.inodes.specs.Store.{StoreState}
use Rattle.inodes.specs.Table.{TableState, holder_at}
use Rattle.inodes.specs.Tasks.{task}
use Rattle.inodes.specs.Writing.{slot_of_alloc, block_of_alloc}

-- ---- the block that a task gets next; none where its next step gets none

-- a block, unless it was got already
abbrev pub unless_got : Option ℕ → ℕ → Option ℕ
unless_got None b = Some b
unless_got (Some i) b = None

abbrev pub wanted_by_alloc : AllocState → Option ℕ
wanted_by_alloc t = unless_got (slot_of_alloc t.at) (block_of_alloc t t.at)

abbrev pub wanted_on_way : MapAt → Option ℕ
wanted_on_way (MapAt.Address t) = wanted_by_alloc t
wanted_on_way (MapAt.Entry n slot) = unless_got slot n.block
wanted_on_way (MapAt.Behind n i t) = wanted_by_alloc t
wanted_on_way (MapAt.Setting n i found) = None

abbrev pub wanted_by_write : WriteAt → Option ℕ
wanted_by_write (WriteAt.Mapping way) = wanted_on_way way.at
wanted_by_write (WriteAt.Block b slot) = unless_got slot b
wanted_by_write (WriteAt.Updating u) = unless_got u.slot (inode_block u.number)

-- ---- why a step has to wait; none where it goes on

-- an inode's lock is waited for where another has it
abbrev pub cause_of_holder : Option ℕ → Option Why
cause_of_holder None = None
cause_of_holder (Some q) = Some Why.InodeHeld

abbrev pub cause_to_lock : Buffers → TableState → LockAt → ℕ → Option Why
cause_to_lock c t LockAt.Reference i = None
cause_to_lock c t (LockAt.Lock k) i = cause_of_holder (holder_at t.places k)
cause_to_lock c t (LockAt.Read k slot) i = cause_to_get c (unless_got slot (inode_block i))

abbrev pub cause_at : Buffers → TableState → Stage → Option Why
cause_at c t Stage.Nowhere = None
cause_at c t (Stage.Creating m) = cause_to_get c (unless_got m.slot m.block)
cause_at c t (Stage.Taking m) = cause_to_lock c t m.at m.number
cause_at c t (Stage.Reading k m) =
    cause_to_get c (unless_got (slot_in m.target) (block_of m.target))
cause_at c t (Stage.Delivering k) = None
cause_at c t (Stage.Truncating k m) = cause_to_get c (unless_got (slot_kept (now_of m)) (block_next m))
cause_at c t (Stage.Writing k m) = cause_to_get c (wanted_by_write m.at)
cause_at c t (Stage.Setting k d u) =
    cause_to_get c (unless_got u.slot (inode_block u.number))
cause_at c t (Stage.Leaving k) = None

-- why the next step of process p's task has to wait
abbrev pub sleep_cause : {D : Type 0} → StoreState D → ℕ → Option Why
sleep_cause s p = cause_at s.volume.buffers s.table (task s.tasks p).stage

-- a task is under way whose next step need not wait
pub record SomeoneGoesOn {D : Type 0} (s : StoreState D) : Type 0 where
  pub process : ℕ
  pub busy : is_over (task s.tasks process).stage ≡ false
  pub goes : sleep_cause s process ≡ None

-- NOBODY WAITS FOR EVER: where a task is under way, one is that need not wait
abbrev pub NobodyWaitsForEver : {D : Type 0} → StoreState D → Type 0
NobodyWaitsForEver s = (p : ℕ) → is_over (task s.tasks p).stage ≡ false → SomeoneGoesOn s

-- a task that stands there holds no buffer
abbrev pub HoldsNone : Stage → Type 0
HoldsNone a = (i : ℕ) → HasSlot a i → ⊥

-- WHO HOLDS BUFFERS ALONE never waits for one that is free
abbrev pub AloneGetsBuffers : {D : Type 0} → StoreState D → Type 0
AloneGetsBuffers s = (p : ℕ) → ((q : ℕ) → q ≢ p → HoldsNone (task s.tasks q).stage)
    → sleep_cause s p ≢ Some Why.NoBuffer

-- a step that has to wait has this cause
abbrev pub SleepsForCause : {D N : Type 0} → Ghosts D N → Type 0
SleepsForCause {D} disk = (s t : StoreState D) (p : ℕ) (op : Op) (cause : Why)
    → Steps disk s p op (TaskProgress.Sleeping cause) t → sleep_cause s p ≡ Some cause

-- and where there is this cause, it does wait
abbrev pub WaitsWithCause : {D N : Type 0} → Ghosts D N → Type 0
WaitsWithCause {D} disk = (s t : StoreState D) (p : ℕ) (op : Op) (r : TaskProgress) (cause : Why)
    → sleep_cause s p ≡ Some cause → Steps disk s p op r t → r ≡ TaskProgress.Sleeping cause
