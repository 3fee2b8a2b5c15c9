-- Where a step of a task goes, and what it makes of table, current image and log.
use Rattle.std.specs.Prelude.{◌≡◌, ℕ, ◌-◌, Bool, Option, Some, None, Result, Ok, Err}
use Rattle.blocks.specs.Disk.{Image, block_at}
use Rattle.blocks.specs.declared.disk.Disk.{Ghosts}
use Rattle.model.specs.declared.types.image.Dinode.{Dinode}
use Rattle.model.specs.declared.types.image.Form.{Form}
use Rattle.model.specs.declared.types.operations.Op.{Op}
use Rattle.model.specs.declared.types.operations.Reply.{Reply}
use Rattle.model.specs.declared.types.operations.Reply.TheVariants.{Made, NoInode, Wrote, Bytes, Done, StatOf, NoFile, BadOffset, TooBig, TooLong, BadType}
use Rattle.model.specs.declared.types.operations.TaskProgress.{TaskProgress}
use Rattle.model.specs.Codec.{new_inode, with_inode}
use Rattle.model.specs.Gathered.{GatheredBytes}
use Rattle.model.specs.Layout.{inode_block, inode_of, HasNoFreeInode}
use Rattle.bcache.specs.Buffers.{Buffers}
use Rattle.wal.specs.Machine.{LogState, noted}
use Rattle.wal.specs.Volume.{VolumeState, get_answer}
use Rattle.wal.specs.Get as get
use Rattle.model.specs.declared.types.progress.Progress.{Progress}
use Rattle.inodes.specs.declared.freeing.Freeing.{Freeing}
use Rattle.inodes.specs.declared.tasks.Stage.{Stage}
use Rattle.inodes.specs.Freeing.{FreesOn, now_of}
use Rattle.inodes.specs.Creation.{lowest_free}
use Rattle.inodes.specs.Ialloc.{SearchState, BuffersAfter, at_slot, at_next_block}
use Rattle.inodes.specs.Ilock.{LockSteps}
use Rattle.inodes.specs.Itrunc.{inode_left}
use Rattle.inodes.specs.Iupdate.{UpdateState, Updates}
use Rattle.inodes.specs.LockState.{LockState, place_of}
use Rattle.inodes.specs.Readi.{ReadState, ReadSteps}
use Rattle.inodes.specs.Store.{StoreState, current_of, reply_of}
use Rattle.inodes.specs.Table.{TableState, left, renewed}
use Rattle.inodes.specs.Tasks.{task}
use Rattle.inodes.specs.Turning.{if_used, reply_when_taken, stage_when_taken}
use Rattle.inodes.specs.Writei.{WriteState, WriteSteps}
use Rattle.inodes.specs.Writing.{extent_of}
use Rattle.inodes.specs.Growing.{bytes_of}
use Rattle.inodes.specs.declared.writei.Extent.{Extent}

-- what a step may change beside buffers and tasks: the current image and the log
pub record Shown : Type 0 where
  pub current : Image
  pub log : LogState

abbrev pub shown_of : {D : Type 0} → (D → Image) → VolumeState D → Shown
shown_of image v = record { current = current_of image v; log = v.log }

-- the lowest number that is free in the block that a search looks at
abbrev pub free_at : Image → ℕ → SearchState → Option ℕ
free_at cur n m = lowest_free (block_at cur m.block) n m.block

-- process p's creation writes a new inode at number i, and logs its block
abbrev pub with_claimed : Shown → ℕ → SearchState → ℕ → Shown
with_claimed v p m i = record {
  current = with_inode v.current i (new_inode m.kind);
  log = noted v.log p m.block;
}

-- a look claims number i, which is the lowest that is free, and changes nothing else
pub record Claims (n p : ℕ) (m : SearchState) (i : ℕ) (before now : Shown) : Type 0 where
  pub lowest : free_at before.current n m ≡ Some i
  pub place : inode_block i ≡ m.block
  pub free : (inode_of before.current i).kind ≡ 0
  pub inode : inode_of now.current i ≡ new_inode m.kind
  pub shown : now ≡ with_claimed before p m i

-- a look finds none, and changes nothing
pub record FindsNone (n : ℕ) (m : SearchState) (before now : Shown) : Type 0 where
  pub none : free_at before.current n m ≡ None
  pub full : HasNoFreeInode now.current m.block
  pub shown : now ≡ before

-- The reply at the turn of a creation that looks at a block: the number that it claims, or that
-- none is free in the block, which is the last one.
abbrev pub IsTurn : ℕ → ℕ → SearchState → Option Reply → Shown → Shown → Type 0
IsTurn n p m None before now = ⊥
IsTurn n p m (Some (Made i)) before now = Claims n p m i before now
IsTurn n p m (Some NoInode) before now = (m.block ≡ inode_block (n - 1)) × FindsNone n m before now
IsTurn n p m (Some (Wrote k)) before now = ⊥
IsTurn n p m (Some (Bytes bytes)) before now = ⊥
IsTurn n p m (Some Done) before now = ⊥
IsTurn n p m (Some (StatOf kind links size)) before now = ⊥
IsTurn n p m (Some NoFile) before now = ⊥
IsTurn n p m (Some BadOffset) before now = ⊥
IsTurn n p m (Some TooBig) before now = ⊥
IsTurn n p m (Some TooLong) before now = ⊥
IsTurn n p m (Some BadType) before now = ⊥

-- the step that gets the block that a search looks at, by what the buffers say to that
abbrev pub GetsBlock : Buffers → SearchState → TaskProgress → Stage → Type 0
GetsBlock c m TaskProgress.Moved next =
    (i : ℕ) × (get_answer c m.block ≡ get.Got i) × (next ≡ Stage.Creating (at_slot m i))
GetsBlock c m (TaskProgress.Turned reply) next = ⊥
GetsBlock c m (TaskProgress.Decided reply) next = ⊥
GetsBlock c m TaskProgress.Over next = ⊥
GetsBlock c m (TaskProgress.Sleeping why) next =
    (get_answer c m.block ≡ get.Sleeping why) × (next ≡ Stage.Creating m)
GetsBlock c m (TaskProgress.Fault fault) next = (fault.0 ≡ m.block) × (next ≡ Stage.Creating m)

-- the step that looks at it
abbrev pub LooksAtBlock : ℕ → ℕ → SearchState → TaskProgress → Stage → Shown → Shown → Type 0
LooksAtBlock n p m TaskProgress.Moved next before now =
    (next ≡ Stage.Creating (at_next_block m)) × FindsNone n m before now
LooksAtBlock n p m (TaskProgress.Turned reply) next before now =
    (next ≡ Stage.Nowhere) × IsTurn n p m reply before now
LooksAtBlock n p m (TaskProgress.Decided reply) next before now = ⊥
LooksAtBlock n p m TaskProgress.Over next before now = ⊥
LooksAtBlock n p m (TaskProgress.Sleeping why) next before now = ⊥
LooksAtBlock n p m (TaskProgress.Fault fault) next before now = ⊥

-- a search gets its block without a change to image or log; and where it got it, looks at it
abbrev pub GoesFrom : Option ℕ → ℕ → ℕ → SearchState → Buffers → TaskProgress → Stage
    → Shown → Shown → Type 0
GoesFrom None n p m c r next before now = GetsBlock c m r next × (now ≡ before)
GoesFrom (Some i) n p m c r next before now = LooksAtBlock n p m r next before now

-- what came of a machine's last step; else what its step is to the task
abbrev pub over : {T : Type 0} → Progress T → Result T TaskProgress
over Progress.Moved = Err TaskProgress.Moved
over (Progress.Sleeping why) = Err (TaskProgress.Sleeping why)
over (Progress.Over out) = Ok out
over (Progress.Fault fault) = Err (TaskProgress.Fault fault)

-- what its step is to the task, by what its last step is
abbrev pub progress_by : {T : Type 0} → (T → TaskProgress) → Progress T → TaskProgress
progress_by last Progress.Moved = TaskProgress.Moved
progress_by last (Progress.Sleeping why) = TaskProgress.Sleeping why
progress_by last (Progress.Over out) = last out
progress_by last (Progress.Fault fault) = TaskProgress.Fault fault

-- where the task stands then: with the machine as it was, as it is, or where its last step leads
abbrev pub stage_by : {T : Type 0} → Stage → Stage → (T → Stage) → Progress T → Stage
stage_by was now last Progress.Moved = now
stage_by was now last (Progress.Sleeping why) = was
stage_by was now last (Progress.Over out) = last out
stage_by was now last (Progress.Fault fault) = was

-- and the table, which only its last step changes
abbrev pub table_by : {T : Type 0} → TableState → (T → TableState) → Progress T → TableState
table_by t last Progress.Moved = t
table_by t last (Progress.Sleeping why) = t
table_by t last (Progress.Over out) = last out
table_by t last (Progress.Fault fault) = t

-- what a step of a search is to the task
abbrev pub progress_of_search : Progress (Option ℕ) → TaskProgress
progress_of_search r = progress_by (λ found. TaskProgress.Turned (Some (reply_of found))) r

-- what a step of a search makes of the buffers
pub record SearchesIn {D N : Type 0} (disk : Ghosts D N) (v : VolumeState D) (p : ℕ)
    (m : SearchState) (r : TaskProgress) (w : VolumeState D) : Type 0 where
  pub answer : Progress (Option ℕ)
  pub gives : r ≡ progress_of_search answer
  pub buffers : BuffersAfter disk.image m.slot m v p answer w.buffers

-- what a step of taking an inode is to the task, where the current image, of that form, has this
-- inode
abbrev pub progress_of_lock : Form → Dinode → Op → Progress Bool → TaskProgress
progress_of_lock form d op r =
    progress_by (λ used. TaskProgress.Turned (reply_when_taken form (if_used used d) op)) r

-- and where the task stands then
abbrev pub stage_of_lock : Extent → Dinode → Op → LockState → LockState → Progress Bool → Stage
stage_of_lock e d op m n r = stage_by (Stage.Taking m) (Stage.Taking n)
    (λ used. stage_when_taken e (if_used used d) (place_of n.at) op) r

-- A step that takes the inode of an operation: with the last one it has its turn, and knows the
-- inode that the current image has.
pub record TakesInode {D N : Type 0} (disk : Ghosts D N) (s : StoreState D) (p : ℕ) (op : Op)
    (m : LockState) (r : TaskProgress) (t : StoreState D) : Type 0 where
  pub answer : Progress Bool
  pub now : LockState
  pub locks : LockSteps disk m.at s.table s.volume p m answer t.table t.volume now
  pub gives : r
      ≡ progress_of_lock s.table.form (inode_of (current_of disk.image s.volume) m.number) op answer
  pub next : (task t.tasks p).stage
      ≡ stage_of_lock (extent_of s.table.form s.table.inode_count s.volume.log.size)
      (inode_of (current_of disk.image s.volume) m.number) op m now answer
  pub bytes : (task t.tasks p).gathered ≡ (task s.tasks p).gathered

-- what a step of a reading is to the task
abbrev pub progress_of_read : Progress (Unit {0}) → TaskProgress
progress_of_read r = progress_by (λ out. TaskProgress.Moved) r

-- and where the task stands then
abbrev pub stage_of_reading : ℕ → ReadState → ReadState → Progress (Unit {0}) → Stage
stage_of_reading k m n r =
    stage_by (Stage.Reading k m) (Stage.Reading k n) (λ out. Stage.Delivering k) r

-- a step of a reading, whose inode stands at place k of the table
pub record ReadsOn {D N : Type 0} (disk : Ghosts D N) (s : StoreState D) (p k : ℕ) (m : ReadState)
    (r : TaskProgress) (t : StoreState D) : Type 0 where
  pub answer : Progress (Unit {0})
  pub now : ReadState
  pub before : GatheredBytes
  pub bytes : GatheredBytes
  pub had : (task s.tasks p).gathered ≡ Some before
  pub reads : ReadSteps disk s.volume p m before answer t.volume now bytes
  pub gives : r ≡ progress_of_read answer
  pub next : (task t.tasks p).stage ≡ stage_of_reading k m now answer
  pub has : (task t.tasks p).gathered ≡ Some bytes
  pub table : t.table ≡ s.table

-- what a step of freeing a file's blocks is to the task
abbrev pub progress_of_trunc : Progress (Unit {0}) → TaskProgress
progress_of_trunc r = progress_by (λ out. TaskProgress.Moved) r

-- where the task stands then
abbrev pub stage_of_trunc : ℕ → Freeing → Freeing → Progress (Unit {0}) → Stage
stage_of_trunc k m n r =
    stage_by (Stage.Truncating k m) (Stage.Truncating k n) (λ out. Stage.Leaving k) r

-- and the table: with the last step the inode is read no more from it, or is what was written
abbrev pub table_of_trunc : TableState → ℕ → Freeing → Progress (Unit {0}) → TableState
table_of_trunc t k m r = table_by t (λ out. renewed t k (inode_left m.machine)) r

-- a step of freeing a file's blocks, whose inode stands at place k of the table
pub record Truncates {D N : Type 0} (disk : Ghosts D N) (s : StoreState D) (p k : ℕ)
    (m : Freeing) (r : TaskProgress) (t : StoreState D) : Type 0 where
  pub answer : Progress (Unit {0})
  pub now : Freeing
  pub steps : FreesOn disk (now_of m) s.volume p m answer now t.volume
  pub gives : r ≡ progress_of_trunc answer
  pub next : (task t.tasks p).stage ≡ stage_of_trunc k m now answer
  pub table : t.table ≡ table_of_trunc s.table k m answer
  pub bytes : (task t.tasks p).gathered ≡ (task s.tasks p).gathered

-- what a step of writing a file's bytes is to the task: with the last one so many were written
abbrev pub progress_of_write : ℕ → Progress (Unit {0}) → TaskProgress
progress_of_write done r = progress_by (λ out. TaskProgress.Decided (Wrote done)) r

-- where the task stands then
abbrev pub stage_of_writing : ℕ → WriteState → WriteState → Progress (Unit {0}) → Stage
stage_of_writing k m n r =
    stage_by (Stage.Writing k m) (Stage.Writing k n) (λ out. Stage.Leaving k) r

-- and the table: with the last step it has the inode that was written
abbrev pub table_of_writing : TableState → ℕ → WriteState → Progress (Unit {0}) → TableState
table_of_writing t k m r = table_by t (λ out. renewed t k (Some m.inode)) r

-- a step of writing the operation's bytes into a file, whose inode stands at place k of the table
pub record WritesOn {D N : Type 0} (disk : Ghosts D N) (s : StoreState D) (p k : ℕ) (op : Op)
    (m : WriteState) (r : TaskProgress) (t : StoreState D) : Type 0 where
  pub answer : Progress (Unit {0})
  pub now : WriteState
  pub writes : WriteSteps disk m.at s.volume p m (bytes_of op) answer now t.volume
  pub gives : r ≡ progress_of_write m.done answer
  pub next : (task t.tasks p).stage ≡ stage_of_writing k m now answer
  pub table : t.table ≡ table_of_writing s.table k m answer
  pub bytes : (task t.tasks p).gathered ≡ (task s.tasks p).gathered

-- what a step of writing an inode back is to the task, which has its reply
abbrev pub progress_of_setting : Progress (Unit {0}) → TaskProgress
progress_of_setting r = progress_by (λ out. TaskProgress.Moved) r

-- where the task stands then
abbrev pub stage_of_setting : ℕ → Dinode → UpdateState → UpdateState → Progress (Unit {0}) → Stage
stage_of_setting k d u v r =
    stage_by (Stage.Setting k d u) (Stage.Setting k d v) (λ out. Stage.Leaving k) r

-- and the table: with the last step it has the inode that was written
abbrev pub table_of_setting : TableState → ℕ → Dinode → Progress (Unit {0}) → TableState
table_of_setting t k d r = table_by t (λ out. renewed t k (Some d)) r

-- a step of writing back an inode with an attribute set, which stands at place k of the table
pub record SetsOn {D N : Type 0} (disk : Ghosts D N) (s : StoreState D) (p k : ℕ) (d : Dinode)
    (u : UpdateState) (r : TaskProgress) (t : StoreState D) : Type 0 where
  pub answer : Progress (Unit {0})
  pub now : UpdateState
  pub updates : Updates disk u.slot s.volume p u d answer now t.volume
  pub gives : r ≡ progress_of_setting answer
  pub next : (task t.tasks p).stage ≡ stage_of_setting k d u now answer
  pub table : t.table ≡ table_of_setting s.table k d answer
  pub bytes : (task t.tasks p).gathered ≡ (task s.tasks p).gathered

-- the task gives up the inode at place k, and is over, without bytes
pub record GivesUp {D : Type 0} (s : StoreState D) (p k : ℕ) (t : StoreState D) : Type 0 where
  pub next : (task t.tasks p).stage ≡ Stage.Nowhere
  pub gathered : (task t.tasks p).gathered ≡ None
  pub table : t.table ≡ left s.table k
  pub volume : t.volume ≡ s.volume

-- a reading gives out its bytes
pub record Delivers {D : Type 0} (s : StoreState D) (p k : ℕ) (r : TaskProgress) (t : StoreState D)
    : Type 0 where
  pub bytes : GatheredBytes
  pub had : (task s.tasks p).gathered ≡ Some bytes
  pub gives : r ≡ TaskProgress.Decided (Bytes bytes.bytes)
  pub up : GivesUp s p k t

-- image and log stay as they are
abbrev pub ShowsSame : {D : Type 0} → (D → Image) → StoreState D → StoreState D → Type 0
ShowsSame image s t = shown_of image t.volume ≡ shown_of image s.volume

-- where a step of process p's task goes by where it stood, and what it makes of table, buffers,
-- image and log
abbrev pub Goes : {D N : Type 0} → Ghosts D N → Stage → StoreState D → ℕ → Op → TaskProgress
    → StoreState D → Type 0
Goes disk Stage.Nowhere s p op r t = (r ≡ TaskProgress.Over) × (t ≡ s)
Goes disk (Stage.Creating m) s p op r t =
    GoesFrom m.slot s.table.inode_count p m s.volume.buffers r (task t.tasks p).stage
    (shown_of disk.image s.volume) (shown_of disk.image t.volume)
    × (t.table ≡ s.table) × SearchesIn disk s.volume p m r t.volume
Goes disk (Stage.Taking m) s p op r t =
    TakesInode disk s p op m r t × ShowsSame disk.image s t
Goes disk (Stage.Reading k m) s p op r t = ReadsOn disk s p k m r t × ShowsSame disk.image s t
Goes disk (Stage.Delivering k) s p op r t = Delivers s p k r t
Goes disk (Stage.Truncating k m) s p op r t = Truncates disk s p k m r t
Goes disk (Stage.Writing k m) s p op r t = WritesOn disk s p k op m r t
Goes disk (Stage.Setting k d u) s p op r t = SetsOn disk s p k d u r t
Goes disk (Stage.Leaving k) s p op r t = (r ≡ TaskProgress.Over) × GivesUp s p k t
