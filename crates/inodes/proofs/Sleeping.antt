-- A step whose task has a cause to wait does wait: what it asks for are a buffer or an inode's lock,
-- and these answer by the cause alone.
use Rattle.std.proofs.Common.{◌≡◌, ℕ, Bool, List, sym, ◌∙◌, ap, subst, Option, Some, None}
use Rattle.inodes.specs.Common.{AllocAt, Allocs, AllocState, block_next, block_of, block_of_alloc, Buffers, BuffersAfter, bytes_of, cause_of_get, cause_to_get, copy_at, current_of, Dinode, DiskFault, EntryState, FailsToFill, Freeing, FreesOn, Get, get_answer, get_answer_by, GetsFor, Ghosts, Goes, GoesFrom, Got, holder_at, inode_block, LockAt, Locks, LockState, LockSteps, LooksUp, MapAt, MapState, MapSteps, now_of, one_more, OnFault, Progress, progress_of, progress_of_lock, progress_of_read, progress_of_search, progress_of_trunc, progress_of_write, ReadState, SearchState, Shown, shown_of, slot_in, slot_kept, slot_of_alloc, Stage, TableState, TakesOne, Target, task, TaskProgress, UnlessFault, Updates, UpdateState, VolumeState, Why, Works, WriteAt, WriteState, WriteSteps, progress_of_setting}
use Rattle.model.specs.Layout.{inode_of}
use Rattle.bcache.specs.declared.types.Acquired.{Acquired}
use Rattle.wal.specs.Get as get
use Rattle.inodes.specs.Lemmas.Freeing.{IsDone, use_done}
use Rattle.inodes.specs.Waiting.{WaitsWithCause, cause_at, cause_of_holder, cause_to_lock, unless_got, wanted_by_alloc, wanted_by_write, wanted_on_way}

asleep : (a : Get) (cause : Why) → cause_of_get a ≡ Some cause → a ≡ get.Sleeping cause
asleep (get.Got i) cause e = absurd (cc e)
asleep (get.Sleeping other) cause e = cc e
asleep (get.Fault fault) cause e = absurd (cc e)

module _ {D N : Type 0} (disk : Ghosts D N) (v w : VolumeState D) (p : ℕ) (cause : Why) where
  -- who gets this block next, if any, has the cause to wait
  abbrev HasCause : Option ℕ → Type 0
  HasCause o = cause_to_get v.buffers o ≡ Some cause

  -- a block whose read fails was there to be got
  fails : {d : Buffers} {b : ℕ} {fault : DiskFault} → FailsToFill v.buffers d p b fault → HasCause (Some b) → ⊥
  fails failed e =
      let unlike : None ≡ Some cause = ap (λ (a : Acquired). cause_of_get (get_answer_by a)) (sym failed.answer) ∙ e in cc unlike

  gets : {T : Type 0} {b : ℕ} {r : Progress T} {s : Option ℕ} → HasCause (Some b) → GetsFor disk v p b r s w → r ≡ Progress.Sleeping cause
  gets {T} {b} {r} {s} e g = by g.answer g.gives g.gets.answer g.gets.failed
    where
      by : (a : Get) → r ≡ progress_of a → UnlessFault a (a ≡ get_answer v.buffers b) → OnFault a (FailsToFill v.buffers w.buffers p b) → r ≡ Progress.Sleeping cause
      by (get.Got i) is answer failed = is ∙ ap progress_of (asleep (get.Got i) cause (ap cause_of_get answer ∙ e))
      by (get.Sleeping other) is answer failed = is ∙ ap progress_of (asleep (get.Sleeping other) cause (ap cause_of_get answer ∙ e))
      by (get.Fault fault) is answer failed = absurd (fails failed e)

  -- ---- machines that get one block

  searches : (m : SearchState) (o : Option ℕ) (r : Progress (Option ℕ)) (n : ℕ) (next : Stage) (x y : Shown) → HasCause (unless_got o m.block) →
      GoesFrom o n p m v.buffers (progress_of_search r) next x y → BuffersAfter disk.image o m v p r w.buffers → progress_of_search r ≡ TaskProgress.Sleeping cause
  searches m (Some i) r n next x y e goes after = absurd (cc e)
  searches m None Progress.Moved n next x y e goes after = let unlike = sym goes.0.1 ∙ asleep (get_answer v.buffers m.block) cause e in absurd (cc unlike)
  searches m None (Progress.Sleeping other) n next x y e goes after = let same = sym goes.0.0 ∙ asleep (get_answer v.buffers m.block) cause e in cc same
  searches m None (Progress.Over found) n next x y e goes after = absurd goes.0
  searches m None (Progress.Fault fault) n next x y e goes after = absurd (fails after e)

  updates : (u n : UpdateState) (d : Dinode) (o : Option ℕ) (r : Progress (Unit {0})) → HasCause (unless_got o (inode_block u.number)) → Updates disk o v p u d r n w → r ≡ Progress.Sleeping cause
  updates u n d None r e does = gets e does.1
  updates u n d (Some i) r e does = absurd (cc e)

  looks : (m n : EntryState) (o : Option ℕ) (r : Progress (Option ℕ)) → HasCause (unless_got o m.node.block) → LooksUp disk o v p m r n w → r ≡ Progress.Sleeping cause
  looks m n None r e does = gets e does.1
  looks m n (Some i) r e does = absurd (cc e)

  allocs : (t n : AllocState) (a : AllocAt) (r : Progress (Option ℕ)) → HasCause (unless_got (slot_of_alloc a) (block_of_alloc t a)) → Allocs disk a v p t r n w → r ≡ Progress.Sleeping cause
  allocs t n (AllocAt.Looking None) r e does = gets e does.2
  allocs t n (AllocAt.Looking (Some i)) r e does = absurd (cc e)
  allocs t n (AllocAt.Zeroing b None) r e does = gets e does.2
  allocs t n (AllocAt.Zeroing b (Some i)) r e does = absurd (cc e)

  -- ---- and those that they are part of

  reads : (m n : ReadState) (t : Target) (r : Progress (Unit {0})) → HasCause (unless_got (slot_in t) (block_of t)) → Works disk t v p m r w n → r ≡ Progress.Sleeping cause
  reads m n (Target.Entry entry) r e does = does.1.gives ∙ ap one_more (looks entry does.1.entry entry.slot does.1.answer e does.1.looks)
  reads m n (Target.Block b None) r e does = gets e does.1.2
  reads m n (Target.Block b (Some i)) r e does = absurd (cc e)

  frees : (m n : Freeing) (o : Option Got) (r : Progress (Unit {0})) → HasCause (unless_got (slot_kept o) (block_next m)) → FreesOn disk o v p m r n w → r ≡ Progress.Sleeping cause
  frees m n None r e does = gets e does.gets
  frees m n (Some g) r e does = absurd (cc e)

  takes_one : {m : MapState} {t : AllocState} {after : Progress (Option ℕ) → Progress (Option ℕ)} {at : Progress (Option ℕ) → AllocState → MapAt} {named : Progress (Option ℕ) → Dinode}
      {r : Progress (Option ℕ)} {n : MapState} {d : Dinode} → HasCause (wanted_by_alloc t) → TakesOne disk v p m t after at named r n d w → r ≡ after (Progress.Sleeping cause)
  takes_one {m} {t} {after} e does = does.gives ∙ ap after (allocs t does.now t.at does.answer e does.allocs)

  maps : (m n : MapState) (d f : Dinode) (a : MapAt) (r : Progress (Option ℕ)) → HasCause (wanted_on_way a) → MapSteps disk a v p m d r n f w → r ≡ Progress.Sleeping cause
  maps m n d f (MapAt.Address t) r e does = takes_one e does
  maps m n d f (MapAt.Entry k None) r e does = gets e does.1
  maps m n d f (MapAt.Entry k (Some i)) r e does = absurd (cc e)
  maps m n d f (MapAt.Behind k i t) r e does = takes_one e does
  maps m n d f (MapAt.Setting k i found) r e does = absurd (cc e)

  writes : (m n : WriteState) (a : WriteAt) (bytes : List ℕ) (r : Progress (Unit {0})) → HasCause (wanted_by_write a) → WriteSteps disk a v p m bytes r n w → r ≡ Progress.Sleeping cause
  writes m n (WriteAt.Mapping way) bytes r e does = does.gives ∙ ap one_more (maps way does.now m.inode does.inode way.at does.answer e does.steps)
  writes m n (WriteAt.Block b None) bytes r e does = gets e does.1
  writes m n (WriteAt.Block b (Some i)) bytes r e does = absurd (cc e)
  writes m n (WriteAt.Updating u) bytes r e does = updates u does.0 m.inode u.slot r e does.1

  -- who has the inode's lock is waited for
  held : (o : Option ℕ) (copy : Option Dinode) (t u : TableState) (k : ℕ) (m n : LockState) (r : Progress Bool) → cause_of_holder o ≡ Some cause → Locks o copy t p k m r u n → r ≡ Progress.Sleeping cause
  held None copy t u k m n r e does = absurd (cc e)
  held (Some q) copy t u k m n r e does = let why = does.0 in cc (why, e)

  locks : (t u : TableState) (m n : LockState) (a : LockAt) (r : Progress Bool) → cause_to_lock v.buffers t a m.number ≡ Some cause → LockSteps disk a t v p m r u w n → r ≡ Progress.Sleeping cause
  locks t u m n LockAt.Reference r e does = absurd (cc e)
  locks t u m n (LockAt.Lock k) r e does = held (holder_at t.places k) (copy_at t.places k) t u k m n r e does.0
  locks t u m n (LockAt.Read k None) r e does = gets e does.0.1
  locks t u m n (LockAt.Read k (Some i)) r e does = absurd (cc e)

-- who frees a file's blocks and has to wait has the cause to get the next one
gets_asleep : {D N T : Type 0} (disk : Ghosts D N) (v w : VolumeState D) (p b : ℕ) (cause : Why) (slot : Option ℕ) → GetsFor {T = T} disk v p b (Progress.Sleeping cause) slot w → cause_to_get v.buffers (Some b) ≡ Some cause
gets_asleep {T = T} disk v w p b cause slot g = by g.answer g.gives g.gets.answer
  where
    by : (a : Get) → Progress.Sleeping cause ≡ progress_of {T = T} a → UnlessFault a (a ≡ get_answer v.buffers b) → cause_to_get v.buffers (Some b) ≡ Some cause
    by (get.Got i) is answer = absurd (cc is)
    by (get.Sleeping other) is answer = let same : cause ≡ other = cc is in ap cause_of_get (sym answer) ∙ ap Some (sym same)
    by (get.Fault fault) is answer = absurd (cc is)

pub trunc_asleep : {D N : Type 0} (disk : Ghosts D N) (v w : VolumeState D) (p : ℕ) (cause : Why) (m n : Freeing) (o : Option Got) → FreesOn disk o v p m (Progress.Sleeping cause) n w → cause_to_get v.buffers (unless_got (slot_kept o) (block_next m)) ≡ Some cause
trunc_asleep disk v w p cause m n None does = gets_asleep disk v w p (block_next m) cause does.slot does.gets
trunc_asleep disk v w p cause m n (Some g) does = absurd (subst IsDone (sym does.answer) (use_done m.machine.at))

pub waits_with_cause : {D N : Type 0} (disk : Ghosts D N) → WaitsWithCause disk
waits_with_cause {D} {N} disk s t p op r cause waits steps = by (task s.tasks p).stage waits steps.goes
  where
    by : (a : Stage) → cause_at s.volume.buffers s.table a ≡ Some cause → Goes disk a s p op r t → r ≡ TaskProgress.Sleeping cause
    by Stage.Nowhere e goes = absurd (cc e)
    by (Stage.Creating m) e goes =
        let search = goes.2 in
        let from = subst (λ (o : TaskProgress). GoesFrom m.slot s.table.inode_count p m s.volume.buffers o (task t.tasks p).stage (shown_of disk.image s.volume) (shown_of disk.image t.volume)) search.gives goes.0 in
        search.gives ∙ searches disk s.volume t.volume p cause m m.slot search.answer s.table.inode_count (task t.tasks p).stage (shown_of disk.image s.volume) (shown_of disk.image t.volume) e from search.buffers
    by (Stage.Taking m) e goes =
        let take = goes.0 in
        take.gives ∙ ap (progress_of_lock s.table.form (inode_of (current_of disk.image s.volume) m.number) op) (locks disk s.volume t.volume p cause s.table t.table m take.now m.at take.answer e take.locks)
    by (Stage.Reading k m) e goes = let read = goes.0 in read.gives ∙ ap progress_of_read (reads disk s.volume t.volume p cause m read.now m.target read.answer e read.reads.works)
    by (Stage.Delivering k) e goes = absurd (cc e)
    by (Stage.Truncating k m) e goes = goes.gives ∙ ap progress_of_trunc (frees disk s.volume t.volume p cause m goes.now (now_of m) goes.answer e goes.steps)
    by (Stage.Writing k m) e goes = goes.gives ∙ ap (progress_of_write m.done) (writes disk s.volume t.volume p cause m goes.now m.at (bytes_of op) goes.answer e goes.writes)
    by (Stage.Setting k d u) e goes = goes.gives ∙ ap progress_of_setting (updates disk s.volume t.volume p cause u goes.now d u.slot goes.answer e goes.updates)
    by (Stage.Leaving k) e goes = absurd (cc e)
