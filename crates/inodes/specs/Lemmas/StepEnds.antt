-- How the steps of any task end.
use Rattle.std.proofs.Common.{◌≡◌, ◌≢◌, ◌⊎◌, ⊎_elim, inl, inr, ℕ, Bool, true, false, cond, eqb, ltb, ◌-◌, List, refl, sym, ◌∙◌, ap, subst, Option, Some, None, length}
use Rattle.model.specs.Layout.{inode_of}
use Rattle.std.specs.Prelude.{IsSome}
use Rattle.inodes.specs.Common.{address_at, after_address, after_behind, AllocAt, Allocs, AllocState, behind_at, block_at_stage, block_next, block_of, block_of_alloc, block_of_write, block_on_way, Branch, Bytes, bytes_of, CanBegin, CanTake, come_to, copy_at, Create, current_of, Dinode, DiskFault, EntryState, Extent, extent_of, false≢true, FindsEntry, first_read, first_write, Freeing, FreesOn, gets_fails, Ghosts, Goes, GoesFrom, Got, holder_at, inode_block, is_over, is_unturned, LockAt, Locks, LockState, LockSteps, LooksAt, LooksUp, lowest_in, MapAt, MapState, MapSteps, named_by, naming, now_of, one_more, Op, owes_reply, place_of, stage_of_lock, stage_of_reading, stage_of_trunc, stage_of_writing, Progress, progress_of_lock, progress_of_read, progress_of_trunc, progress_of_write, Read, ReadState, Remove, Reply, seen, Shown, shown_of, some_address, Stage, Stands, Stat, StoreState, TableState, TakesLowest, TakesOne, Target, task, TaskProgress, Trunc, Updates, UpdateState, used_by, VolumeState, Works, Write, WriteAt, WriteState, WriteSteps, Wrote, SetAttribute, progress_of_setting, stage_of_setting}
use Rattle.in_flight.specs.AttributeLaws.{with_value}
use Rattle.inodes.specs.Lemmas.Freeing.{IsDone, use_done}
use Rattle.inodes.specs.Turning.{stage_of_addition, write_refusal, if_used, reply_when_taken, stage_when_taken, stage_of_read, stage_by_refusal}
use Rattle.inodes.specs.Iupdate.{first_update}
use Rattle.inodes.specs.Looks.{IsWriteOp}
use Rattle.inodes.specs.Lemmas.Looks.{is_write_op}
use Rattle.model.specs.Operations.{extension_refusal}
use Rattle.model.specs.declared.types.operations.Attribute.TheVariants.{Links, Size}
use Rattle.model.specs.declared.types.operations.Reply.TheVariants.{Done}

-- the task goes on, and has had its turn or not as before
pub record GoesOn (a next : Stage) : Type 0 where
  pub unfinished : is_over next ≡ false
  pub unturned : is_unturned next ≡ is_unturned a
  pub reading : owes_reply next ≡ owes_reply a

-- it had its turn, reads nothing, and goes on
pub record GoesOnTurned (next : Stage) : Type 0 where
  pub unfinished : is_over next ≡ false
  pub turned : is_unturned next ≡ false
  pub unread : owes_reply next ≡ false

-- the operation is a reading
abbrev pub IsReadOp : Op → Type 0
IsReadOp op = (i : ℕ) × (off : ℕ) × (count : ℕ) × (op ≡ Read i off count)

-- With its turn a creation is over; an operation that takes an inode has its reply and goes on, or
-- it is a reading or a write, whose reply comes later.
abbrev pub TurnEnds : ℕ → Op → Option Reply → Stage → Type 0
TurnEnds n op None next =
    CanTake n op × (IsReadOp op ⊎ IsWriteOp op) × (owes_reply next ≡ true)
TurnEnds n op (Some reply) next =
    (CanBegin n op × (is_over next ≡ true)) ⊎ (CanTake n op × GoesOnTurned next)

-- a reading is over with its bytes, and a write goes on with the count of those that it wrote
abbrev pub DecisionEnds : Op → Reply → Stage → Type 0
DecisionEnds op reply next =
    (IsReadOp op × (is_over next ≡ true) × ((bytes : List ℕ) × (reply ≡ Bytes bytes)))
    ⊎ (IsWriteOp op × GoesOnTurned next × ((k : ℕ) × (reply ≡ Wrote k)))

-- by what the step answers
abbrev pub StepEnds : ℕ → Stage → Op → TaskProgress → Stage → Type 0
StepEnds n a op TaskProgress.Moved next = GoesOn a next
StepEnds n a op (TaskProgress.Turned reply) next = (is_unturned a ≡ true) × TurnEnds n op reply next
StepEnds n a op (TaskProgress.Decided reply) next =
    (owes_reply a ≡ true) × DecisionEnds op reply next
StepEnds n a op TaskProgress.Over next =
    (is_unturned a ≡ false) × (owes_reply a ≡ false) × (is_over next ≡ true)
StepEnds n a op (TaskProgress.Sleeping why) next = GoesOn a next
StepEnds n a op (TaskProgress.Fault fault) next = GoesOn a next

-- where it goes is known
on_at : (a b next : Stage) → next ≡ b → GoesOn a b → GoesOn a next
on_at a b next is on = subst (GoesOn a) (sym is) on

-- a search goes on
on_search : (a next : Stage) → is_unturned a ≡ true → owes_reply a ≡ false →
    is_over next ≡ false → is_unturned next ≡ true → owes_reply next ≡ false → GoesOn a next
on_search a next one other more still apart =
    record { unfinished = more; unturned = still ∙ sym one; reading = apart ∙ sym other }

-- an operation has taken its inode, or found it free
takes_turn : (n : ℕ) (e : Extent) (o : Option Dinode) (k : ℕ) (op : Op) → CanTake n op →
    TurnEnds n op (reply_when_taken e.form o op) (stage_when_taken e o k op)
takes_turn n e None k op can = inr (can, record { unfinished = refl; turned = refl; unread = refl })
takes_turn n e (Some d) k (Create kind) can = absurd can
takes_turn n e (Some d) k (Write i off bytes) can =
    by_refusal (write_refusal e.form d off (length bytes))
  where
    by_refusal : (o : Option Reply) →
        TurnEnds n (Write i off bytes) o (stage_by_refusal k (first_write i d off (length bytes) e) o)
    by_refusal None = (can, inr tt, refl)
    by_refusal (Some reply) =
        inr (can, record { unfinished = refl; turned = refl; unread = refl })
takes_turn n e (Some d) k (Read i off count) can =
    (can, inl (i, off, count, refl), by_bytes (first_read e.form d off count))
  where
    by_bytes : (o : Option ReadState) → owes_reply (stage_of_read k o) ≡ true
    by_bytes None = refl
    by_bytes (Some m) = refl
takes_turn n e (Some d) k (Trunc i) can =
    inr (can, record { unfinished = refl; turned = refl; unread = refl })
takes_turn n e (Some d) k (Remove i) can =
    inr (can, record { unfinished = refl; turned = refl; unread = refl })
takes_turn n e (Some d) k (Stat i) can =
    inr (can, record { unfinished = refl; turned = refl; unread = refl })
takes_turn n e (Some d) k (SetAttribute i (Links c)) can =
    inr (can, record { unfinished = refl; turned = refl; unread = refl })
takes_turn n e (Some d) k (SetAttribute i (Size c)) can = by_length (ltb d.size c)
  where
    by_refusal : (o : Option Reply) →
        TurnEnds n (SetAttribute i (Size c)) o (stage_by_refusal k (first_write i d d.size (c - d.size) e) o)
    by_refusal None = (can, inr tt, refl)
    by_refusal (Some reply) =
        inr (can, record { unfinished = refl; turned = refl; unread = refl })

    by_length : (b : Bool) → TurnEnds n (SetAttribute i (Size c)) (cond b (extension_refusal e.form d.size c) (Some Done))
        (cond b (stage_of_addition k i d c e) (Stage.Setting k (with_value d (Size c)) (first_update i)))
    by_length true = by_refusal (extension_refusal e.form d.size c)
    by_length false = inr (can, record { unfinished = refl; turned = refl; unread = refl })

module _ {D N : Type 0} (disk : Ghosts D N) (s : StoreState D) (p : ℕ) (op : Op) (r : TaskProgress) (t : StoreState D) where
  abbrev n : ℕ
  n = s.table.inode_count

  abbrev next : Stage
  next = (task t.tasks p).stage

  -- the end of the step, at the answer that it gives
  ends_with : (a : Stage) (q : TaskProgress) → r ≡ q → StepEnds n a op q next → StepEnds n a op r next
  ends_with a q is ends = subst (λ (o : TaskProgress). StepEnds n a op o next) (sym is) ends

  pub ends_of : (a : Stage) → (task s.tasks p).op ≡ Some op →
      Stands s.volume.buffers s.volume.log n p (task s.tasks p).op a →
      LooksAt (current_of disk.image s.volume) s.table (task s.tasks p) a → is_over a ≡ false →
      Goes disk a s p op r t → StepEnds n a op r next
  ends_of Stage.Nowhere same stands looks unfinished goes = absurd (false≢true (sym unfinished))
  ends_of (Stage.Creating m) same stands looks unfinished goes = by_slot m.slot r goes.0
    where
      begins : CanBegin n op
      begins = let is : Create m.kind ≡ op = (let both = sym stands.op ∙ same in cc both) in subst (CanBegin n) is stands.kind

      here : (b : Stage) → next ≡ b → is_over b ≡ false → is_unturned b ≡ true → owes_reply b ≡ false → GoesOn (Stage.Creating m) next
      here b is more still apart = on_at (Stage.Creating m) b next is (on_search (Stage.Creating m) b refl refl more still apart)

      by_slot : (o : Option ℕ) (q : TaskProgress) →
          GoesFrom o n p m s.volume.buffers q next (shown_of disk.image s.volume) (shown_of disk.image t.volume) →
          StepEnds n (Stage.Creating m) op q next
      by_slot None TaskProgress.Moved goes = here _ goes.0.2 refl refl refl
      by_slot None (TaskProgress.Turned reply) goes = absurd goes.0
      by_slot None (TaskProgress.Decided reply) goes = absurd goes.0
      by_slot None TaskProgress.Over goes = absurd goes.0
      by_slot None (TaskProgress.Sleeping why) goes = here _ goes.0.1 refl refl refl
      by_slot None (TaskProgress.Fault fault) goes = here _ goes.0.1 refl refl refl
      by_slot (Some i) TaskProgress.Moved goes = here _ goes.0 refl refl refl
      by_slot (Some i) (TaskProgress.Turned None) goes = absurd goes.1
      by_slot (Some i) (TaskProgress.Turned (Some reply)) goes = (refl, inl (begins, ap is_over goes.0))
      by_slot (Some i) (TaskProgress.Decided reply) goes = absurd goes
      by_slot (Some i) TaskProgress.Over goes = absurd goes
      by_slot (Some i) (TaskProgress.Sleeping why) goes = absurd goes
      by_slot (Some i) (TaskProgress.Fault fault) goes = absurd goes
  ends_of (Stage.Taking m) same stands looks unfinished goes = by_answer goes.0.answer goes.0.gives goes.0.next
    where
      d : Dinode
      d = inode_of (current_of disk.image s.volume) m.number

      can : CanTake n op
      can = let is : looks.op ≡ op = (let both = sym looks.is ∙ same in cc both) in subst (CanTake n) is looks.can

      by_answer : (x : Progress Bool) → r ≡ progress_of_lock s.table.form d op x → next ≡ stage_of_lock (extent_of s.table.form n s.volume.log.size) d op m goes.0.now x →
          StepEnds n (Stage.Taking m) op r next
      by_answer Progress.Moved is to = ends_with (Stage.Taking m) TaskProgress.Moved is (on_at (Stage.Taking m) _ next to (record { unfinished = refl; unturned = refl; reading = refl }))
      by_answer (Progress.Sleeping why) is to = ends_with (Stage.Taking m) (TaskProgress.Sleeping why) is (on_at (Stage.Taking m) _ next to (record { unfinished = refl; unturned = refl; reading = refl }))
      by_answer (Progress.Over used) is to = ends_with (Stage.Taking m) (TaskProgress.Turned (reply_when_taken s.table.form (if_used used d) op)) is
          (refl, subst (TurnEnds n op (reply_when_taken s.table.form (if_used used d) op)) (sym to) (takes_turn n (extent_of s.table.form n s.volume.log.size) (if_used used d) (place_of goes.0.now.at) op can))
      by_answer (Progress.Fault fault) is to = ends_with (Stage.Taking m) (TaskProgress.Fault fault) is (on_at (Stage.Taking m) _ next to (record { unfinished = refl; unturned = refl; reading = refl }))
  ends_of (Stage.Reading k m) same stands looks unfinished goes = by_answer goes.0.answer goes.0.gives goes.0.next
    where
      by_answer : (x : Progress (Unit {0})) → r ≡ progress_of_read x → next ≡ stage_of_reading k m goes.0.now x →
          StepEnds n (Stage.Reading k m) op r next
      by_answer Progress.Moved is to = ends_with (Stage.Reading k m) TaskProgress.Moved is (on_at (Stage.Reading k m) _ next to (record { unfinished = refl; unturned = refl; reading = refl }))
      by_answer (Progress.Sleeping why) is to = ends_with (Stage.Reading k m) (TaskProgress.Sleeping why) is (on_at (Stage.Reading k m) _ next to (record { unfinished = refl; unturned = refl; reading = refl }))
      by_answer (Progress.Over out) is to = ends_with (Stage.Reading k m) TaskProgress.Moved is (on_at (Stage.Reading k m) _ next to (record { unfinished = refl; unturned = refl; reading = refl }))
      by_answer (Progress.Fault fault) is to = ends_with (Stage.Reading k m) (TaskProgress.Fault fault) is (on_at (Stage.Reading k m) _ next to (record { unfinished = refl; unturned = refl; reading = refl }))
  ends_of (Stage.Delivering k) same stands looks unfinished goes =
      ends_with (Stage.Delivering k) (TaskProgress.Decided (Bytes goes.bytes.bytes)) goes.gives (
        refl,
        inl (
          (
            looks.op.number,
            looks.op.offset,
            looks.op.count,
            let both : Some op ≡ Some (Read looks.op.number looks.op.offset looks.op.count) = sym same ∙ looks.op.is in cc both,
          ),
          ap is_over goes.up.next,
          (goes.bytes.bytes, refl),
        ),
      )
  ends_of (Stage.Truncating k m) same stands looks unfinished goes = by_answer goes.answer goes.gives goes.next
    where
      by_answer : (x : Progress (Unit {0})) → r ≡ progress_of_trunc x → next ≡ stage_of_trunc k m goes.now x →
          StepEnds n (Stage.Truncating k m) op r next
      by_answer Progress.Moved is to = ends_with (Stage.Truncating k m) TaskProgress.Moved is (on_at (Stage.Truncating k m) _ next to (record { unfinished = refl; unturned = refl; reading = refl }))
      by_answer (Progress.Sleeping why) is to = ends_with (Stage.Truncating k m) (TaskProgress.Sleeping why) is (on_at (Stage.Truncating k m) _ next to (record { unfinished = refl; unturned = refl; reading = refl }))
      by_answer (Progress.Over out) is to = ends_with (Stage.Truncating k m) TaskProgress.Moved is (on_at (Stage.Truncating k m) _ next to (record { unfinished = refl; unturned = refl; reading = refl }))
      by_answer (Progress.Fault fault) is to = ends_with (Stage.Truncating k m) (TaskProgress.Fault fault) is (on_at (Stage.Truncating k m) _ next to (record { unfinished = refl; unturned = refl; reading = refl }))
  ends_of (Stage.Writing k m) same stands looks unfinished goes = by_answer goes.answer goes.gives goes.next
    where
      by_answer : (x : Progress (Unit {0})) → r ≡ progress_of_write m.done x → next ≡ stage_of_writing k m goes.now x →
          StepEnds n (Stage.Writing k m) op r next
      by_answer Progress.Moved is to = ends_with (Stage.Writing k m) TaskProgress.Moved is (on_at (Stage.Writing k m) _ next to (record { unfinished = refl; unturned = refl; reading = refl }))
      by_answer (Progress.Sleeping why) is to = ends_with (Stage.Writing k m) (TaskProgress.Sleeping why) is (on_at (Stage.Writing k m) _ next to (record { unfinished = refl; unturned = refl; reading = refl }))
      by_answer (Progress.Over out) is to = ends_with (Stage.Writing k m) (TaskProgress.Decided (Wrote m.done)) is (
        refl,
        inr (
          subst IsWriteOp (let both : Some looks.op ≡ Some op = sym looks.is ∙ same in cc both) (is_write_op looks.op m looks.writes),
          subst GoesOnTurned (sym to) (record { unfinished = refl; turned = refl; unread = refl }),
          (m.done, refl),
        ),
      )
      by_answer (Progress.Fault fault) is to = ends_with (Stage.Writing k m) (TaskProgress.Fault fault) is (on_at (Stage.Writing k m) _ next to (record { unfinished = refl; unturned = refl; reading = refl }))
  ends_of (Stage.Setting k d u) same stands looks unfinished goes = by_answer goes.answer goes.gives goes.next
    where
      by_answer : (x : Progress (Unit {0})) → r ≡ progress_of_setting x → next ≡ stage_of_setting k d u goes.now x →
          StepEnds n (Stage.Setting k d u) op r next
      by_answer Progress.Moved is to = ends_with (Stage.Setting k d u) TaskProgress.Moved is (on_at (Stage.Setting k d u) _ next to (record { unfinished = refl; unturned = refl; reading = refl }))
      by_answer (Progress.Sleeping why) is to = ends_with (Stage.Setting k d u) (TaskProgress.Sleeping why) is (on_at (Stage.Setting k d u) _ next to (record { unfinished = refl; unturned = refl; reading = refl }))
      by_answer (Progress.Over out) is to = ends_with (Stage.Setting k d u) TaskProgress.Moved is (on_at (Stage.Setting k d u) _ next to (record { unfinished = refl; unturned = refl; reading = refl }))
      by_answer (Progress.Fault fault) is to = ends_with (Stage.Setting k d u) (TaskProgress.Fault fault) is (on_at (Stage.Setting k d u) _ next to (record { unfinished = refl; unturned = refl; reading = refl }))
  ends_of (Stage.Leaving k) same stands looks unfinished goes =
      ends_with (Stage.Leaving k) TaskProgress.Over goes.0 (refl, refl, ap is_over goes.1.next)

  -- what changes blocks is open in the log; any other task leaves the log as it is
  pub logs_of : (a : Stage) → is_over a ≡ false → Stands s.volume.buffers s.volume.log n p (task s.tasks p).op a →
      Goes disk a s p op r t → IsSome (used_by s.volume.log p) ⊎ (t.volume.log ≡ s.volume.log)
  logs_of Stage.Nowhere unfinished stands goes = absurd (false≢true (sym unfinished))
  logs_of (Stage.Creating m) unfinished stands goes = inl (subst IsSome (sym stands.used) refl)
  logs_of (Stage.Taking m) unfinished stands goes = inr (ap (λ (o : Shown). o.log) goes.1)
  logs_of (Stage.Reading k m) unfinished stands goes = inr (ap (λ (o : Shown). o.log) goes.1)
  logs_of (Stage.Delivering k) unfinished stands goes = inr (ap (λ (v : VolumeState D). v.log) goes.up.volume)
  logs_of (Stage.Truncating k m) unfinished stands goes =
      inl (⊎_elim (λ (none : used_by s.volume.log p ≡ Some 0). subst IsSome (sym none) refl) (λ one. subst IsSome (sym one.0) refl) stands.logged)
  logs_of (Stage.Writing k m) unfinished stands goes = inl (subst IsSome (sym stands.logged.used) refl)
  logs_of (Stage.Setting k d u) unfinished stands goes = inl (subst IsSome (sym stands.used) refl)
  logs_of (Stage.Leaving k) unfinished stands goes = inr (ap (λ (v : VolumeState D). v.log) goes.1.volume)

module _ {D N : Type 0} (disk : Ghosts D N) (s : StoreState D) (p : ℕ) (op : Op) (fault : DiskFault) (t : StoreState D) where
  -- a machine that reads an entry
  entry_fails : (e : EntryState) (x : Progress (Option ℕ)) (e2 : EntryState) → LooksUp disk e.slot s.volume p e x e2 t.volume → Progress.Fault fault ≡ one_more x → fault.0 ≡ e.node.block
  entry_fails e x e2 looks is = by_slot e.slot x looks is
    where
      by_slot : (o : Option ℕ) (x : Progress (Option ℕ)) → LooksUp disk o s.volume p e x e2 t.volume → Progress.Fault fault ≡ one_more x → fault.0 ≡ e.node.block
      by_slot None Progress.Moved looks is = absurd (cc is)
      by_slot None (Progress.Sleeping why) looks is = absurd (cc is)
      by_slot None (Progress.Over found) looks is = absurd (cc is)
      by_slot None (Progress.Fault other) looks is = let same : fault ≡ other = cc is in ap (λ (f : DiskFault). f.0) same ∙ gets_fails disk s.volume p e.node.block other e2.slot t.volume looks.1
      by_slot (Some i) x looks is = absurd (⊎_elim (λ ends. let no = is ∙ ap one_more ends.over in cc no) (λ on. let no = is ∙ ap one_more on.moved in cc no) looks.0)

  reading_fails : (a : Target) (m x : ReadState) → Works disk a s.volume p m (Progress.Fault fault) t.volume x → fault.0 ≡ block_of a
  reading_fails (Target.Entry e) m x works = entry_fails e works.1.answer works.1.entry works.1.looks works.1.gives
  reading_fails (Target.Block b None) m x works = gets_fails disk s.volume p b fault works.1.0 t.volume works.1.2
  reading_fails (Target.Block b (Some i)) m x works = absurd works.1

  taking_fails : (a : LockAt) (m x : LockState) (u : TableState) → LockSteps disk a s.table s.volume p m (Progress.Fault fault) u t.volume x → fault.0 ≡ inode_block m.number
  taking_fails LockAt.Reference m x u locks = let no = locks.0.2 in absurd (cc no)
  taking_fails (LockAt.Lock k) m x u locks = by_holder (holder_at s.table.places k) (copy_at s.table.places k) locks.0
    where
      by_holder : (o : Option ℕ) (c : Option Dinode) → Locks o c s.table p k m (Progress.Fault fault) u x → fault.0 ≡ inode_block m.number
      by_holder (Some q) c is = let no = is.0 in absurd (cc no)
      by_holder None (Some d) is = let no = is.0 in absurd (cc no)
      by_holder None None is = let no = is.0 in absurd (cc no)
  taking_fails (LockAt.Read k None) m x u locks = gets_fails disk s.volume p (inode_block m.number) fault locks.0.0 t.volume locks.0.1
  taking_fails (LockAt.Read k (Some i)) m x u locks = let no = locks.0.answer in absurd (cc no)

  updates_fails : (o : Option ℕ) (u x : UpdateState) (d : Dinode) → Updates disk o s.volume p u d (Progress.Fault fault) x t.volume → fault.0 ≡ inode_block u.number
  updates_fails None u x d gets = gets_fails disk s.volume p (inode_block u.number) fault x.slot t.volume gets.1
  updates_fails (Some i) u x d writes = let no = writes.0 in absurd (cc no)

  -- a machine that takes a block
  allocs_fail : (a : AllocAt) (t2 x : AllocState) → Allocs disk a s.volume p t2 (Progress.Fault fault) x t.volume → fault.0 ≡ block_of_alloc t2 a
  allocs_fail (AllocAt.Looking None) t2 x allocs = gets_fails disk s.volume p t2.bitmap fault allocs.0 t.volume allocs.2
  allocs_fail (AllocAt.Looking (Some i)) t2 x allocs = by_lowest (lowest_in (seen (disk.image s.volume.device) s.volume.buffers) t2) allocs
    where
      by_lowest : (o : Option ℕ) → TakesLowest disk o s.volume p i t2 (Progress.Fault fault) x t.volume → fault.0 ≡ t2.bitmap
      by_lowest None takes = let no = takes.0 in absurd (cc no)
      by_lowest (Some b) takes = let no = takes.0 in absurd (cc no)
  allocs_fail (AllocAt.Zeroing b None) t2 x allocs = gets_fails disk s.volume p b fault allocs.0 t.volume allocs.2
  allocs_fail (AllocAt.Zeroing b (Some i)) t2 x allocs = let no = allocs.0 in absurd (cc no)

  takes_fail : (m n : MapState) (t2 : AllocState) (after : Progress (Option ℕ) → Progress (Option ℕ)) (a : Progress (Option ℕ) → AllocState → MapAt) (d : Progress (Option ℕ) → Dinode) (e : Dinode)
      → ((q : Progress (Option ℕ)) → after q ≡ Progress.Fault fault → q ≡ Progress.Fault fault) → TakesOne disk s.volume p m t2 after a d (Progress.Fault fault) n e t.volume → fault.0 ≡ block_of_alloc t2 t2.at
  takes_fail m n t2 after a d e only takes =
      allocs_fail t2.at t2 takes.now (subst (λ (q : Progress (Option ℕ)). Allocs disk t2.at s.volume p t2 q takes.now t.volume) (only takes.answer (sym takes.gives)) takes.allocs)

  -- a block that was come to is no fault
  come_fails : (depth b : ℕ) → come_to depth b ≢ Progress.Fault fault
  come_fails depth b = by_depth (eqb depth 0)
    where
      by_depth : (ends : Bool) → cond ends (Progress.Over (Some b)) Progress.Moved ≢ Progress.Fault fault
      by_depth true is = cc is
      by_depth false is = cc is

  address_fails : (b : Branch) (q : Progress (Option ℕ)) → after_address b q ≡ Progress.Fault fault → q ≡ Progress.Fault fault
  address_fails b Progress.Moved is = absurd (cc is)
  address_fails b (Progress.Sleeping why) is = absurd (cc is)
  address_fails b (Progress.Over None) is = absurd (cc is)
  address_fails b (Progress.Over (Some a)) is = absurd (come_fails b.depth a is)
  address_fails b (Progress.Fault other) is = is

  behind_fails : (q : Progress (Option ℕ)) → after_behind q ≡ Progress.Fault fault → q ≡ Progress.Fault fault
  behind_fails Progress.Moved is = absurd (cc is)
  behind_fails (Progress.Sleeping why) is = absurd (cc is)
  behind_fails (Progress.Over found) is = absurd (cc is)
  behind_fails (Progress.Fault other) is = is

  -- a machine that leads to a block
  way_fails : (a : MapAt) (m n : MapState) (d e : Dinode) → MapSteps disk a s.volume p m d (Progress.Fault fault) n e t.volume → fault.0 ≡ block_on_way a
  way_fails (MapAt.Address t2) m n d e maps = takes_fail m n t2 (after_address m.branch) (address_at m.branch) (naming d m.branch.index) e (address_fails m.branch) maps
  way_fails (MapAt.Entry k None) m n d e maps = gets_fails disk s.volume p k.block fault maps.0 t.volume maps.1
  way_fails (MapAt.Entry k (Some i)) m n d e maps = by_entry (some_address (named_by (seen (disk.image s.volume.device) s.volume.buffers) k)) maps.0
    where
      by_entry : (o : Option ℕ) → FindsEntry disk o s.volume p k i m (Progress.Fault fault) n t.volume → fault.0 ≡ k.block
      by_entry None finds = let no = finds.0 in absurd (cc no)
      by_entry (Some b) finds = absurd (come_fails k.level b (sym finds.0.0))
  way_fails (MapAt.Behind k i t2) m n d e maps = takes_fail m n t2 after_behind (behind_at k i) (λ answer. d) e behind_fails maps
  way_fails (MapAt.Setting k i None) m n d e maps = let no = maps.0.0 in absurd (cc no)
  way_fails (MapAt.Setting k i (Some b)) m n d e maps = absurd (come_fails k.level b (sym maps.0.0.0))

  writing_fails : (a : WriteAt) (m x : WriteState) (bytes : List ℕ) → WriteSteps disk a s.volume p m bytes (Progress.Fault fault) x t.volume → fault.0 ≡ block_of_write a
  writing_fails (WriteAt.Mapping way) m x bytes writes = by_answer writes.answer writes.gives writes.steps
    where
      by_answer : (q : Progress (Option ℕ)) → Progress.Fault fault ≡ one_more q → MapSteps disk way.at s.volume p way m.inode q writes.now writes.inode t.volume → fault.0 ≡ block_on_way way.at
      by_answer Progress.Moved is maps = absurd (cc is)
      by_answer (Progress.Sleeping why) is maps = absurd (cc is)
      by_answer (Progress.Over found) is maps = absurd (cc is)
      by_answer (Progress.Fault other) is maps = let same : fault ≡ other = cc is in
          way_fails way.at way writes.now m.inode writes.inode (subst (λ (f : DiskFault). MapSteps disk way.at s.volume p way m.inode (Progress.Fault f) writes.now writes.inode t.volume) (sym same) maps)
  writing_fails (WriteAt.Block b None) m x bytes writes = gets_fails disk s.volume p b fault writes.0 t.volume writes.1
  writing_fails (WriteAt.Block b (Some i)) m x bytes writes = let no = writes.0 in absurd (cc no)
  writing_fails (WriteAt.Updating u) m x bytes writes = updates_fails u.slot u writes.0 m.inode writes.1

  freeing_fails : (o : Option Got) (m n : Freeing) → FreesOn disk o s.volume p m (Progress.Fault fault) n t.volume → fault.0 ≡ block_next m
  freeing_fails None m n steps = gets_fails disk s.volume p (block_next m) fault steps.slot t.volume steps.gets
  freeing_fails (Some g) m n steps = absurd (subst IsDone (sym steps.answer) (use_done m.machine.at))

  linking_fails : (o : Option ℕ) (u v : UpdateState) (d : Dinode) → Updates disk o s.volume p u d (Progress.Fault fault) v t.volume → fault.0 ≡ inode_block u.number
  linking_fails None u v d updates = gets_fails disk s.volume p (inode_block u.number) fault v.slot t.volume updates.1
  linking_fails (Some i) u v d updates = absurd (cc updates.0)

  -- the block at which a task's step fails is that which its stage names
  pub fails_at : (a : Stage) → Goes disk a s p op (TaskProgress.Fault fault) t → fault.0 ≡ block_at_stage a
  fails_at Stage.Nowhere goes = let no = goes.0 in absurd (cc no)
  fails_at (Stage.Creating m) goes = by_slot m.slot goes.0
    where
      by_slot : (o : Option ℕ) → GoesFrom o s.table.inode_count p m s.volume.buffers (TaskProgress.Fault fault) (task t.tasks p).stage (shown_of disk.image s.volume) (shown_of disk.image t.volume) → fault.0 ≡ m.block
      by_slot None goes = goes.0.0
      by_slot (Some i) goes = absurd goes
  fails_at (Stage.Taking m) goes = by_answer goes.0.answer goes.0.gives goes.0.locks
    where
      by_answer : (x : Progress Bool) → TaskProgress.Fault fault ≡ progress_of_lock s.table.form (inode_of (current_of disk.image s.volume) m.number) op x → LockSteps disk m.at s.table s.volume p m x t.table t.volume goes.0.now → fault.0 ≡ inode_block m.number
      by_answer Progress.Moved is locks = absurd (cc is)
      by_answer (Progress.Sleeping why) is locks = absurd (cc is)
      by_answer (Progress.Over used) is locks = absurd (cc is)
      by_answer (Progress.Fault other) is locks = let same : fault ≡ other = cc is in
          taking_fails m.at m goes.0.now t.table (subst (λ (f : DiskFault). LockSteps disk m.at s.table s.volume p m (Progress.Fault f) t.table t.volume goes.0.now) (sym same) locks)
  fails_at (Stage.Reading k m) goes = by_answer goes.0.answer goes.0.gives goes.0.reads.works
    where
      by_answer : (x : Progress (Unit {0})) → TaskProgress.Fault fault ≡ progress_of_read x → Works disk m.target s.volume p m x t.volume goes.0.now → fault.0 ≡ block_of m.target
      by_answer Progress.Moved is works = absurd (cc is)
      by_answer (Progress.Sleeping why) is works = absurd (cc is)
      by_answer (Progress.Over out) is works = absurd (cc is)
      by_answer (Progress.Fault other) is works = let same : fault ≡ other = cc is in
          reading_fails m.target m goes.0.now (subst (λ (f : DiskFault). Works disk m.target s.volume p m (Progress.Fault f) t.volume goes.0.now) (sym same) works)
  fails_at (Stage.Delivering k) goes = let no = goes.gives in absurd (cc no)
  fails_at (Stage.Truncating k m) goes = by_answer goes.answer goes.gives goes.steps
    where
      by_answer : (x : Progress (Unit {0})) → TaskProgress.Fault fault ≡ progress_of_trunc x → FreesOn disk (now_of m) s.volume p m x goes.now t.volume → fault.0 ≡ block_next m
      by_answer Progress.Moved is steps = absurd (cc is)
      by_answer (Progress.Sleeping why) is steps = absurd (cc is)
      by_answer (Progress.Over out) is steps = absurd (cc is)
      by_answer (Progress.Fault other) is steps = let same : fault ≡ other = cc is in
          freeing_fails (now_of m) m goes.now (subst (λ (f : DiskFault). FreesOn disk (now_of m) s.volume p m (Progress.Fault f) goes.now t.volume) (sym same) steps)
  fails_at (Stage.Writing k m) goes = by_answer goes.answer goes.gives goes.writes
    where
      by_answer : (x : Progress (Unit {0})) → TaskProgress.Fault fault ≡ progress_of_write m.done x → WriteSteps disk m.at s.volume p m (bytes_of op) x goes.now t.volume → fault.0 ≡ block_of_write m.at
      by_answer Progress.Moved is writes = absurd (cc is)
      by_answer (Progress.Sleeping why) is writes = absurd (cc is)
      by_answer (Progress.Over out) is writes = absurd (cc is)
      by_answer (Progress.Fault other) is writes = let same : fault ≡ other = cc is in
          writing_fails m.at m goes.now (bytes_of op) (subst (λ (f : DiskFault). WriteSteps disk m.at s.volume p m (bytes_of op) (Progress.Fault f) goes.now t.volume) (sym same) writes)
  fails_at (Stage.Setting k d u) goes = by_answer goes.answer goes.gives goes.updates
    where
      by_answer : (x : Progress (Unit {0})) → TaskProgress.Fault fault ≡ progress_of_setting x → Updates disk u.slot s.volume p u d x goes.now t.volume → fault.0 ≡ inode_block u.number
      by_answer Progress.Moved is updates = absurd (cc is)
      by_answer (Progress.Sleeping why) is updates = absurd (cc is)
      by_answer (Progress.Over out) is updates = absurd (cc is)
      by_answer (Progress.Fault other) is updates = let same : fault ≡ other = cc is in
          linking_fails u.slot u goes.now d (subst (λ (f : DiskFault). Updates disk u.slot s.volume p u d (Progress.Fault f) goes.now t.volume) (sym same) updates)
  fails_at (Stage.Leaving k) goes = let no = goes.0 in absurd (cc no)
