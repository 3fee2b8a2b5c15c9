-- What stays true of store and processes after a fault of the disk.
use Rattle.std.proofs.Common.{◌≡◌, ◌≢◌, ⊎_elim, ℕ, Bool, true, false, length, refl, sym, ◌∙◌, ap, subst, arith, Option, Some, None}
use Rattle.std.specs.Prelude.{IfSome}
use Rattle.kernel.specs.Common.{ats_of, cases_eq, copy_at, current_of, DeviceFault, DiskFault, extent_of, failed_left, false≢true, Form, form_of, Ghosts, Goes, GoesFrom, HasFacts, holder_at, Image, inode_of, is_committing_at, is_over, IsRight, IsStore, left_outside, left_same, LockAt, logs_of, LogState, none_commits, Op, others_left, progress_of_setting, stage_of_setting, stage_of_lock, stage_of_reading, stage_of_trunc, stage_of_writing, process, progress_of_lock, progress_of_read, progress_of_trunc, progress_of_write, quiet_if_open, shown_of, Stage, Steps, steps_left, StoreState, table_of_setting, table_of_trunc, table_of_writing, TableState, task, task_left, TaskProgress, where_none, World}
use Rattle.model.specs.declared.types.image.Dinode.{Dinode}
use Rattle.model.specs.Agreement.{IsSameOutsideLog}
use Rattle.model.specs.declared.types.progress.Progress.{Progress}
use Rattle.inodes.specs.Ilock.{LockSteps, Locks}
use Rattle.inodes.specs.LockState.{LockState}
use Rattle.kernel.specs.Lasting.{HaveLocks, Lasts}
use Rattle.kernel.proofs.Bounds.{few_steps}
use Rattle.kernel.proofs.UnderWay.{has_lock, under_way}

-- where a task stands whose step failed, and the table, stay
record Stays {D : Type 0} (a : Stage) (s : StoreState D) (p : ℕ) (t : StoreState D) : Type 0 where
  unfinished : is_over a ≡ false
  stage_stays : (task t.tasks p).stage ≡ a
  table : t.table ≡ s.table

module _ {D N : Type 0} (disk : Ghosts D N) (s : StoreState D) (p : ℕ) (op : Op) (fault : DiskFault) (t : StoreState D) where
  lock_table : (a : LockAt) (m n : LockState) (other : DiskFault) → LockSteps disk a s.table s.volume p m (Progress.Fault other) t.table t.volume n → t.table ≡ s.table
  lock_table LockAt.Reference m n other locks = let no = locks.0.2 in absurd (cc no)
  lock_table (LockAt.Lock k) m n other locks = by_holder (holder_at s.table.places k) (copy_at s.table.places k) locks.0
    where
      by_holder : (o : Option ℕ) (c : Option Dinode) → Locks o c s.table p k m (Progress.Fault other) t.table n → t.table ≡ s.table
      by_holder (Some q) c is = let no = is.0 in absurd (cc no)
      by_holder None (Some d) is = let no = is.0 in absurd (cc no)
      by_holder None None is = let no = is.0 in absurd (cc no)
  lock_table (LockAt.Read k None) m n other locks = locks.1
  lock_table (LockAt.Read k (Some i)) m n other locks = let no = locks.0.answer in absurd (cc no)

  stays : (a : Stage) → Goes disk a s p op (TaskProgress.Fault fault) t → Stays a s p t
  stays Stage.Nowhere goes = let no = goes.0 in absurd (cc no)
  stays (Stage.Creating m) goes = record { unfinished = refl; stage_stays = by_slot m.slot goes.0; table = goes.1 }
    where
      by_slot : (o : Option ℕ) → GoesFrom o s.table.inode_count p m s.volume.buffers (TaskProgress.Fault fault) (task t.tasks p).stage (shown_of disk.image s.volume) (shown_of disk.image t.volume) → (task t.tasks p).stage ≡ Stage.Creating m
      by_slot None goes = goes.0.1
      by_slot (Some i) goes = absurd goes
  stays (Stage.Taking m) goes = by_answer goes.0.answer goes.0.gives goes.0.next goes.0.locks
    where
      by_answer : (x : Progress Bool) → TaskProgress.Fault fault ≡ progress_of_lock s.table.form (inode_of (current_of disk.image s.volume) m.number) op x
          → (task t.tasks p).stage ≡ stage_of_lock (extent_of s.table.form s.table.inode_count s.volume.log.size) (inode_of (current_of disk.image s.volume) m.number) op m goes.0.now x
          → LockSteps disk m.at s.table s.volume p m x t.table t.volume goes.0.now → Stays (Stage.Taking m) s p t
      by_answer Progress.Moved is next locks = absurd (cc is)
      by_answer (Progress.Sleeping why) is next locks = absurd (cc is)
      by_answer (Progress.Over used) is next locks = absurd (cc is)
      by_answer (Progress.Fault other) is next locks = record { unfinished = refl; stage_stays = next; table = lock_table m.at m goes.0.now other locks }
  stays (Stage.Reading k m) goes = by_answer goes.0.answer goes.0.gives goes.0.next
    where
      by_answer : (x : Progress (Unit {0})) → TaskProgress.Fault fault ≡ progress_of_read x → (task t.tasks p).stage ≡ stage_of_reading k m goes.0.now x → Stays (Stage.Reading k m) s p t
      by_answer Progress.Moved is next = absurd (cc is)
      by_answer (Progress.Sleeping why) is next = absurd (cc is)
      by_answer (Progress.Over out) is next = absurd (cc is)
      by_answer (Progress.Fault other) is next = record { unfinished = refl; stage_stays = next; table = goes.0.table }
  stays (Stage.Delivering k) goes = let no = goes.gives in absurd (cc no)
  stays (Stage.Truncating k m) goes = by_answer goes.answer goes.gives goes.next goes.table
    where
      by_answer : (x : Progress (Unit {0})) → TaskProgress.Fault fault ≡ progress_of_trunc x → (task t.tasks p).stage ≡ stage_of_trunc k m goes.now x → t.table ≡ table_of_trunc s.table k m x → Stays (Stage.Truncating k m) s p t
      by_answer Progress.Moved is next table = absurd (cc is)
      by_answer (Progress.Sleeping why) is next table = absurd (cc is)
      by_answer (Progress.Over out) is next table = absurd (cc is)
      by_answer (Progress.Fault other) is next table = record { unfinished = refl; stage_stays = next; table = table }
  stays (Stage.Writing k m) goes = by_answer goes.answer goes.gives goes.next goes.table
    where
      by_answer : (x : Progress (Unit {0})) → TaskProgress.Fault fault ≡ progress_of_write m.done x → (task t.tasks p).stage ≡ stage_of_writing k m goes.now x → t.table ≡ table_of_writing s.table k m x → Stays (Stage.Writing k m) s p t
      by_answer Progress.Moved is next table = absurd (cc is)
      by_answer (Progress.Sleeping why) is next table = absurd (cc is)
      by_answer (Progress.Over out) is next table = absurd (cc is)
      by_answer (Progress.Fault other) is next table = record { unfinished = refl; stage_stays = next; table = table }
  stays (Stage.Setting k d u) goes = by_answer goes.answer goes.gives goes.next goes.table
    where
      by_answer : (x : Progress (Unit {0})) → TaskProgress.Fault fault ≡ progress_of_setting x → (task t.tasks p).stage ≡ stage_of_setting k d u goes.now x → t.table ≡ table_of_setting s.table k d x → Stays (Stage.Setting k d u) s p t
      by_answer Progress.Moved is next table = absurd (cc is)
      by_answer (Progress.Sleeping why) is next table = absurd (cc is)
      by_answer (Progress.Over out) is next table = absurd (cc is)
      by_answer (Progress.Fault other) is next table = record { unfinished = refl; stage_stays = next; table = table }
  stays (Stage.Leaving k) goes = let no = goes.0 in absurd (cc no)

module _ {D N : Type 0} (disk : Ghosts D N) (opening : D) (s : StoreState D) (w : World) (store : IsStore disk.image s) (right : IsRight disk opening s w) where
  abbrev form : Form
  form = form_of (disk.image opening)

  -- it is true whether the disk has failed or not
  pub lasts_now : Lasts disk.image form s w
  lasts_now = by_fault s.volume.fault refl right.lasts
    where
      by_fault : (o : Option DeviceFault) → s.volume.fault ≡ o → IfSome o (λ (f : DeviceFault). Lasts disk.image form s w) → Lasts disk.image form s w
      by_fault None well lasts =
          let looks = where_none s.volume.fault well store.looks in
          let has : HasFacts disk.image (disk.image opening) s w = where_none s.volume.fault well right.facts in
          record {
            locks = has_lock disk.image s w right.paired looks;
            unanswered = under_way disk.image s w right.paired (disk.image opening) has;
            left = λ p. few_steps disk.image (disk.image opening) s w p has looks store.numbers;
          }
      by_fault (Some fault) failed lasts = lasts

  -- so it is after a step of a task that failed
  pub lasts_failed : (p : ℕ) (op : Op) (fault : DiskFault) (t : StoreState D) → s.volume.fault ≡ None → Steps disk s p op (TaskProgress.Fault fault) t → Lasts disk.image form t w
  lasts_failed p op fault t well steps = record {
    locks = subst (λ (u : TableState). HaveLocks u w) (sym here.table) lasts_now.locks;
    unanswered = lasts_now.unanswered;
    left = λ q. let few = lasts_now.left q in let most = left_same (process w q).at (old q) (new q) s.volume.log t.volume.log (let same = left_stays q in omega (arith, same)) (λ commits. let log = log_stays q commits in (ap (λ (l : LogState). l.commit) log, ap (λ (l : LogState). length l.homes) log)) in omega (arith, few, most);
  }
    where
      has : HasFacts disk.image (disk.image opening) s w
      has = where_none s.volume.fault well right.facts

      here : Stays (task s.tasks p).stage s p t
      here = stays disk s p op fault t (task s.tasks p).stage steps.goes

      old : ℕ → ℕ
      old q = task_left disk.image s q

      new : ℕ → ℕ
      new q = task_left disk.image t q

      now : Image
      now = current_of disk.image t.volume

      left_stays : (q : ℕ) → new q ≡ old q
      left_stays q = ap (λ (n : ℕ). steps_left now (task t.tasks q).stage n) steps.tasks.numbers ∙ ⊎_elim
          (λ (same : q ≡ p). subst (λ (o : ℕ). steps_left now (task t.tasks o).stage s.table.inode_count ≡ old o) (sym same)
          (ap (λ (a : Stage). steps_left now a s.table.inode_count) here.stage_stays ∙ failed_left disk s p op fault t steps))
          (λ (apart : q ≢ p). others_left disk s p op (TaskProgress.Fault fault) t (where_none s.volume.fault well store.looks) store.numbers steps q apart)
          (cases_eq q p)

      log_stays : (q : ℕ) → is_committing_at (process w q).at ≡ true → t.volume.log ≡ s.volume.log
      log_stays q commits = ⊎_elim
          (λ used. absurd (false≢true (sym (none_commits (ats_of w) s.volume.log has.alone (quiet_if_open s.volume.log p has.facts.valid.log used) q) ∙ commits)))
          (λ same. same)
          (logs_of disk s p op (TaskProgress.Fault fault) t (task s.tasks p).stage here.unfinished ((where_none s.volume.fault well store.agrees).stands p) steps.goes)

  -- and after a write that failed
  pub lasts_unwritten : (t : StoreState D) → s.volume.fault ≡ None → IsSameOutsideLog (current_of disk.image s.volume) (current_of disk.image t.volume) →
      t.tasks ≡ s.tasks → t.table ≡ s.table → t.volume.log ≡ s.volume.log → Lasts disk.image form t w
  lasts_unwritten t well same tasks table log = record {
    locks = subst (λ (u : TableState). HaveLocks u w) (sym table) lasts_now.locks;
    unanswered = lasts_now.unanswered;
    left = λ q.
        let stays = left_outside (current_of disk.image s.volume) s.table s.tasks (where_none s.volume.fault well store.looks) store.numbers (current_of disk.image t.volume) q same in
        rw (tasks, table, log, stays) (lasts_now.left q);
  }
