-- What each event of a process is, as a step's acts.
use Rattle.std.proofs.Common.{◌≡◌, ◌≢◌, ◌↔◌, ⊎_elim, inl, inr, ℕ, zero, suc, Bool, true, false, List, [], refl, sym, ◌∙◌, ap, subst, Option, Some, None}
use Rattle.std.specs.Prelude.{IsSome, IfSome, is_none, not, ◌&&◌}
use mathlib.Core.List.{IsPrefix}
use Rattle.blocks.specs.Lemmas.Reads.{reads_none}
use Rattle.blocks.specs.declared.disk.Disk as disk_trait
use Rattle.ports.specs.declared.herald.Herald as herald_trait
use Rattle.ports.specs.declared.intake.Intake as intake_trait
use Rattle.kernel.specs.Device.{UsesDisk, CountsItsFault, FailsSo, UsesOnce, block_at_step, counts_of}
use Rattle.std.specs.Option.{option_map}
use Rattle.kernel.specs.Common.{Acts, append-nil, BeginsWith, Block, block_at_stage, Commit, commit_kinds, Commits, CommitSyncs, Committed, CommitWrites, DeviceFault, DiskFault, Elapses, elapses_none, elapses_same, end_answer, Ended, Ends, entry_in, fails_at, FailsAt, FailsToSync, false≢true, fault_of_step, fault_of_task, faults_after, first_in, Goes, is_busy_at, is_committing_at, is_over, is_syncing, is_writing, IsFault, may_begin, NextAt, NextIf, one_more, OnlyReads, Op, Part, Phase, place_at, process, Side, State, Step, step_behind, step_of, step_of_end, step_of_last, step_of_told, step_of_write, Steps, StoreState, Sync, task, TaskProgress, OpClass, class_of, World, world_after, world_behind, world_written}
use Rattle.kernel.specs.Begins.{Begins}
use Rattle.kernel.specs.Heralds.{IsUnasked, SameBoard}
use Rattle.kernel.specs.Ports.{KeepsOthers, Asks}
use Rattle.kernel.proofs.Events.{not_taken}

-- no other side changed
pub sides_same : {I M : Type 0} (intake : intake_trait.Ghosts I M) (p : ℕ) (i : I) → KeepsOthers intake p i i
sides_same intake p i = record { names = λ q. refl; others = λ q apart. refl }

pub same_prefix : {A : Type 0} (xs ys : List A) → ys ≡ xs → IsPrefix xs ys
same_prefix xs ys same = ([], append-nil xs ∙ sym same)

-- what a step says of the disk's fault, which is of this kind
record TellsFault {D N : Type 0} (disk : disk_trait.Ghosts D N) (so : DeviceFault → Type 0) (r : Step) (s t : StoreState D) : Type 0 where
  pub halted : (r ≡ Step.Halted) ↔ IsSome t.volume.fault
  pub faults : CountsItsFault t.volume.fault (counts_of disk s.volume.device) (counts_of disk t.volume.device) (disk.fault_count s.volume.device) (disk.fault_count t.volume.device)
  pub block : IfSome t.volume.fault so

module _ {D N : Type 0} (disk : disk_trait.Ghosts D N) (s t : StoreState D) where
  abbrev Counted : Option DeviceFault → Type 0
  Counted o = CountsItsFault o (counts_of disk s.volume.device) (counts_of disk t.volume.device) (disk.fault_count s.volume.device) (disk.fault_count t.volume.device)

  -- there is none
  tells_none : (so : DeviceFault → Type 0) (r : Step) → r ≢ Step.Halted → t.volume.fault ≡ None → disk.fault_count t.volume.device ≡ disk.fault_count s.volume.device → TellsFault disk so r s t
  tells_none so r runs none same = record {
    halted = ((λ e. absurd (runs e)), (λ some. absurd (let no = subst IsSome none some in cc no)));
    faults = subst Counted (sym none) same;
    block = subst (λ (o : Option DeviceFault). IfSome o so) (sym none) tt;
  }

  -- it failed
  tells_fault : (so : DeviceFault → Type 0) (fault : DeviceFault) → t.volume.fault ≡ Some fault → so fault → Counted (Some fault) → TellsFault disk so Step.Halted s t
  tells_fault so fault is here counts = record {
    halted = ((λ e. subst IsSome (sym is) refl), (λ some. refl));
    faults = subst Counted (sym is) counts;
    block = subst (λ (o : Option DeviceFault). IfSome o so) (sym is) here;
  }

  -- the disk isn't used
  pub rests : (a : Phase) (p : ℕ) (r : Step) → is_committing_at a ≡ false → r ≢ Step.Halted → s.volume.fault ≡ None → t.volume.fault ≡ s.volume.fault → t.volume.device ≡ s.volume.device → UsesDisk disk a p r s t
  rests a p r quiet runs well same is =
      let tells = tells_none (FailsSo a s p) r runs (same ∙ well) (ap disk.fault_count is) in
      record {
        halted = tells.halted;
        name = ap disk.name is;
        time = elapses_same disk.moment disk.leaves s.volume.device t.volume.device is;
        reads = λ e. subst (OnlyReads disk s.volume.device) (sym is) (reads_none disk s.volume.device);
        written = λ e. absurd (false≢true (sym quiet ∙ e));
        synced = λ e. absurd (false≢true (sym quiet ∙ e.0));
        plain = λ free. ap disk.sync_count is;
        once = inl (ap disk.write_count is, ap disk.sync_count is);
        faults = λ e. tells.faults;
        block = λ e. tells.block;
      }

  -- a step of a task reads a block at most, whatever the kernel answers to what it comes to
  pub reads : (a : Phase) (p : ℕ) (op : Op) (r : TaskProgress) (answer : TaskProgress → Step) → is_committing_at a ≡ false → block_at_step a s p ≡ block_at_stage (task s.tasks p).stage
      → ((fault : DiskFault) → answer (TaskProgress.Fault fault) ≡ Step.Halted) → ((q : TaskProgress) → fault_of_task q ≡ None → answer q ≢ Step.Halted) → Steps disk s p op r t → UsesDisk disk a p (answer r) s t
  reads a p op r answer quiet here halts runs steps =
      let tells = by_answer r steps.reads.fault steps.reads.faults steps.goes in
      record {
        halted = tells.halted;
        name = steps.reads.device.name;
        time = elapses_none steps.reads.device.time;
        reads = λ e. steps.reads.device;
        written = λ e. absurd (false≢true (sym quiet ∙ e));
        synced = λ e. absurd (false≢true (sym quiet ∙ e.0));
        plain = λ free. steps.reads.device.syncs;
        once = inl (steps.reads.device.writes, steps.reads.device.syncs);
        faults = λ e. tells.faults;
        block = λ e. tells.block;
      }
    where
      none : (q : TaskProgress) → fault_of_task q ≡ None → t.volume.fault ≡ fault_of_task q → disk.fault_count t.volume.device ≡ faults_after (fault_of_task q) (disk.fault_count s.volume.device) → TellsFault disk (FailsSo a s p) (answer q) s t
      none q well is same = tells_none (FailsSo a s p) (answer q) (runs q well) (is ∙ well) (same ∙ ap (λ (o : Option DeviceFault). faults_after o (disk.fault_count s.volume.device)) well)

      by_answer : (r : TaskProgress) → t.volume.fault ≡ fault_of_task r → disk.fault_count t.volume.device ≡ faults_after (fault_of_task r) (disk.fault_count s.volume.device) → Goes disk (task s.tasks p).stage s p op r t
          → TellsFault disk (FailsSo a s p) (answer r) s t
      by_answer TaskProgress.Moved is same goes = none TaskProgress.Moved refl is same
      by_answer (TaskProgress.Turned reply) is same goes = none (TaskProgress.Turned reply) refl is same
      by_answer (TaskProgress.Decided reply) is same goes = none (TaskProgress.Decided reply) refl is same
      by_answer TaskProgress.Over is same goes = none TaskProgress.Over refl is same
      by_answer (TaskProgress.Sleeping why) is same goes = none (TaskProgress.Sleeping why) refl is same
      by_answer (TaskProgress.Fault fault) is same goes = subst (λ (q : Step). TellsFault disk (FailsSo a s p) q s t) (sym (halts fault))
          (tells_fault (FailsSo a s p) (Block fault) is (fails_at disk s p op fault t (task s.tasks p).stage goes ∙ sym here) ((steps.reads.device.writes, steps.reads.device.syncs), same))

  -- what a step of a commit that writes, or syncs, does to the counts
  record Uses (p group k : ℕ) (r : Committed) : Type 0 where
    pub tells : TellsFault disk (FailsSo (Phase.Committing group k) s p) (step_of_write r) s t
    pub written : is_syncing s.volume.log.commit ≡ false → step_of_write r ≢ Step.Halted → disk.write_count t.volume.device ≡ one_more (disk.write_count s.volume.device)
    pub synced : is_syncing s.volume.log.commit ≡ true → step_of_write r ≢ Step.Halted → disk.sync_count t.volume.device ≡ one_more (disk.sync_count s.volume.device)
    pub once : UsesOnce (counts_of disk s.volume.device) (counts_of disk t.volume.device)
    pub name : disk.name t.volume.device ≡ disk.name s.volume.device
    pub time : Elapses (disk.moment s.volume.device) (disk.moment t.volume.device) (disk.leaves s.volume.device) (disk.leaves t.volume.device)

  writing_calm : (k : Commit) → is_writing k ≡ true → is_syncing k ≡ false
  writing_calm Commit.Quiet writing = refl
  writing_calm (Commit.Logging j) writing = refl
  writing_calm Commit.Heading writing = refl
  writing_calm (Commit.Homing j) writing = refl
  writing_calm Commit.Clearing writing = refl
  writing_calm (Commit.Syncing q) writing = absurd (false≢true writing)

  abbrev More : Type 0
  More = disk.fault_count t.volume.device ≡ one_more (disk.fault_count s.volume.device)

  -- a write
  uses_write : (p group k : ℕ) (r : Committed) → t.volume.fault ≡ fault_of_step r → is_writing s.volume.log.commit ≡ true → CommitWrites disk s.volume.device s.volume.buffers s.volume.log r t.volume.device t.volume.buffers t.volume.log → Uses p group k r
  uses_write p group k r is writing w = by_result r is w.writes w.faults
    where
      no_sync : is_syncing s.volume.log.commit ≡ true → ⊥
      no_sync syncs = false≢true (sym (writing_calm s.volume.log.commit writing) ∙ syncs)

      made : (q : Committed) → step_of_write q ≢ Step.Halted → t.volume.fault ≡ None → disk.write_count t.volume.device ≡ one_more (disk.write_count s.volume.device) → disk.fault_count t.volume.device ≡ disk.fault_count s.volume.device → Uses p group k q
      made q runs well wrote same = record {
        tells = tells_none (FailsSo (Phase.Committing group k) s p) (step_of_write q) runs well same;
        written = λ calm on. wrote;
        synced = λ syncs. absurd (no_sync syncs);
        once = inr (inl (wrote, w.syncs));
        name = w.name;
        time = w.time;
      }

      here : (f : DeviceFault) → FailsAt (place_at s.volume.log.commit s.volume.log.homes) f → FailsSo (Phase.Committing group k) s p f
      here (Block f) at_phase = at_phase
      here (Sync f) never = absurd never

      by_result : (q : Committed) → t.volume.fault ≡ fault_of_step q → IsFault q (λ fault. disk.write_count t.volume.device ≡ disk.write_count s.volume.device) More (disk.write_count t.volume.device ≡ one_more (disk.write_count s.volume.device))
          → IsFault q (FailsAt (place_at s.volume.log.commit s.volume.log.homes)) More (disk.fault_count t.volume.device ≡ disk.fault_count s.volume.device) → Uses p group k q
      by_result Committed.More is wrote same = made Committed.More (λ e. cc e) is wrote same
      by_result (Committed.Durable g) is wrote same = made (Committed.Durable g) (λ e. cc e) is wrote same
      by_result Committed.Done is wrote same = made Committed.Done (λ e. cc e) is wrote same
      by_result (Committed.Fault fault) is wrote failed = record {
        tells = tells_fault (FailsSo (Phase.Committing group k) s p) fault is (here fault failed.0) ((wrote.0, w.syncs), wrote.1);
        written = λ calm runs. absurd (runs refl);
        synced = λ syncs runs. absurd (runs refl);
        once = inl (wrote.0, w.syncs);
        name = w.name;
        time = w.time;
      }

  -- a sync
  uses_sync : (p group k : ℕ) (part : Part) (r : Committed) → t.volume.fault ≡ fault_of_step r → s.volume.log.commit ≡ Commit.Syncing part → CommitSyncs disk part s.volume.device s.volume.buffers s.volume.log r t.volume.device t.volume.buffers t.volume.log → Uses p group k r
  uses_sync p group k part r is due w = by_result r is w.faults w.syncs
    where
      syncs : is_syncing s.volume.log.commit ≡ true
      syncs = ap is_syncing due

      made : (q : Committed) → step_of_write q ≢ Step.Halted → t.volume.fault ≡ None → disk.sync_count t.volume.device ≡ one_more (disk.sync_count s.volume.device) → disk.fault_count t.volume.device ≡ disk.fault_count s.volume.device → Uses p group k q
      made q runs well synced same = record {
        tells = tells_none (FailsSo (Phase.Committing group k) s p) (step_of_write q) runs well same;
        written = λ calm. absurd (false≢true (sym calm ∙ syncs));
        synced = λ at_sync on. synced;
        once = inr (inr (w.writes, synced));
        name = w.name;
        time = elapses_none w.time;
      }

      here : (f : DeviceFault) → FailsToSync f → FailsSo (Phase.Committing group k) s p f
      here (Block f) never = absurd never
      here (Sync f) at_sync = (refl, syncs)

      by_result : (q : Committed) → t.volume.fault ≡ fault_of_step q → IsFault q FailsToSync More (disk.fault_count t.volume.device ≡ disk.fault_count s.volume.device)
          → IsFault q (λ fault. disk.sync_count t.volume.device ≡ disk.sync_count s.volume.device) More (disk.sync_count t.volume.device ≡ one_more (disk.sync_count s.volume.device)) → Uses p group k q
      by_result Committed.More is same synced = made Committed.More (λ e. cc e) is synced same
      by_result (Committed.Durable g) is same synced = made (Committed.Durable g) (λ e. cc e) is synced same
      by_result Committed.Done is same synced = made Committed.Done (λ e. cc e) is synced same
      by_result (Committed.Fault fault) is failed unsynced = record {
        tells = tells_fault (FailsSo (Phase.Committing group k) s p) fault is (here fault failed.0) ((w.writes, unsynced.0), failed.1);
        written = λ calm runs. absurd (runs refl);
        synced = λ at_sync runs. absurd (runs refl);
        once = inl (w.writes, unsynced.0);
        name = w.name;
        time = elapses_none w.time;
      }

  -- a step of a commit
  pub writes : (p group k : ℕ) (r : Committed) → Commits disk s r t → UsesDisk disk (Phase.Committing group k) p (step_of_write r) s t
  writes p group k r made =
      let uses : Uses p group k r = ⊎_elim
      (λ (w : (is_writing s.volume.log.commit ≡ true) × CommitWrites disk s.volume.device s.volume.buffers s.volume.log r t.volume.device t.volume.buffers t.volume.log). uses_write p group k r made.volume.fault w.0 w.1)
      (λ (y : (q : Part) × (s.volume.log.commit ≡ Commit.Syncing q) × CommitSyncs disk q s.volume.device s.volume.buffers s.volume.log r t.volume.device t.volume.buffers t.volume.log). uses_sync p group k y.0 r made.volume.fault y.1 y.2)
      (commit_kinds disk s.volume.log.commit s.volume.device s.volume.buffers s.volume.log r t.volume.device t.volume.buffers t.volume.log made.volume.write) in
      record {
        halted = uses.tells.halted;
        name = uses.name;
        time = uses.time;
        reads = λ e. absurd (false≢true (sym e));
        written = λ e calm runs. uses.written calm runs;
        synced = λ e runs. uses.synced e.1 runs;
        plain = made.volume.unsynced;
        once = uses.once;
        faults = λ e. uses.tells.faults;
        block = λ e. uses.tells.block;
      }

-- who is under way comes to no beginning
begins_not : (well unshut busy : Bool) → busy ≡ true → (well && unshut && not busy) ≡ true → ⊥
begins_not false unshut busy under begins = false≢true begins
begins_not true false busy under begins = false≢true begins
begins_not true true false under begins = false≢true under
begins_not true true true under begins = false≢true begins

pub same_unasked : {H : Type 0} (herald : herald_trait.Ghosts H) (h : H) → IsUnasked herald h h
same_unasked herald h = record { board = refl; told = refl; same = inl refl }

module _ {D N I M H : Type 0} (disk : disk_trait.Ghosts D N) (intake : intake_trait.Ghosts I M) (herald : herald_trait.Ghosts H) (p : ℕ) (k m : State D I H) where
  -- what a process makes of store and processes where it stands, while the disk has not failed
  pub acts_at : (r : Step) (a : Phase) → k.store.volume.fault ≡ None → (process k.world p).at ≡ a
      → NextAt disk a k.store k.world p (intake.side k.intake p).ahead (intake.side m.intake p) (herald.told m.herald) r m.store m.world → UsesDisk disk a p r k.store m.store → m.opening ≡ k.opening → SameBoard herald k.herald m.herald
      → KeepsOthers intake p k.intake m.intake → (r ≢ Step.Moved → r ≢ Step.Answered → IsPrefix (intake.side k.intake p).ahead (intake.side m.intake p).ahead)
      → (is_busy_at a ≡ true → (intake.side m.intake p).ahead ≡ (intake.side k.intake p).ahead) → (may_begin k p ≡ true → herald.asks k.herald m.herald) → (may_begin k p ≡ false → IsUnasked herald k.herald m.herald) → Acts disk intake herald p r k m
  acts_at r a well stands next device opening board sides waits ahead asked unasked = record {
    next = subst (λ (o : Option DeviceFault). NextIf disk o k.store k.world p (intake.side k.intake p).ahead (intake.side m.intake p) (herald.told m.herald) r m.store m.world) (sym well)
        (subst (λ (b : Phase). NextAt disk b k.store k.world p (intake.side k.intake p).ahead (intake.side m.intake p) (herald.told m.herald) r m.store m.world) (sym stands) next);
    device = subst (λ (b : Phase). UsesDisk disk b p r k.store m.store) (sym stands) device;
    opening = opening;
    ports = record {
      board = board;
      asked = asked;
      unasked = unasked;
      sides = sides;
      waits = waits;
      ahead = λ busy. ahead (ap is_busy_at (sym stands) ∙ busy);
    };
  }

  -- who is under way, and leaves what waits
  pub acts_busy : (r : Step) (a : Phase) → k.store.volume.fault ≡ None → (process k.world p).at ≡ a
      → NextAt disk a k.store k.world p (intake.side k.intake p).ahead (intake.side m.intake p) (herald.told m.herald) r m.store m.world → UsesDisk disk a p r k.store m.store → m.opening ≡ k.opening
      → KeepsOthers intake p k.intake m.intake → (intake.side m.intake p).ahead ≡ (intake.side k.intake p).ahead → is_busy_at a ≡ true → IsUnasked herald k.herald m.herald → Acts disk intake herald p r k m
  acts_busy r a well stands next device opening sides same busy unasked =
      acts_at r a well stands next device opening unasked.board sides (λ moved answered. same_prefix (intake.side k.intake p).ahead (intake.side m.intake p).ahead same) (λ busy. same)
      (λ begins. absurd (begins_not (is_none k.store.volume.fault) (not k.world.is_shut) (is_busy_at (process k.world p).at) (ap is_busy_at stands ∙ busy) begins)) (λ never. unasked)

module _ {D N I M H : Type 0} (disk : disk_trait.Ghosts D N) (intake : intake_trait.Ghosts I M) (herald : herald_trait.Ghosts H) (p : ℕ) (s t : StoreState D) (d : D) (i : I) (h : H) (w z : World) (well : s.volume.fault ≡ None) where
  -- a step of a task before its turn
  pub acts_worked : (group : ℕ) (op : Op) (r : TaskProgress) → (process w p).at ≡ Phase.BeforeTurn group op → Steps disk s p op r t → z ≡ world_after r (is_over (task t.tasks p).stage) w p
      → Acts disk intake herald p (step_of r) (record { store = s; opening = d; intake = i; herald = h; world = w }) (record { store = t; opening = d; intake = i; herald = h; world = z })
  acts_worked group op r stands steps made =
      acts_busy disk intake herald p (record { store = s; opening = d; intake = i; herald = h; world = w }) (record { store = t; opening = d; intake = i; herald = h; world = z }) (step_of r) (Phase.BeforeTurn group op) well stands
      (record { progress = r; steps = steps; answer = refl; world = made }) (reads disk s t (Phase.BeforeTurn group op) p op r step_of refl refl (λ fault. refl) runs steps) refl (sides_same intake p i) refl refl (same_unasked herald h)
    where
      runs : (q : TaskProgress) → fault_of_task q ≡ None → step_of q ≢ Step.Halted
      runs TaskProgress.Moved none e = cc e
      runs (TaskProgress.Turned reply) none e = cc e
      runs (TaskProgress.Decided reply) none e = cc e
      runs TaskProgress.Over none e = cc e
      runs (TaskProgress.Sleeping why) none e = cc e
      runs (TaskProgress.Fault fault) none e = cc none

  -- and behind it, after which the intake is j
  pub acts_finished : (group k : ℕ) (j : I) (r : TaskProgress) → (process w p).at ≡ Phase.AfterTurn group k → Steps disk s p (entry_in w.journal.list k).op r t → z ≡ world_behind group r w p → KeepsOthers intake p i j → (intake.side j p).ahead ≡ (intake.side i p).ahead
      → Acts disk intake herald p (step_behind group r) (record { store = s; opening = d; intake = i; herald = h; world = w }) (record { store = t; opening = d; intake = j; herald = h; world = z })
  acts_finished group k j r stands steps made sides ahead =
      acts_busy disk intake herald p (record { store = s; opening = d; intake = i; herald = h; world = w }) (record { store = t; opening = d; intake = j; herald = h; world = z }) (step_behind group r) (Phase.AfterTurn group k) well stands
      (record { progress = r; steps = steps; answer = refl; world = made }) (reads disk s t (Phase.AfterTurn group k) p (entry_in w.journal.list k).op r (step_behind group) refl refl (λ fault. refl) runs steps) refl sides ahead refl (same_unasked herald h)
    where
      by_group : (g : ℕ) → step_of_last g ≢ Step.Halted
      by_group zero e = cc e
      by_group (suc g) e = cc e

      by_reply : (g : ℕ) → step_of_told g ≢ Step.Halted
      by_reply zero e = cc e
      by_reply (suc g) e = cc e

      runs : (q : TaskProgress) → fault_of_task q ≡ None → step_behind group q ≢ Step.Halted
      runs TaskProgress.Moved none e = cc e
      runs (TaskProgress.Turned reply) none e = cc e
      runs (TaskProgress.Decided reply) none e = by_reply group e
      runs TaskProgress.Over none e = by_group group e
      runs (TaskProgress.Sleeping why) none e = cc e
      runs (TaskProgress.Fault fault) none e = cc none

  -- an end in the log, after which the intake is j and the herald g
  pub acts_ended : (group k : ℕ) (j : I) (g : H) (r : Step) → (process w p).at ≡ Phase.Ending group k → Ends s w p r t z → KeepsOthers intake p i j → (intake.side j p).ahead ≡ (intake.side i p).ahead → IsUnasked herald h g
      → Acts disk intake herald p r (record { store = s; opening = d; intake = i; herald = h; world = w }) (record { store = t; opening = d; intake = j; herald = g; world = z })
  acts_ended group k j g r stands made sides ahead told =
      acts_busy disk intake herald p (record { store = s; opening = d; intake = i; herald = h; world = w }) (record { store = t; opening = d; intake = j; herald = g; world = z }) r (Phase.Ending group k) well stands
      made (rests disk s t (Phase.Ending group k) p r refl (λ e. runs (end_answer s.volume.log) (sym made.answer ∙ e)) well (ap (λ (o : StoreState D). o.volume.fault) made.store) (ap (λ (o : StoreState D). o.volume.device) made.store)) refl sides ahead refl told
    where
      runs : (e : Ended) → step_of_end e ≢ Step.Halted
      runs Ended.Commit e = cc e
      runs Ended.Left e = cc e

  -- a write of a commit
  pub acts_written : (group k : ℕ) (j : I) (g : H) (r : Committed) → (process w p).at ≡ Phase.Committing group k → Commits disk s r t → z ≡ world_written r w p → KeepsOthers intake p i j → (intake.side j p).ahead ≡ (intake.side i p).ahead → IsUnasked herald h g
      → Acts disk intake herald p (step_of_write r) (record { store = s; opening = d; intake = i; herald = h; world = w }) (record { store = t; opening = d; intake = j; herald = g; world = z })
  acts_written group k j g r stands made is sides ahead told =
      acts_busy disk intake herald p (record { store = s; opening = d; intake = i; herald = h; world = w }) (record { store = t; opening = d; intake = j; herald = g; world = z }) (step_of_write r) (Phase.Committing group k) well stands
      (record { result = r; commits = made; answer = refl; world = is }) (writes disk s t p group k r made) refl sides ahead refl told

-- who may begin
begins_now : {D I H : Type 0} (k : State D I H) (p : ℕ) → k.store.volume.fault ≡ None → k.world.is_shut ≡ false → (process k.world p).at ≡ Phase.Idle → may_begin k p ≡ true
begins_now k p well free stands = rw (well, free, stands) refl

-- a beginning changes neither the disk nor its fault, and what waits goes on waiting, but for what is taken
pub record BeginsStill (D : Type 0) (s : StoreState D) (ahead : List Op) (side : Side) (r : Step) (t : StoreState D) : Type 0 where
  pub runs : r ≢ Step.Halted
  pub fault : t.volume.fault ≡ s.volume.fault
  pub device : t.volume.device ≡ s.volume.device
  pub waits : r ≢ Step.Moved → r ≢ Step.Answered → side.ahead ≡ ahead

begins_still : {D : Type 0} (s t : StoreState D) (w z : World) (p : ℕ) (ahead : List Op) (side : Side) (what : Option OpClass) (r : Step) → BeginsWith what s w p ahead side r t z → BeginsStill D s ahead side r t
begins_still {D} s t w z p ahead side what r (inl made) = record { runs = λ e. let no = sym made.answer ∙ e in cc no; fault = ap (λ (o : StoreState D). o.volume.fault) made.store; device = ap (λ (o : StoreState D). o.volume.device) made.store; waits = λ moved answered. absurd (moved made.answer) }
begins_still {D} s t w z p ahead side what r (inr (inl made)) = record { runs = λ e. let no = sym made.answer ∙ e in cc no; fault = ap (λ (o : StoreState D). o.volume.fault) made.store; device = ap (λ (o : StoreState D). o.volume.device) made.store; waits = λ moved answered. absurd (moved made.answer) }
begins_still {D} s t w z p ahead side what r (inr (inr (inl made))) = record { runs = λ e. let no = sym made.answer ∙ e in cc no; fault = ap (λ (o : StoreState D). o.volume.fault) made.store; device = ap (λ (o : StoreState D). o.volume.device) made.store; waits = λ moved answered. absurd (answered made.answer) }
begins_still {D} s t w z p ahead side what r (inr (inr (inr made))) = record { runs = (not_taken what s.volume.log side.has_room r made.answer).runs; fault = ap (λ (o : StoreState D). o.volume.fault) made.same.0; device = ap (λ (o : StoreState D). o.volume.device) made.same.0; waits = λ moved answered. made.ahead_stays }

module _ {D N I M H : Type 0} (disk : disk_trait.Ghosts D N) (intake : intake_trait.Ghosts I M) (herald : herald_trait.Ghosts H) (p : ℕ) (k asked looked m : State D I H) (well : k.store.volume.fault ≡ None)
    (stands : (process k.world p).at ≡ Phase.Idle) where
  -- nobody told of a shutdown, what waits was looked up, and the first of it begins
  pub acts_begun : (r : Step) (o : Option OpClass) → asked.store ≡ k.store → asked.opening ≡ k.opening → asked.intake ≡ k.intake → asked.world ≡ record k.world { is_shut = false } → SameBoard herald k.herald asked.herald
      → (k.world.is_shut ≡ false) × (herald.told asked.herald ≡ false) → herald.asks k.herald asked.herald → looked ≡ record asked { intake = looked.intake } → Asks intake p asked.intake looked.intake
      → o ≡ option_map (class_of looked.store.table.inode_count) (first_in (intake.side looked.intake p).ahead)
      → Begins intake o p r looked m → Acts disk intake herald p r k m
  acts_begun r o store opening same world board open_still once is asks waits made =
      let world_is : looked.world ≡ k.world = ap (λ (s : State D I H). s.world) is ∙ world ∙ ap (λ (b : Bool). record k.world { is_shut = b }) (sym open_still.0) in
      let store_is : looked.store ≡ k.store = ap (λ (s : State D I H). s.store) is ∙ store in
      let here : BeginsWith o k.store k.world p (intake.side looked.intake p).ahead (intake.side m.intake p) r m.store m.world =
      subst (λ (w : World). BeginsWith o k.store w p (intake.side looked.intake p).ahead (intake.side m.intake p) r m.store m.world) world_is
      (subst (λ (s : StoreState D). BeginsWith o s looked.world p (intake.side looked.intake p).ahead (intake.side m.intake p) r m.store m.world) store_is made.next) in
      let still = begins_still k.store m.store k.world m.world p (intake.side looked.intake p).ahead (intake.side m.intake p) o r here in
      let prefix : IsPrefix (intake.side k.intake p).ahead (intake.side looked.intake p).ahead = subst (λ (i : I). IsPrefix (intake.side i p).ahead (intake.side looked.intake p).ahead) same asks.prefix in
      acts_at disk intake herald p k m r Phase.Idle well stands
      (inr (record {
        unshut = open_still.0;
        untold = ap herald.told made.herald ∙ ap (λ (s : State D I H). herald.told s.herald) is ∙ open_still.1;
        ahead = (intake.side looked.intake p).ahead;
        prefix = prefix;
        begins = subst (λ (q : Option OpClass). BeginsWith q k.store k.world p (intake.side looked.intake p).ahead (intake.side m.intake p) r m.store m.world) (waits ∙ ap (λ (s : StoreState D). option_map (class_of s.table.inode_count) (first_in (intake.side looked.intake p).ahead)) store_is) here;
      }))
      (rests disk k.store m.store Phase.Idle p r refl still.runs well still.fault still.device)
      (made.opening ∙ ap (λ (s : State D I H). s.opening) is ∙ opening)
      (ap herald.board (made.herald ∙ ap (λ (s : State D I H). s.herald) is) ∙ board)
      (record {
        names = λ q. made.sides.names q ∙ asks.keeps.names q ∙ ap (λ (i : I). intake.name i q) same;
        others = λ q apart. made.sides.others q apart ∙ asks.keeps.others q apart ∙ ap (λ (i : I). intake.side i q) same;
      })
      (λ moved answered. subst (λ (l : List Op). IsPrefix (intake.side k.intake p).ahead l) (sym (still.waits moved answered)) prefix)
      (λ busy. absurd (false≢true busy))
      (λ begins. subst (λ (h : H). herald.asks k.herald h) (sym (made.herald ∙ ap (λ (s : State D I H). s.herald) is)) once)
      (λ never. absurd (false≢true (sym never ∙ begins_now k p well open_still.0 stands)))
