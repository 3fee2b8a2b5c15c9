-- What each event of a process makes of store and processes.
use Rattle.std.proofs.Common.{set, ◌≡◌, ◌≢◌, ◌⊎◌, ⊎_elim, inl, inr, ℕ, zero, suc, ◌+◌, ◌-◌, ◌<◌, ◌≤◌, Bool, true, false, cond, List, length, refl, sym, ◌∙◌, ap, subst, arith, Option, Some, None}
use Rattle.std.specs.Option.{option_map}
use Rattle.std.specs.Prelude.{IsSome}
use Rattle.kernel.specs.Common.{all_steps_left, answered, asked, at_once_reply, at_once_still, at_phase, ats_of, BeginsWith, begun, commit_fails, commit_log, commit_makes, CommitMakes, Commits, Committed, committing, committing_at, Create, current_of, decided, DeviceFault, end_answer, Ended, ended, Ends, ends_of, Entry, entry_in, entry_inside, entry_of, entry_index, false≢true, fault_of_step, Finishes, first_in, first_stage, Form, form_of, GatheredBytes, get_or-set_other, get_or-set_same, Ghosts, goes_on, Grows, grows_goes, grows_none, HasEntry, idle, Image, in_reads, inode_count_of, is_at_once, is_busy_at, is_committing_at, is_made, is_over, is_quiet, IsBehind, IsNotTaken, IsTold, JournalGoes, left_outside, SetAttribute, LockAt, logs_of, LogState, most_behind, NextAt, NextIf, no_task, none_commits, Op, open_of, others_left, over_at, owes_reply, Phase, phase_behind, Process, process, quiet_if_open, Read, refusal, Remove, Reply, room_for, set-get_or, Side, some_write, Stage, Stat, Step, step_behind, step_bound, step_of, step_of_end, step_of_last, step_of_told, step_of_write, StepEnds, stepped_at, Steps, steps_left, StoreState, TableState, task, task_left, TaskProgress, TaskState, told_at, Trunc, turned, turned_from, used_by, OpClass, class_of, Why, with_begun, with_look, Works, World, world_after, world_behind, world_ended, world_of_last, world_of_told, world_written, Write, writes_fall, writes_left}
use Rattle.history.specs.Lemmas.Commits.{reads_up, reads_written, stepped_count}
use Rattle.wal.specs.Lemmas.Log.{few_homes, let_in}
use Rattle.history.specs.Processes.{over as goes_to_end}
use Rattle.kernel.specs.Next.{Writes}
use Rattle.kernel.specs.Progress.{commits, CountsCommitted}
use Rattle.kernel.proofs.Beginnings.{refused_at_once}
use Rattle.kernel.proofs.Bounds.{few_behind, few_steps, form_now}
use Rattle.kernel.proofs.Valid.{unturned_unread}
use Rattle.kernel.proofs.Well.{IsWell, log_of, stands_at, later_before, later_behind, before_there, unturned_before, behind_there}
use Rattle.kernel.proofs.Working.{reply_missing}
use Rattle.inodes.specs.Lemmas.Bounds.{most_elsewhere}
use Rattle.history.specs.Lemmas.Ends.{commits_now, ended_count}

-- what is counted is never less
at_least : (t : Bool) (old new : ℕ) → new ≡ old + cond t 1 0 → old ≤ new
at_least true old new is = omega (arith, is)
at_least false old new is = omega (arith, is)

-- an answer where nothing was done
pub record Rests (r : Step) : Type 0 where
  pub unmoved : r ≢ Step.Moved
  pub runs : r ≢ Step.Halted
  pub none : (h : Bool) (a : Phase) (l : LogState) → commits h r a l ≡ false

-- such are the answers where nothing is taken
pub not_taken : (what : Option OpClass) (l : LogState) (room : Bool) (r : Step) → IsNotTaken what l room r → Rests r
not_taken what l room r is = by_case what is
  where
    sleeps : (cause : Why) → r ≡ Step.Sleeping cause → Rests r
    sleeps cause e = subst Rests (sym e) (record { unmoved = λ e. cc e; runs = λ e. cc e; none = λ h a l. refl })

    lacks : r ≡ Step.NoMemory → Rests r
    lacks e = subst Rests (sym e) (record { unmoved = λ e. cc e; runs = λ e. cc e; none = λ h a l. refl })

    by_case : (what : Option OpClass) → IsNotTaken what l room r → Rests r
    by_case None is = subst Rests (sym is) (record { unmoved = λ e. cc e; runs = λ e. cc e; none = λ h a l. refl })
    by_case (Some OpClass.Refused) (inl full) = sleeps _ full.0
    by_case (Some OpClass.Refused) (inr none) = lacks none.0
    by_case (Some (OpClass.Look count)) (inl full) = sleeps _ full.0
    by_case (Some (OpClass.Look count)) (inr none) = lacks none.0
    by_case (Some OpClass.Change) (inl full) = sleeps _ full.0
    by_case (Some OpClass.Change) (inr (inl out)) = sleeps out.0 out.1
    by_case (Some OpClass.Change) (inr (inr none)) = lacks none.0.0

-- the other processes keep the steps of their tasks, and the log where they commit; reads give no
-- fewer groups
pub record LeavesOthers {D : Type 0} (image : D → Image) (p : ℕ) (s : StoreState D) (w : World) (t : StoreState D) : Type 0 where
  pub left : (q : ℕ) → q ≢ p → task_left image t q ≡ task_left image s q
  pub log : (q : ℕ) → q ≢ p → is_committing_at (process w q).at ≡ true → t.volume.log ≡ s.volume.log
  pub reads : in_reads s.volume.log ≤ in_reads t.volume.log

-- process p, which becomes u, has a step less left, or has begun with few; and it has some
abbrev pub HasFewer : {D : Type 0} → (D → Image) → Form → ℕ → StoreState D → World → StoreState D → Process → Type 0
HasFewer image form p s w t u =
    (is_busy_at (process w p).at ≡ true → all_steps_left u.at (task_left image t p) t.volume.log < all_steps_left (process w p).at (task_left image s p) s.volume.log)
    × (all_steps_left u.at (task_left image t p) t.volume.log < step_bound form)
    × (0 < all_steps_left u.at (task_left image t p) t.volume.log)

-- what an event of process p makes of store and processes
pub record Event {D : Type 0} (image : D → Image) (form : Form) (n : ℕ) (holds : Bool) (p : ℕ) (s : StoreState D) (w : World) (t : StoreState D) (z : World) (r : Step) : Type 0 where
  pub now : Process
  pub processes : z.processes ≡ set w.processes p now
  pub grows : Grows n s.volume w.journal.list t.volume z.journal.list
  pub committed : CountsCommitted holds r (process w p).at s.volume.log t.volume.log
  pub shut : w.is_shut ≡ true → z.is_shut ≡ true
  pub begun : z.is_shut ≡ true → now.begun ≡ (process w p).begun
  pub others : LeavesOthers image p s w t
  pub bound : r ≡ Step.Moved → HasFewer image form p s w t now

module _ {D N : Type 0} (disk : Ghosts D N) (opening : Image) (p : ℕ) (s t : StoreState D) (w z : World) (before : List Op) (side : Side) (told : Bool) where
  abbrev n : ℕ
  n = inode_count_of opening

  abbrev holds : Bool
  holds = disk.holding (disk.name s.volume.device)

  abbrev Made : Step → Type 0
  Made r = Event disk.image (form_of opening) n holds p s w t z r

  others_same : t ≡ s → LeavesOthers disk.image p s w t
  others_same is = record { left = λ q apart. ap (λ (o : StoreState D). task_left disk.image o q) is; log = λ q apart commits. ap (λ (o : StoreState D). o.volume.log) is; reads = let same = ap (λ (o : StoreState D). in_reads o.volume.log) is in omega (arith, same) }

  -- nothing happened, but that a shutdown may have been heard of
  rests : (r : Step) (b : Bool) → commits holds r (process w p).at s.volume.log ≡ false → r ≢ Step.Moved → t ≡ s → z ≡ record w { is_shut = b } → (w.is_shut ≡ true → b ≡ true) → Made r
  rests r b none unmoved is to shut = record {
    now = process w p;
    processes = ap (λ (o : World). o.processes) to ∙ sym (set-get_or w.processes p idle);
    grows = grows_none n s.volume t.volume w.journal.list z.journal.list (ap (λ (o : StoreState D). o.volume) is) (ap (λ (o : World). o.journal.list) to);
    committed = let same = ap (λ (o : StoreState D). o.volume.log.committed) is in rw none (omega (arith, same));
    shut = λ was. ap (λ (o : World). o.is_shut) to ∙ shut was;
    begun = λ is. refl;
    others = others_same is;
    bound = λ moved. absurd (unmoved moved);
  }

  module _ (is : IsWell disk.image opening s w p) where
    -- process p becomes u
    goes : (r : Step) (o : World) (u : Process) → z ≡ o → o.processes ≡ set w.processes p u → o.is_shut ≡ w.is_shut → (w.is_shut ≡ false) ⊎ (u.begun ≡ (process w p).begun)
        → JournalGoes n p (in_reads s.volume.log) w.journal.list o.journal.list → CountsCommitted holds r (process w p).at s.volume.log t.volume.log → LeavesOthers disk.image p s w t → (r ≡ Step.Moved → HasFewer disk.image (form_of opening) p s w t u) → Made r
    goes r o u to here shut begun journal counted others bound = record {
      now = u;
      processes = ap (λ (v : World). v.processes) to ∙ here;
      grows = grows_goes n p s.volume t.volume w.journal.list z.journal.list is.well (at_least (commits holds r (process w p).at s.volume.log) s.volume.log.committed t.volume.log.committed counted) others.reads
          (subst (λ (v : World). JournalGoes n p (in_reads s.volume.log) w.journal.list v.journal.list) (sym to) journal);
      committed = counted;
      shut = λ was. ap (λ (v : World). v.is_shut) to ∙ shut ∙ was;
      begun = λ now. ⊎_elim (λ free. absurd (false≢true (sym free ∙ sym shut ∙ sym (ap (λ (v : World). v.is_shut) to) ∙ now))) (λ same. same) begun;
      others = others;
      bound = bound;
    }

    -- it stays where it is
    stays : (r : Step) → z ≡ w → CountsCommitted holds r (process w p).at s.volume.log t.volume.log → LeavesOthers disk.image p s w t → (r ≡ Step.Moved → HasFewer disk.image (form_of opening) p s w t (process w p)) → Made r
    stays r to counted others bound = goes r w (process w p) to (sym (set-get_or w.processes p idle)) refl (inr refl) (inl refl) counted others bound

    -- what is counted where it stands
    counted_at : (a : Phase) (r : Step) → (process w p).at ≡ a → CountsCommitted holds r a s.volume.log t.volume.log → CountsCommitted holds r (process w p).at s.volume.log t.volume.log
    counted_at a r stands counted = subst (λ (b : Phase). CountsCommitted holds r b s.volume.log t.volume.log) (sym stands) counted

    -- from phase to phase
    fewer : (u : Process) (a b : Phase) → (process w p).at ≡ a → u.at ≡ b → all_steps_left b (task_left disk.image t p) t.volume.log < all_steps_left a (task_left disk.image s p) s.volume.log → 0 < all_steps_left b (task_left disk.image t p) t.volume.log → HasFewer disk.image (form_of opening) p s w t u
    fewer u a b stands to less some =
        let lt : all_steps_left u.at (task_left disk.image t p) t.volume.log < all_steps_left (process w p).at (task_left disk.image s p) s.volume.log
        = subst (λ (c : Phase). all_steps_left c (task_left disk.image t p) t.volume.log < all_steps_left (process w p).at (task_left disk.image s p) s.volume.log) (sym to)
        (subst (λ (c : Phase). all_steps_left b (task_left disk.image t p) t.volume.log < all_steps_left c (task_left disk.image s p) s.volume.log) (sym stands) less) in
        let most = few_steps disk.image opening s w p is.has is.looks is.numbers in
        ((λ busy. lt), omega (arith, lt, most), subst (λ (c : Phase). 0 < all_steps_left c (task_left disk.image t p) t.volume.log) (sym to) some)

    -- nobody commits while the log is quiet
    alone : is_quiet s.volume.log.commit ≡ true → (q : ℕ) → q ≢ p → is_committing_at (process w q).at ≡ true → t.volume.log ≡ s.volume.log
    alone quiet q apart commits = absurd (false≢true (sym (none_commits (ats_of w) s.volume.log is.has.alone quiet q) ∙ commits))

    -- who begins is alone to change its task
    begins_others : (o : StoreState D) (u : TaskState) → t ≡ o → o.tasks ≡ set s.tasks p u → o.table ≡ s.table → current_of disk.image o.volume ≡ current_of disk.image s.volume → ((q : ℕ) → q ≢ p → is_committing_at (process w q).at ≡ true → t.volume.log ≡ s.volume.log) → in_reads s.volume.log ≤ in_reads o.volume.log → LeavesOthers disk.image p s w t
    begins_others o u to tasks table current log reads = record {
      left = λ q apart. ap (λ (v : StoreState D). task_left disk.image v q) to
          ∙ ap (λ (x : TaskState). steps_left (current_of disk.image o.volume) x.stage o.table.inode_count) (ap (λ (ts : List TaskState). task ts q) tasks ∙ get_or-set_other s.tasks p q u no_task apart)
          ∙ ap (λ (v : TableState). steps_left (current_of disk.image o.volume) (task s.tasks q).stage v.inode_count) table
          ∙ ap (λ (x : Image). steps_left x (task s.tasks q).stage s.table.inode_count) current;
      log = log;
      reads = let same = ap (λ (v : StoreState D). in_reads v.volume.log) to in omega (arith, same, reads);
    }

    -- and has few steps to make
    begins_few : (o : StoreState D) (u : TaskState) (begun_now group : ℕ) (op : Op) (room : Option GatheredBytes) → t ≡ o → o.tasks ≡ set s.tasks p u → (process w p).at ≡ Phase.Idle → steps_left (current_of disk.image o.volume) u.stage o.table.inode_count ≤ most_behind (form_of opening) + 130 → HasFewer disk.image (form_of opening) p s w t (record { begun = begun_now; at = Phase.BeforeTurn group op; room = room })
    begins_few o u begun_now group op room to tasks stands few =
        let inside : p < length s.tasks = (let many = is.paired.many in let lt = is.inside in omega (arith, many, lt)) in
        let left : task_left disk.image t p ≡ steps_left (current_of disk.image o.volume) u.stage o.table.inode_count
        = ap (λ (v : StoreState D). task_left disk.image v p) to ∙ ap (λ (x : TaskState). steps_left (current_of disk.image o.volume) x.stage o.table.inode_count) (ap (λ (ts : List TaskState). task ts p) tasks ∙ get_or-set_same s.tasks p u no_task inside) in
        ((λ busy. absurd (false≢true (ap is_busy_at (sym stands) ∙ busy))), omega (arith, left, few, few_behind (form_of opening)), omega arith)

    -- what comes behind the turn included
    form_here : form_of (current_of disk.image s.volume) ≡ form_of opening
    form_here = form_now disk.image opening s w p is.has

    takes_few : most_behind (form_of (current_of disk.image s.volume)) ≡ most_behind (form_of opening)
    takes_few = ap most_behind form_here

    begins_there : (op : Op) → steps_left (current_of disk.image s.volume) (first_stage op s.table.inode_count) s.table.inode_count ≤ most_behind (form_of opening) + 130
    begins_there op = by_op op
      where
        by_op : (o : Op) → steps_left (current_of disk.image s.volume) (first_stage o s.table.inode_count) s.table.inode_count ≤ most_behind (form_of opening) + 130
        by_op (Create kind) = let few = is.few in let behind = most_elsewhere (form_of opening) in omega (arith, few, behind)
        by_op (Write i off bytes) = let few = takes_few in omega (arith, few)
        by_op (Read i off m) = let few = takes_few in omega (arith, few)
        by_op (Trunc i) = let few = takes_few in omega (arith, few)
        by_op (Remove i) = let few = takes_few in omega (arith, few)
        by_op (Stat i) = let few = takes_few in omega (arith, few)
        by_op (SetAttribute i a) = let few = takes_few in omega (arith, few)

    begins : (what : Option OpClass) (ahead : List Op) (r : Step) → (process w p).at ≡ Phase.Idle → w.is_shut ≡ false → BeginsWith what s w p ahead side r t z → Made r
    begins what ahead r stands free (inl made) =
        let same = ap (λ (o : StoreState D). o.volume.log.committed) made.store in
        subst Made (sym made.answer)
        (goes Step.Moved _ _ made.world refl refl (inl free) (inl refl) (counted_at Phase.Idle Step.Moved stands (omega (arith, same)))
        (begins_others (with_begun s p made.op) _ made.store refl refl refl (alone (ap is_quiet (let_in s.volume.log.commit _ s.volume.log.outstanding made.free).0)) (omega arith))
        (λ moved. begins_few (with_begun s p made.op) (record { op = Some made.op; stage = first_stage made.op s.table.inode_count; gathered = None }) ((process w p).begun + 1) (begun s.volume.log p).opened made.op None made.store refl stands (begins_there made.op)))
    begins what ahead r stands free (inr (inl made)) =
        let same = ap (λ (o : StoreState D). o.volume.log) made.store in
        let committed = ap (λ (l : LogState). l.committed) same in
        subst Made (sym made.answer)
        (goes Step.Moved _ _ made.world refl refl (inl free) (inl refl) (counted_at Phase.Idle Step.Moved stands (omega (arith, committed)))
        (begins_others (with_look s p made.op (room_for made.count)) _ made.store refl refl refl (λ q apart commits. same) (omega arith))
        (λ moved. begins_few (with_look s p made.op (room_for made.count)) (record { op = Some made.op; stage = Stage.Taking (record { number = asked made.op; at = LockAt.Reference }); gathered = room_for made.count }) ((process w p).begun + 1) 0 made.op (room_for made.count) made.store refl stands (let few = takes_few in omega (arith, few))))
    begins what ahead r stands free (inr (inr (inl made))) =
        let same = ap (λ (o : StoreState D). o.volume.log.committed) made.store in
        subst Made (sym made.answer)
        (goes Step.Answered _ _ made.world refl refl (inl free)
        (inr (inl (record { entry = refusal w p made.op (at_once_reply made.op); mine = refl; later = λ changing. absurd (false≢true (sym (at_once_still n made.op (subst (λ (c : ℕ). is_at_once c made.op ≡ true) is.count (refused_at_once s.table.inode_count made.op made.taken.1))) ∙ changing)); list = refl })))
        (counted_at Phase.Idle Step.Answered stands (omega (arith, same))) (others_same made.store) (λ moved. absurd (cc moved)))
    begins what ahead r stands free (inr (inr (inr made))) =
        let waits = not_taken what s.volume.log side.has_room r made.answer in
        rests r w.is_shut (waits.none holds (process w p).at s.volume.log) waits.unmoved made.same.0 made.same.1 (λ shut. shut)

    -- a task that is not over ends its step so
    stops : (op : Op) → (task s.tasks p).op ≡ Some op → is_over (task s.tasks p).stage ≡ false → (q : TaskProgress) → Steps disk s p op q t → StepEnds s.table.inode_count (task s.tasks p).stage op q (task t.tasks p).stage
    stops op same more q done = ends_of disk s p op q t (task s.tasks p).stage same (is.agrees.stands p) (is.looks.stand p) more done.goes

    -- it is open in the log, where nobody commits then, or leaves the log
    others_of : (op : Op) → is_over (task s.tasks p).stage ≡ false → (q : TaskProgress) → Steps disk s p op q t → LeavesOthers disk.image p s w t
    others_of op more q done = record {
      left = λ other apart. ap (λ (m : ℕ). steps_left (current_of disk.image t.volume) (task t.tasks other).stage m) done.tasks.numbers
          ∙ others_left disk s p op q t is.looks is.numbers done other apart;
      log = ⊎_elim (λ used. alone (quiet_if_open s.volume.log p (log_of disk.image opening s w p is) used)) (λ same q apart commits. same) (logs_of disk s p op q t (task s.tasks p).stage more (is.agrees.stands p) done.goes);
      reads = let same = done.groups.committed in reads_up s.volume.log t.volume.log (omega (arith, same)) (inl done.groups.commit);
    }

    falls_here : (op : Op) → is_over (task s.tasks p).stage ≡ false → (q : TaskProgress) → is_made q ≡ true → Steps disk s p op q t → task_left disk.image t p < task_left disk.image s p
    falls_here op more q made done = subst (λ (m : ℕ). steps_left (current_of disk.image t.volume) (task t.tasks p).stage m < task_left disk.image s p) (sym done.tasks.numbers) (done.falls made more)

    works : (group : ℕ) (op : Op) (r : Step) → (process w p).at ≡ Phase.BeforeTurn group op → Works disk s w p op r t z → Made r
    works group op r stands made = subst Made (sym made.answer) (by_progress made.progress made.steps made.world)
      where
        there : ((task s.tasks p).op ≡ Some op) × (is_over (task s.tasks p).stage ≡ false)
        there = before_there disk.image opening s w p is group op stands

        behind : (b : Bool) (left k : ℕ) → (all_steps_left (phase_behind b group k) left t.volume.log ≤ left + 67) × (0 < all_steps_left (phase_behind b group k) left t.volume.log)
        behind true left k = (omega arith, omega arith)
        behind false left k = (omega arith, omega arith)

        by_progress : (q : TaskProgress) → Steps disk s p op q t → z ≡ world_after q (is_over (task t.tasks p).stage) w p → Made (step_of q)
        by_progress TaskProgress.Moved done to =
            let same = done.groups.committed in
            let less = falls_here op there.1 TaskProgress.Moved refl done in
            stays Step.Moved to (counted_at (Phase.BeforeTurn group op) Step.Moved stands (omega (arith, same))) (others_of op there.1 TaskProgress.Moved done)
            (λ moved. fewer (process w p) (Phase.BeforeTurn group op) (Phase.BeforeTurn group op) stands stands (omega (arith, less)) (omega arith))
        by_progress (TaskProgress.Turned reply) done to =
            let over : Bool = is_over (task t.tasks p).stage in
            let k = length w.journal.list in
            let now : turned w p reply over ≡ turned_from (Phase.BeforeTurn group op) w p reply over = ap (λ (a : Phase). turned_from a w p reply over) stands in
            let less = falls_here op there.1 (TaskProgress.Turned reply) refl done in
            let left = behind over (task_left disk.image t p) k in
            goes Step.Moved (turned_from (Phase.BeforeTurn group op) w p reply over) (record (process w p) { at = phase_behind over group k }) (to ∙ now) refl refl (inr refl)
            (inr (inl (record { entry = entry_of p (process w p).begun op group reply; mine = refl; later = later_before disk.image opening s w p is group op stands; list = refl })))
            (counted_at (Phase.BeforeTurn group op) Step.Moved stands (omega (arith, done.groups.committed))) (others_of op there.1 (TaskProgress.Turned reply) done)
            (λ moved. fewer (record (process w p) { at = phase_behind over group k }) (Phase.BeforeTurn group op) (phase_behind over group k) stands refl (omega (arith, less, left.0)) left.1)
        by_progress (TaskProgress.Decided reply) done to = absurd (unread (stops op there.0 there.1 (TaskProgress.Decided reply) done).0)
          where
            unread : owes_reply (task s.tasks p).stage ≡ true → ⊥
            unread reads = false≢true (sym (unturned_unread (task s.tasks p).stage (unturned_before disk.image opening s w p is group op stands)) ∙ reads)
        by_progress TaskProgress.Over done to = absurd (false≢true (sym (stops op there.0 there.1 TaskProgress.Over done).0 ∙ unturned_before disk.image opening s w p is group op stands))
        by_progress (TaskProgress.Sleeping cause) done to =
            let same = done.groups.committed in stays (Step.Sleeping cause) to (omega (arith, same)) (others_of op there.1 (TaskProgress.Sleeping cause) done) (λ moved. absurd (cc moved))
        by_progress (TaskProgress.Fault fault) done to =
            let same = done.groups.committed in stays Step.Halted to (omega (arith, same)) (others_of op there.1 (TaskProgress.Fault fault) done) (λ moved. absurd (cc moved))

    finishes : (group k : ℕ) (r : Step) → (process w p).at ≡ Phase.AfterTurn group k → Finishes disk s w p group k r t z → Made r
    finishes group k r stands made = subst Made (sym made.answer) (by_progress made.progress made.steps made.world)
      where
        op : Op
        op = (entry_in w.journal.list k).op

        there : (e : Entry) × HasEntry w.journal.list p k group e × IsBehind (task s.tasks p) e
        there = behind_there disk.image opening s w p is group k stands

        inside : entry_in w.journal.list k ≡ there.0
        inside = entry_inside w.journal.list k there.0 there.1.at

        same_op : (task s.tasks p).op ≡ Some op
        same_op = there.2.same ∙ ap (λ (e : Entry). Some e.op) (sym inside)

        more : is_over (task s.tasks p).stage ≡ false
        more = there.2.unfinished

        counted : (q : TaskProgress) → Steps disk s p op q t → t.volume.log.committed ≡ s.volume.log.committed
        counted q done = done.groups.committed

        -- its entry is told its reply
        tells : (reply : Reply) → Steps disk s p op (TaskProgress.Decided reply) t → IsTold n p (in_reads s.volume.log) w.journal.list (set w.journal.list k (Rattle.history.specs.Open.told (entry_in w.journal.list k) reply))
        tells reply done =
            record {
              index = k;
              entry = there.0;
              reply = reply;
              at = there.1.at;
              mine = there.1.mine;
              none = reply_missing there.0.reply (sym there.2.reply ∙ ((stops op same_op more (TaskProgress.Decided reply) done).0));
              later = later_behind disk.image opening s w p is group k there.0 stands there.1.at;
              list = ap (λ (e : Entry). set w.journal.list k (Rattle.history.specs.Open.told e reply)) inside;
            }

        by_progress : (q : TaskProgress) → Steps disk s p op q t → z ≡ world_behind group q w p → Made (step_behind group q)
        by_progress TaskProgress.Moved done to =
            let same = done.groups.committed in
            let less = falls_here op more TaskProgress.Moved refl done in
            stays Step.Moved to (counted_at (Phase.AfterTurn group k) Step.Moved stands (omega (arith, same))) (others_of op more TaskProgress.Moved done)
            (λ moved. fewer (process w p) (Phase.AfterTurn group k) (Phase.AfterTurn group k) stands stands (omega (arith, less)) (omega arith))
        by_progress (TaskProgress.Turned reply) done to = absurd (false≢true (sym there.2.turned ∙ (stops op same_op more (TaskProgress.Turned reply) done).0))
        by_progress (TaskProgress.Decided reply) done to = by_group group stands to
          where
            by_group : (g : ℕ) → (process w p).at ≡ Phase.AfterTurn g k → z ≡ world_of_told g w p reply → Made (step_of_told g)
            by_group zero at_behind to =
                let same = done.groups.committed in
                let now : answered (decided w p reply) p ≡ answered (told_at (Some k) w reply) p = ap (λ (a : Phase). answered (told_at (entry_index a) w reply) p) at_behind in
                goes Step.Answered (answered (told_at (Some k) w reply) p) (record (process w p) { at = Phase.Idle; room = None }) (to ∙ now) refl refl (inr refl) (inr (inr (tells reply done)))
                (counted_at (Phase.AfterTurn zero k) Step.Answered at_behind (omega (arith, same))) (others_of op more (TaskProgress.Decided reply) done) (λ moved. absurd (cc moved))
            by_group (suc g) at_behind to =
                let less = falls_here op more (TaskProgress.Decided reply) refl done in
                let now : decided w p reply ≡ told_at (Some k) w reply = ap (λ (a : Phase). told_at (entry_index a) w reply) at_behind in
                goes Step.Moved (told_at (Some k) w reply) (process w p) (to ∙ now) (sym (set-get_or w.processes p idle)) refl (inr refl) (inr (inr (tells reply done)))
                (counted_at (Phase.AfterTurn (suc g) k) Step.Moved at_behind (omega (arith, done.groups.committed))) (others_of op more (TaskProgress.Decided reply) done)
                (λ moved. fewer (process w p) (Phase.AfterTurn (suc g) k) (Phase.AfterTurn (suc g) k) at_behind at_behind (omega (arith, less)) (omega arith))
        by_progress TaskProgress.Over done to = by_group group stands to
          where
            by_group : (g : ℕ) → (process w p).at ≡ Phase.AfterTurn g k → z ≡ world_of_last g w p → Made (step_of_last g)
            by_group zero at_behind to =
                let same = done.groups.committed in
                goes Step.Answered (answered w p) (record (process w p) { at = Phase.Idle; room = None }) to refl refl (inr refl) (inl refl)
                (counted_at (Phase.AfterTurn zero k) Step.Answered at_behind (omega (arith, same))) (others_of op more TaskProgress.Over done) (λ moved. absurd (cc moved))
            by_group (suc g) at_behind to =
                let less = falls_here op more TaskProgress.Over refl done in
                let now : goes_to_end w p ≡ at_phase w p (Phase.Ending (suc g) k) = ap (λ (a : Phase). at_phase w p (over_at a)) at_behind in
                goes Step.Moved (at_phase w p (Phase.Ending (suc g) k)) (record (process w p) { at = Phase.Ending (suc g) k }) (to ∙ now) refl refl (inr refl) (inl refl)
                (counted_at (Phase.AfterTurn (suc g) k) Step.Moved at_behind (omega (arith, done.groups.committed))) (others_of op more TaskProgress.Over done)
                (λ moved. fewer (record (process w p) { at = Phase.Ending (suc g) k }) (Phase.AfterTurn (suc g) k) (Phase.Ending (suc g) k) at_behind refl (omega (arith, less)) (omega arith))
        by_progress (TaskProgress.Sleeping cause) done to =
            let same = done.groups.committed in stays (Step.Sleeping cause) to (omega (arith, same)) (others_of op more (TaskProgress.Sleeping cause) done) (λ moved. absurd (cc moved))
        by_progress (TaskProgress.Fault fault) done to =
            let same = done.groups.committed in stays Step.Halted to (omega (arith, same)) (others_of op more (TaskProgress.Fault fault) done) (λ moved. absurd (cc moved))

    ends : (group k : ℕ) (r : Step) → (process w p).at ≡ Phase.Ending group k → Ends s w p r t z → Made r
    ends group k r stands made = subst Made (sym made.answer) (by_answer (end_answer s.volume.log) refl made.world)
      where
        used : IsSome (used_by s.volume.log p)
        used = (stands_at disk.image opening s w p is (Phase.Ending group k) stands).1.0

        log : t.volume.log ≡ ended s.volume.log p
        log = ap (λ (o : StoreState D). o.volume.log) made.store

        counted : CountsCommitted holds Step.Moved (Phase.Ending group k) s.volume.log t.volume.log
        counted = ap (λ (l : LogState). l.committed) log ∙ ended_count s.volume.log p (open_of s.volume.log p (log_of disk.image opening s w p is) used)

        others : LeavesOthers disk.image p s w t
        others = record {
          left = λ q apart. ap (λ (o : StoreState D). task_left disk.image o q) made.store;
          log = alone (quiet_if_open s.volume.log p (log_of disk.image opening s w p is) used);
          reads = reads_up s.volume.log t.volume.log (at_least _ s.volume.log.committed t.volume.log.committed counted) (inr (open_of s.volume.log p (log_of disk.image opening s w p is) used).quiet);
        }

        by_answer : (e : Ended) → end_answer s.volume.log ≡ e → z ≡ world_ended e w p → Made (step_of_end e)
        by_answer Ended.Commit e to =
            let few = few_homes (log_of disk.image opening s w p is) in
            let left : writes_left t.volume.log.commit (length t.volume.log.homes) ≡ (length s.volume.log.homes - 0) + 1 + 2 + (length s.volume.log.homes + 1) + 2
            = ap (λ (l : LogState). writes_left l.commit (length l.homes)) (log ∙ commits_now s.volume.log p e) in
            goes Step.Moved (committing w p) (record (process w p) { at = committing_at (process w p).at }) to refl refl (inr refl) (inl refl) (counted_at (Phase.Ending group k) Step.Moved stands counted) others
            (λ moved. fewer (record (process w p) { at = committing_at (process w p).at }) (Phase.Ending group k) (Phase.Committing group k) stands (ap committing_at stands) (omega (arith, left, few)) (omega (arith, left)))
        by_answer Ended.Left e to =
            goes Step.Answered (answered w p) (record (process w p) { at = Phase.Idle; room = None }) to refl refl (inr refl) (inl refl) (counted_at (Phase.Ending group k) Step.Answered stands counted) others (λ moved. absurd (cc moved))

    writes : (group k : ℕ) (r : Step) → (process w p).at ≡ Phase.Committing group k → Writes disk s w p r t z → Made r
    writes group k r stands made = subst Made (sym made.answer) (by_result made.result made.commits made.world)
      where
        log : LogState
        log = s.volume.log

        counted : t.volume.log ≡ stepped_at holds log.commit log → CountsCommitted holds Step.Moved (Phase.Committing group k) log t.volume.log
        counted made = ap (λ (l : LogState). l.committed) made ∙ stepped_count holds log.commit log (log_of disk.image opening s w p is).counts

        reads_on : (t.volume.log ≡ stepped_at holds log.commit log) ⊎ (t.volume.log ≡ log) → in_reads log ≤ in_reads t.volume.log
        reads_on (inl made) = subst (λ (l : LogState). in_reads log ≤ in_reads l) (sym made) (reads_written holds log.commit log (log_of disk.image opening s w p is).counts)
        reads_on (inr same) = let kept = ap in_reads same in omega (arith, kept)

        makes : (q : Committed) → fault_of_step q ≡ None → Commits disk s q t → CommitMakes disk s.volume.device s.volume.buffers log q t.volume.device t.volume.buffers t.volume.log
        makes q well done = commit_makes disk s.volume.device s.volume.buffers log t.volume.device t.volume.buffers t.volume.log q well done.volume.write

        -- one commits at most
        others : (q : Committed) → Commits disk s q t → LeavesOthers disk.image p s w t
        others q done = record {
          left = λ q apart. ap (λ (ts : List TaskState). steps_left (current_of disk.image t.volume) (task ts q).stage t.table.inode_count) done.tasks
              ∙ ap (λ (o : TableState). steps_left (current_of disk.image t.volume) (task s.tasks q).stage o.inode_count) done.table
              ∙ left_outside (current_of disk.image s.volume) s.table s.tasks is.looks is.numbers (current_of disk.image t.volume) q done.volume.current;
          log = λ q apart other. absurd (apart (is.has.alone.sole q p other (ap is_committing_at stands)));
          reads = reads_on (commit_log disk s.volume.device s.volume.buffers log t.volume.device t.volume.buffers t.volume.log q done.volume.write);
        }

        more : (q : Committed) → fault_of_step q ≡ None → Commits disk s q t → (q ≡ Committed.Done → ⊥) → z ≡ w → Made Step.Moved
        more q well done further to =
            let made = makes q well done in
            let busy = is.has.alone.busy p (ap is_committing_at stands) in
            let going = goes_on holds log.commit log log.opened busy (λ over. further (sym made.answer ∙ over)) in
            let less = writes_fall holds log.commit log (log_of disk.image opening s w p is).idle busy going in
            stays Step.Moved to (counted_at (Phase.Committing group k) Step.Moved stands (counted made.log)) (others q done)
            (λ moved. fewer (process w p) (Phase.Committing group k) (Phase.Committing group k) stands stands
            (subst (λ (l : LogState). writes_left l.commit (length l.homes) < writes_left log.commit (length log.homes)) (sym made.log) less)
            (subst (λ (l : LogState). 0 < writes_left l.commit (length l.homes)) (sym made.log) (some_write _ _ going)))

        by_result : (q : Committed) → Commits disk s q t → z ≡ world_written q w p → Made (step_of_write q)
        by_result Committed.More done to = more Committed.More refl done (λ over. cc over) to
        by_result (Committed.Durable g) done to = more (Committed.Durable g) refl done (λ over. cc over) to
        by_result Committed.Done done to =
            goes Step.Answered (answered w p) (record (process w p) { at = Phase.Idle; room = None }) to refl refl (inr refl) (inl refl) (counted_at (Phase.Committing group k) Step.Answered stands (counted (makes Committed.Done refl done).log)) (others Committed.Done done) (λ moved. absurd (cc moved))
        by_result (Committed.Fault fault) done to =
            let same = ap (λ (l : LogState). l.committed) (commit_fails disk s.volume.device s.volume.buffers log t.volume.device t.volume.buffers t.volume.log fault (Committed.Fault fault) refl done.volume.write).1 in
            stays Step.Halted to (omega (arith, same)) (others (Committed.Fault fault) done) (λ moved. absurd (cc moved))

    event_at : (r : Step) (a : Phase) → (process w p).at ≡ a → NextAt disk a s w p before side told r t z → Made r
    event_at r Phase.Idle stands (inl heard) = subst Made (sym heard.answer) (rests Step.ShutDown true refl (λ e. cc e) heard.store heard.world (λ shut. refl))
    event_at r Phase.Idle stands (inr rest) = begins (option_map (class_of s.table.inode_count) (first_in rest.ahead)) rest.ahead r stands rest.unshut rest.begins
    event_at r (Phase.BeforeTurn group op) stands made = works group op r stands made
    event_at r (Phase.AfterTurn group k) stands made = finishes group k r stands made
    event_at r (Phase.Ending group k) stands made = ends group k r stands made
    event_at r (Phase.Committing group k) stands made = writes group k r stands made

  -- what each step of a process is, also after a fault
  pub event_of : (r : Step) → (s.volume.fault ≡ None → IsWell disk.image opening s w p) → NextIf disk s.volume.fault s w p before side told r t z → Made r
  event_of r well made = by_fault s.volume.fault refl made
    where
      by_fault : (o : Option DeviceFault) → s.volume.fault ≡ o → NextIf disk o s w p before side told r t z → Made r
      by_fault None is next = event_at (well is) r (process w p).at refl next
      by_fault (Some fault) is next = subst Made (sym next.0) (rests Step.Halted w.is_shut refl (λ e. cc e) next.1.0 next.1.1 (λ shut. shut))
