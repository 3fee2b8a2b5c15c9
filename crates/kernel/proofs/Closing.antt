-- What is true of store and processes stays so where an operation ends in the log, and with each write of a commit.
use Rattle.std.proofs.Common.{◌≡◌, ◌≢◌, ℕ, ◌<◌, true, false, List, length, set, refl, sym, ◌∙◌, ap, subst, arith, ◌⊎◌, ⊎_elim, inl, inr, Option, Some, None}
use Rattle.kernel.specs.Common.{alone_done, alone_end_commits, alone_end_leaves, alone_written, answered, ats_of, Commit, commit_kinds, Commits, CommitsAlone, CommitSyncs, Committed, committing, committing_at, CommitWrites, counted_same, DeviceFault, end_answer, Ended, ended, ended_opened, Entries, false≢true, fault_of_step, faults_after, GatheredBytes, Ghosts, group_there, HasFacts, idle, Image, inode_count_of, inv_end_commits, inv_end_leaves, inv_written, is_before, is_busy_at, is_committing_at, is_lawful_log, is_quiet, is_writing, IsItsRoom, IsPaired, IsRight, IsStore, IsValidView, Joint, JointAt, KeepsFiles, KernelFacts, known_failed, known_keeps, LogState, nil_from_length, one_more, open_of, others_stay, Part, Phase, Process, process, quiet_is_current, recovered, SameOpen, seen, set-get_or, StandsAt, stepped_same, StoreState, TableState, task, TaskStands, TaskState, there_now, view_of, where_none, with_log, World, Writes}
use Rattle.wal.specs.Floats.{Survives as SurvivesAt}
use Rattle.kernel.proofs.Committing.{holds_back, writes_of}
use Rattle.kernel.proofs.LogCalls.{logs_ended}
use Rattle.kernel.proofs.Valid.{HasAgreed, valid_joint}
use Rattle.kernel.proofs.Pairing.{paired_goes, keeps_behind}
use Rattle.kernel.proofs.Lasting.{lasts_unwritten}
use Rattle.kernel.proofs.Right.{right_well, right_failed}

-- process p goes from one phase to another behind its turn, and nothing else of the processes changes
pub record GoesTo (w z : World) (p : ℕ) (a b : Phase) : Type 0 where
  pub stands : (process w p).at ≡ a
  pub was : is_before a ≡ false
  pub behind : is_before b ≡ false
  pub kept : Option GatheredBytes
  pub keeps : is_busy_at b ≡ true → (is_busy_at a ≡ true) × (kept ≡ (process w p).room)
  pub processes : z.processes ≡ set w.processes p (record (process w p) { at = b; room = kept })
  pub journal : z.journal ≡ w.journal

-- the operation is answered, or goes on to its group's commit
pub goes_answered : (w : World) (p : ℕ) (a : Phase) → (process w p).at ≡ a → is_before a ≡ false → GoesTo w (answered w p) p a Phase.Idle
goes_answered w p a stands was = record { stands = stands; was = was; behind = refl; kept = None; keeps = λ busy. absurd (false≢true busy); processes = refl; journal = refl }

pub goes_committing : (w : World) (p group k : ℕ) → (process w p).at ≡ Phase.Ending group k → GoesTo w (committing w p) p (Phase.Ending group k) (Phase.Committing group k)
goes_committing w p group k stands = record {
  stands = stands;
  was = refl;
  behind = refl;
  kept = (process w p).room;
  keeps = λ busy. (refl, refl);
  processes = ap (λ (a : Phase). set w.processes p (record (process w p) { at = committing_at a })) stands;
  journal = refl;
}

module _ {D N : Type 0} (disk : Ghosts D N) (opening : D) (s : StoreState D) (w : World) (right : IsRight disk opening s w) (well : s.volume.fault ≡ None) (p : ℕ) (lt : p < length w.processes) where
  abbrev n : ℕ
  n = inode_count_of (disk.image opening)

  had : HasFacts disk.image (disk.image opening) s w
  had = where_none _ well right.facts

  faults_well : disk.fault_count s.volume.device ≡ disk.fault_count opening
  faults_well = right.faults ∙ ap (λ (o : Option DeviceFault). faults_after o (disk.fault_count opening)) well

  inside : p < length s.volume.log.used
  inside = let few = right.paired.few in let pids = had.facts.valid.log.pids in omega (arith, lt, few, pids)

  module _ (t : StoreState D) (tasks : t.tasks ≡ s.tasks) (numbers : t.table.inode_count ≡ s.table.inode_count) (well_now : t.volume.fault ≡ None) (opened : t.volume.log.opened ≡ s.volume.log.opened)
      (counts : disk.fault_count t.volume.device ≡ disk.fault_count s.volume.device) (z : World) (a b : Phase) (g : GoesTo w z p a b) where
    others : (q : ℕ) → q ≢ p → ats_of z q ≡ ats_of w q
    others q apart = ap (λ (r : Process). r.at) (others_stay w z p (record (process w p) { at = b; room = g.kept }) g.processes q apart)

    now : ats_of z p ≡ b
    now = ap (λ (r : Process). r.at) (there_now w z p (record (process w p) { at = b; room = g.kept }) g.processes lt)

    -- so all is right where the facts are
    goes_right : (TaskStands w.journal.list (task s.tasks p) a → TaskStands z.journal.list (task s.tasks p) b) → KernelFacts (disk.image opening) (view_of disk.image t) w.journal.list (ats_of z) → CommitsAlone (ats_of z) t.volume.log → IsRight disk opening t z
    goes_right finished facts alone =
        let had_task : IsPaired w.journal.list (task s.tasks p) a (process w p).room = subst (λ (c : Phase). IsPaired w.journal.list (task s.tasks p) c (process w p).room) g.stands (right.paired.stand p) in
        right_well disk opening t z well_now (numbers ∙ right.numbers)
        (paired_goes s t w z p (record (process w p) { at = b; room = g.kept }) right.paired lt g.processes (ap (λ (l : List TaskState). length l) tasks) (λ q apart. ap (λ (l : List TaskState). task l q) tasks) (keeps_behind w z p (ap (λ (j : Entries). j.list) g.journal))
        (subst (λ (l : List TaskState). IsPaired z.journal.list (task l p) b g.kept) (sym tasks) (record {
          stands = finished had_task.stands;
          room_is = λ busy. let kept = g.keeps busy in subst (λ (o : Option GatheredBytes). IsItsRoom (task s.tasks p).op o) (sym kept.1) (had_task.room_is kept.0);
        })))
        (counted_same s.volume.log.opened p w right.counted lt t.volume.log.opened z b g.kept (ap is_before g.stands ∙ g.was) g.behind g.processes (ap (λ (j : Entries). length j.list) g.journal) (ap (λ (j : Entries). j.room) g.journal) opened)
        (record { facts = subst (λ (j : Entries). KernelFacts (disk.image opening) (view_of disk.image t) j.list (ats_of z)) (sym g.journal) facts; alone = alone })
        (counts ∙ faults_well)

  module _ (group k : ℕ) (stands : (process w p).at ≡ Phase.Ending group k) (agreed : HasAgreed disk.image (with_log s (ended s.volume.log p))) (before : Joint (disk.image s.volume.device) s.volume.buffers s.volume.log)
      (keeps : KeepsFiles disk.image s (with_log s (ended s.volume.log p))) where
    abbrev t : StoreState D
    t = with_log s (ended s.volume.log p)

    stood : StandsAt n (view_of disk.image s) w.journal.list p (Phase.Ending group k)
    stood = subst (λ (a : Phase). StandsAt n (view_of disk.image s) w.journal.list p a) stands (had.facts.stands p)

    valid : IsValidView n (view_of disk.image t)
    valid = valid_joint disk.image t n right.numbers agreed

    opened_same : t.volume.log.opened ≡ s.volume.log.opened
    opened_same = ended_opened s.volume.log p

    -- it was the last of its group, and commits it
    pub right_closed : end_answer s.volume.log ≡ Ended.Commit → IsRight disk opening t (committing w p)
    right_closed answer =
        goes_right t refl refl well opened_same refl (committing w p) (Phase.Ending group k) (Phase.Committing group k) g (λ over. (over, group_there n p group k (view_of disk.image s) w.journal.list had.facts.valid.log stood))
        (inv_end_commits (disk.image opening) (view_of disk.image s) (view_of disk.image t) w.journal.list (ats_of w) had.facts valid p (ats_of (committing w p)) others_at group k stood.2.0 stands
        (logs_ended disk.image s t p keeps refl) inside answer at_p)
        (alone_end_commits (ats_of w) (ats_of (committing w p)) s.volume.log had.alone p others_at had.facts.valid.log stood.1.0 answer (ap is_committing_at at_p))
      where
        g : GoesTo w (committing w p) p (Phase.Ending group k) (Phase.Committing group k)
        g = goes_committing w p group k stands

        at_p : ats_of (committing w p) p ≡ Phase.Committing group k
        at_p = now t refl refl well opened_same refl (committing w p) (Phase.Ending group k) (Phase.Committing group k) g

        others_at : (q : ℕ) → q ≢ p → ats_of (committing w p) q ≡ ats_of w q
        others_at = others t refl refl well opened_same refl (committing w p) (Phase.Ending group k) (Phase.Committing group k) g

    -- it is answered: others of its group go on, or the group had no homes
    pub right_left : end_answer s.volume.log ≡ Ended.Left → IsRight disk opening t (answered w p)
    right_left answer =
        goes_right t refl refl well opened_same refl (answered w p) (Phase.Ending group k) Phase.Idle g (λ over. over)
        (inv_end_leaves (disk.image opening) (view_of disk.image s) (view_of disk.image t) w.journal.list (ats_of w) had.facts valid p (ats_of (answered w p)) others_at group k stood.2.0 stands
        (logs_ended disk.image s t p keeps refl) inside answer shown at_p)
        (alone_end_leaves (ats_of w) (ats_of (answered w p)) s.volume.log had.alone p others_at had.facts.valid.log stood.1.0 answer (ap is_committing_at at_p))
      where
        g : GoesTo w (answered w p) p (Phase.Ending group k) Phase.Idle
        g = goes_answered w p (Phase.Ending group k) stands refl

        at_p : ats_of (answered w p) p ≡ Phase.Idle
        at_p = now t refl refl well opened_same refl (answered w p) (Phase.Ending group k) Phase.Idle g

        others_at : (q : ℕ) → q ≢ p → ats_of (answered w p) q ≡ ats_of w q
        others_at = others t refl refl well opened_same refl (answered w p) (Phase.Ending group k) Phase.Idle g

        -- the log was quiet, without homes: recovery gives the current image
        shown : length s.volume.log.homes ≡ 0 → recovered (disk.image s.volume.device) ≡ seen (disk.image s.volume.device) s.volume.buffers
        shown none = quiet_is_current (disk.image s.volume.device) s.volume.buffers s.volume.log
            (subst (λ (c : Commit). JointAt c (disk.image s.volume.device) s.volume.buffers s.volume.log) (open_of s.volume.log p had.facts.valid.log stood.1.0).quiet before) (nil_from_length s.volume.log.homes none)

  module _ (group k : ℕ) (stands : (process w p).at ≡ Phase.Committing group k) (t : StoreState D) (r : Committed) (made : Commits disk s r t) (has_now : (d : D) → disk.leaves d (disk.moment d) (disk.image d))
      (before : Joint (disk.image s.volume.device) s.volume.buffers s.volume.log) where
    alone_here : is_committing_at (ats_of w p) ≡ true
    alone_here = ap is_committing_at stands

    numbers_now : t.table.inode_count ≡ s.table.inode_count
    numbers_now = ap (λ (o : TableState). o.inode_count) made.table

    none_open : s.volume.log.outstanding ≡ 0
    none_open = had.alone.none_open p alone_here

    -- the step is a write, or a sync
    abbrev IsWrite : Committed → Type 0
    IsWrite q = CommitWrites disk s.volume.device s.volume.buffers s.volume.log q t.volume.device t.volume.buffers t.volume.log

    abbrev IsSync : Part → Committed → Type 0
    IsSync part q = CommitSyncs disk part s.volume.device s.volume.buffers s.volume.log q t.volume.device t.volume.buffers t.volume.log

    kinds : ((is_writing s.volume.log.commit ≡ true) × IsWrite r) ⊎ ((part : Part) × (s.volume.log.commit ≡ Commit.Syncing part) × IsSync part r)
    kinds = commit_kinds disk s.volume.log.commit s.volume.device s.volume.buffers s.volume.log r t.volume.device t.volume.buffers t.volume.log made.volume.write

    module _ (agreed : HasAgreed disk.image t) (well_now : t.volume.fault ≡ None) where
      valid_now : IsValidView n (view_of disk.image t)
      valid_now = valid_joint disk.image t n (numbers_now ∙ right.numbers) agreed

      fine : fault_of_step r ≡ None
      fine = sym made.volume.fault ∙ well_now

      lawful_now : is_lawful_log (disk.image t.volume.device) ≡ true
      lawful_now = ⊎_elim
          (λ (wr : (is_writing s.volume.log.commit ≡ true) × IsWrite r). wr.1.lawful (disk.image t.volume.device) (has_now t.volume.device))
          (λ (sy : (part : Part) × (s.volume.log.commit ≡ Commit.Syncing part) × IsSync part r). ap is_lawful_log sy.2.image ∙ had.facts.recovers.lawful)
          kinds

      wrote : Writes (holds_back disk s t) (view_of disk.image s) (view_of disk.image t)
      wrote = writes_of disk s t r fine before lawful_now made

      same_open : SameOpen s.volume.log t.volume.log
      same_open = subst (SameOpen s.volume.log) (sym wrote.log) (stepped_same (holds_back disk s t) s.volume.log.commit s.volume.log)

      facts_now : (new : ℕ → Phase) → ((q : ℕ) → q ≢ p → new q ≡ ats_of w q) → (new p ≡ Phase.Committing group k) ⊎ (new p ≡ Phase.Idle) → KernelFacts (disk.image opening) (view_of disk.image t) w.journal.list new
      facts_now new others_at now = inv_written (disk.image opening) (view_of disk.image s) (view_of disk.image t) w.journal.list (ats_of w) had.facts valid_now p new others_at (holds_back disk s t) group k wrote stands none_open now

      -- a step is made, and more are to come
      pub right_written : is_quiet t.volume.log.commit ≡ false → disk.fault_count t.volume.device ≡ disk.fault_count s.volume.device → IsRight disk opening t w
      right_written more counts =
          let g : GoesTo w w p (Phase.Committing group k) (Phase.Committing group k) = record { stands = stands; was = refl; behind = refl; kept = (process w p).room; keeps = λ busy. (refl, refl); processes = sym (set-get_or w.processes p idle) ∙ ap (λ (a : Phase). set w.processes p (record (process w p) { at = a })) stands; journal = refl } in
          goes_right t made.tasks numbers_now well_now same_open.opened counts w (Phase.Committing group k) (Phase.Committing group k) g (λ over. over) (facts_now (ats_of w) (λ q apart. refl) (inl stands))
          (alone_written (ats_of w) (ats_of w) s.volume.log had.alone p (λ q apart. refl) t.volume.log same_open.outstanding alone_here alone_here more)

      -- the last step is made, and the operation is answered
      pub right_done : is_quiet t.volume.log.commit ≡ true → disk.fault_count t.volume.device ≡ disk.fault_count s.volume.device → IsRight disk opening t (answered w p)
      right_done last counts =
          let g = goes_answered w p (Phase.Committing group k) stands refl in
          let at_p = now t made.tasks numbers_now well_now same_open.opened counts (answered w p) (Phase.Committing group k) Phase.Idle g in
          let others_at = others t made.tasks numbers_now well_now same_open.opened counts (answered w p) (Phase.Committing group k) Phase.Idle g in
          goes_right t made.tasks numbers_now well_now same_open.opened counts (answered w p) (Phase.Committing group k) Phase.Idle g (λ st. st.0) (facts_now (ats_of (answered w p)) others_at (inr at_p))
          (alone_done (ats_of w) (ats_of (answered w p)) s.volume.log had.alone p others_at t.volume.log alone_here (ap is_committing_at at_p) last)

    -- the step failed
    pub right_unwritten : IsStore disk.image s → (fault : DeviceFault) → r ≡ Committed.Fault fault → ((x : Image) → disk.leaves s.volume.device (disk.moment s.volume.device) x → SurvivesAt s.volume.log.commit (disk.image s.volume.device) x) → t.volume.log ≡ s.volume.log
        → disk.fault_count t.volume.device ≡ one_more (disk.fault_count s.volume.device) → IsRight disk opening t w
    right_unwritten store fault is survives log counts =
        let failed : t.volume.fault ≡ Some fault = made.volume.fault ∙ ap Rattle.wal.specs.Volume.fault_of_step is in
        right_failed disk opening s t w fault right well failed numbers_now
        (paired_goes s t w w p (process w p) right.paired lt (sym (set-get_or w.processes p idle)) (ap (λ (l : List TaskState). length l) made.tasks) (λ q apart. ap (λ (l : List TaskState). task l q) made.tasks) (keeps_behind w w p refl)
        (subst (λ (l : List TaskState). IsPaired w.journal.list (task l p) (process w p).at (process w p).room) (sym made.tasks) (right.paired.stand p)))
        (ap (λ (l : LogState). l.opened) log)
        (ap (λ (l : LogState). l.committed) log)
        (λ x left. ⊎_elim
        (λ (wr : (is_writing s.volume.log.commit ≡ true) × IsWrite r). let at_fault : IsWrite (Committed.Fault fault) = subst IsWrite is wr.1 in
        known_failed (disk.image opening) (view_of disk.image s) w.journal.list (ats_of w) had.facts t.volume fault x failed at_fault.faults.0 log wr.0 none_open (wr.1.recovers x left) (wr.1.lawful x left))
        (λ (sy : (part : Part) × (s.volume.log.commit ≡ Commit.Syncing part) × IsSync part r). known_keeps (disk.image opening) (view_of disk.image s) w.journal.list (ats_of w) had.facts t.volume
        (ap (λ (l : LogState). l.committed) log) (ap (λ (l : LogState). l.commit) log) x (survives x (sy.2.fewer x left)))
        kinds)
        counts (lasts_unwritten disk opening s w store right t well made.volume.current made.tasks made.table log)
