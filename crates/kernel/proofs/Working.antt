-- What is true of store and processes stays so with a step of a task.
use Rattle.std.proofs.Common.{◌≡◌, ◌≢◌, ℕ, ◌<◌, ◌≤◌, Bool, true, false, cond, List, [], ◌∷◌, ◌++◌, length, set, length-set, ltb, refl, sym, ◌∙◌, ap, subst, inl, inr, Option, Some, None}
use Rattle.wal.specs.Floats.{Survives as SurvivesAt}
use Rattle.std.specs.Prelude.{IsTrue, is_none}
use Rattle.model.specs.declared.types.operations.Attribute.TheVariants.{Links, Size}
use Rattle.inodes.specs.Looks.{IsWriteOp}
use Rattle.kernel.specs.Common.{alone_stepped, answered, AreLooking, ArePaired, asked, at_phase, ats_of, Block, Bytes, CanBegin, CanTake, changing_in_group, counted_same, counted_turned, Create, current_of, decided, DecisionEnds, DeviceFault, DiskFault, ends_of, Entry, entry_in, entry_inside, entry_new, entry_of, entry_index, entry_same, entry_set, false≢true, fault_of_task, faults_after, form_of, Ghosts, GoesOn, GoesOnTurned, group_tells, HasEntry, HasFacts, idle, Image, in_reads, inode_count_of, is_busy_at, is_changing, is_committing_at, is_making, is_number, is_over, is_unturned, IsBehind, IsCounted, IsEntry, IsItsRoom, IsLate, IsRight, IsStore, IsValidView, JournalGoes, known_keeps, late_is, le-leb, le-ltb, SetAttribute, number_of, Op, others_back, others_stay, over, over_at, owes_reply, passes_busy, Phase, phase_behind, Process, process, Read, Remove, Reply, set-get_or, Stage, StandsAt, Stat, StepEnds, Steps, StoreState, Takes, task, task_journal, task_next, TaskProgress, TaskStands, there_now, told, told_at, transfer_limit, Trunc, turned, turned_from, TurnEnds, View, view_of, where_none, World, Write, Wrote}
use Rattle.history.specs.Next.{TaskNext}
use Rattle.kernel.proofs.TaskSteps.{form_untouched, moves_of, turns_of, opens_of, takes_of, reads_rest, leaves_of, free_then}
use Rattle.kernel.proofs.Valid.{HasAgreed, valid_joint, over_unread, take_number, unturned_unread}
use Rattle.kernel.proofs.Pairing.{paired_goes, keeps_behind}
use Rattle.kernel.proofs.Lasting.{lasts_failed}
use Rattle.kernel.proofs.Right.{right_well, right_failed}

-- a task whose reply is to come is not over, and had its turn
reading_more : (a : Stage) → owes_reply a ≡ true → (is_over a ≡ false) × (is_unturned a ≡ false)
reading_more Stage.Nowhere is = absurd (false≢true is)
reading_more (Stage.Creating m) is = absurd (false≢true is)
reading_more (Stage.Taking m) is = absurd (false≢true is)
reading_more (Stage.Reading k m) is = (refl, refl)
reading_more (Stage.Delivering k) is = (refl, refl)
reading_more (Stage.Truncating k m) is = absurd (false≢true is)
reading_more (Stage.Writing k m) is = (refl, refl)
reading_more (Stage.Setting k d u) is = absurd (false≢true is)
reading_more (Stage.Leaving k) is = absurd (false≢true is)

-- a write of a number that operations may name changes files
write_changes : (n i off : ℕ) (bytes : List ℕ) → IsTrue (is_number n i) → length bytes ≤ transfer_limit → is_changing n (Write i off bytes) ≡ true
write_changes n i off bytes named few = rw (le-leb (length bytes) 3072 few, named) refl

-- and so does any operation that writes bytes
writer_changes : (n : ℕ) (op : Op) → IsWriteOp op → CanTake n op → is_changing n op ≡ true
writer_changes n (Create kind) w can = absurd w
writer_changes n (Write i off bytes) w can = write_changes n i off bytes can.0 can.1
writer_changes n (Read i off m) w can = absurd w
writer_changes n (Trunc i) w can = absurd w
writer_changes n (Remove i) w can = absurd w
writer_changes n (Stat i) w can = absurd w
writer_changes n (SetAttribute i (Links c)) w can = absurd w
writer_changes n (SetAttribute i (Size c)) w can = can.0

-- what may begin changes files, and what looks changes none
changes : (n : ℕ) (op : Op) → CanBegin n op → (is_changing n op ≡ true) × (number_of op ≡ asked op)
changes n (Create kind) can = (can, refl)
changes n (Write i off bytes) can = (write_changes n i off bytes can.0 can.1, ap (λ (b : Bool). cond b 0 i) (le-ltb 3072 (length bytes) can.1))
changes n (Read i off m) can = absurd can
changes n (Trunc i) can = (can, refl)
changes n (Remove i) can = (can, refl)
changes n (Stat i) can = absurd can
changes n (SetAttribute i a) can = (can.0, refl)

pub reply_there : (o : Option Reply) → is_none o ≡ false → (r : Reply) × (o ≡ Some r)
reply_there None is = absurd (false≢true (sym is))
reply_there (Some r) is = (r, refl)

pub reply_missing : (o : Option Reply) → is_none o ≡ true → o ≡ None
reply_missing None is = refl
reply_missing (Some r) is = absurd (false≢true is)

quiet_behind : (b : Bool) (group k : ℕ) → is_committing_at (phase_behind b group k) ≡ false
quiet_behind true group k = refl
quiet_behind false group k = refl

module _ {D N : Type 0} (disk : Ghosts D N) (opening : D) (s : StoreState D) (w : World) (right : IsRight disk opening s w) (well : s.volume.fault ≡ None) (p : ℕ) (lt : p < length w.processes)
    (op : Op) (mine : (task s.tasks p).op ≡ Some op) (was : IsStore disk.image s) (t : StoreState D) where
  abbrev n : ℕ
  n = inode_count_of (disk.image opening)

  abbrev form : Rattle.model.specs.declared.types.image.Form.Form
  form = form_of (disk.image opening)

  abbrev before : View
  before = view_of disk.image s

  abbrev now : View
  now = view_of disk.image t

  abbrev es : List Entry
  es = w.journal.list

  abbrev next : Stage
  next = (task t.tasks p).stage

  had : HasFacts disk.image (disk.image opening) s w
  had = where_none _ well right.facts

  looks : AreLooking (current_of disk.image s.volume) s.table s.tasks
  looks = where_none _ well was.looks

  form_same : form_of (current_of disk.image s.volume) ≡ form
  form_same = form_untouched (disk.image opening) (current_of disk.image s.volume) had.facts.recovers.marks.untouched

  pub ends_now : (r : TaskProgress) → is_over (task s.tasks p).stage ≡ false → Steps disk s p op r t → StepEnds s.table.inode_count (task s.tasks p).stage op r next
  ends_now r more steps = ends_of disk s p op r t (task s.tasks p).stage mine ((where_none _ well was.agrees).stands p) (looks.stand p) more steps.goes

  -- the room for its answer stays
  room_stays : (r : TaskProgress) → Steps disk s p op r t → is_busy_at (process w p).at ≡ true → IsItsRoom (task t.tasks p).op (process w p).room
  room_stays r steps busy = subst (λ (o : Option Op). IsItsRoom o (process w p).room) (sym steps.tasks.op_stays) ((right.paired.stand p).room_is busy)

  stood : (a : Phase) → (process w p).at ≡ a → TaskStands es (task s.tasks p) a
  stood a stands = subst (λ (b : Phase). TaskStands es (task s.tasks p) b) stands (right.paired.stand p).stands

  -- a task that goes on stands where it stood
  before_goes : (group : ℕ) (r : TaskProgress) → Steps disk s p op r t → is_unturned (task s.tasks p).stage ≡ true → GoesOn (task s.tasks p).stage next → TaskStands es (task t.tasks p) (Phase.BeforeTurn group op)
  before_goes group r steps unturned on = (steps.tasks.op_stays ∙ mine, on.unturned ∙ unturned)

  behind_goes : (group k : ℕ) (r : TaskProgress) → Steps disk s p op r t → TaskStands es (task s.tasks p) (Phase.AfterTurn group k) → GoesOn (task s.tasks p).stage next → TaskStands es (task t.tasks p) (Phase.AfterTurn group k)
  behind_goes group k r steps behind on e there =
      let b = behind e there in
      record { same = steps.tasks.op_stays ∙ b.same; unfinished = on.unfinished; turned = on.unturned ∙ b.turned; reply = on.reading ∙ b.reply }

  paired_here : (r : TaskProgress) (a : Phase) → (process w p).at ≡ a → is_busy_at a ≡ true → Steps disk s p op r t → TaskStands es (task t.tasks p) a → ArePaired t w
  paired_here r a stands busy steps there = paired_goes s t w w p (process w p) right.paired lt (sym (set-get_or w.processes p idle)) steps.tasks.many steps.tasks.others (keeps_behind w w p refl)
      (record { stands = subst (λ (b : Phase). TaskStands es (task t.tasks p) b) (sym stands) there; room_is = λ under. room_stays r steps under })

  faults_same : (r : TaskProgress) → Steps disk s p op r t → fault_of_task r ≡ None → disk.fault_count t.volume.device ≡ disk.fault_count opening
  faults_same r steps none = steps.reads.faults ∙ ap (λ (o : Option DeviceFault). faults_after o (disk.fault_count s.volume.device)) none ∙ right.faults ∙ ap (λ (o : Option DeviceFault). faults_after o (disk.fault_count opening)) well

  -- WHATEVER A STEP IS TO THE JOURNAL: process p, which stood at a, becomes u
  module _ (r : TaskProgress) (steps : Steps disk s p op r t) (none : fault_of_task r ≡ None) (agreed : HasAgreed disk.image t) (z : World) (u : Process) (is : z.processes ≡ set w.processes p u) (a : Phase) (stands : (process w p).at ≡ a) where
    others : (q : ℕ) → q ≢ p → ats_of z q ≡ ats_of w q
    others q apart = ap (λ (v : Process). v.at) (others_stay w z p u is q apart)

    at_p : ats_of z p ≡ u.at
    at_p = ap (λ (v : Process). v.at) (there_now w z p u is lt)

    valid : IsValidView n now
    valid = valid_joint disk.image t n (steps.tasks.numbers ∙ right.numbers) agreed

    right_stepped : (e : TaskProgress) → TaskNext a e n form p (process w p).begun before es now z.journal.list u.at → IsCounted t.volume.log.opened z
        → TaskStands z.journal.list (task t.tasks p) u.at → (is_busy_at u.at ≡ true → IsItsRoom (task t.tasks p).op u.room) → is_committing_at a ≡ false → is_committing_at u.at ≡ false → IsRight disk opening t z
    right_stepped e made counted there room quiet still =
        let goes_on : TaskNext a e n form p (process w p).begun before es now z.journal.list (ats_of z p) = subst (λ (b : Phase). TaskNext a e n form p (process w p).begun before es now z.journal.list b) (sym at_p) made in
        let goes : JournalGoes n p (in_reads s.volume.log) es z.journal.list = task_journal (disk.image opening) before now es z.journal.list (ats_of w) (ats_of z) had.facts valid p (process w p).begun others a e stands goes_on in
        right_well disk opening t z (steps.reads.fault ∙ none) (steps.tasks.numbers ∙ right.numbers)
        (paired_goes s t w z p u right.paired lt is steps.tasks.many steps.tasks.others
        (λ q apart g k f there. others_back (disk.image opening) before es z.journal.list (ats_of w) had.facts n p (in_reads s.volume.log) goes q apart g k f there)
        (record { stands = there; room_is = room }))
        counted
        (record {
          facts = task_next (disk.image opening) before now es z.journal.list (ats_of w) (ats_of z) had.facts valid p (process w p).begun others a e stands goes_on;
          alone = alone_stepped (ats_of w) (ats_of z) s.volume.log had.alone p others t.volume.log steps.groups (ap is_committing_at stands ∙ quiet) (ap is_committing_at at_p ∙ still);
        })
        (faults_same r steps none)

  -- the task moved
  moved_with : (a : Phase) → (process w p).at ≡ a → is_busy_at a ≡ true → is_committing_at a ≡ false → Steps disk s p op TaskProgress.Moved t → HasAgreed disk.image t
      → TaskNext a TaskProgress.Moved n form p (process w p).begun before es now es a → TaskStands es (task t.tasks p) a → IsRight disk opening t w
  moved_with a stands busy quiet steps agreed made there =
      right_stepped TaskProgress.Moved steps refl agreed w (process w p) (sym (set-get_or w.processes p idle)) a stands TaskProgress.Moved
      (subst (λ (b : Phase). TaskNext a TaskProgress.Moved n form p (process w p).begun before es now es b) (sym stands) made)
      (subst (λ (k : ℕ). IsCounted k w) (sym steps.groups.opened) right.counted)
      (subst (λ (b : Phase). TaskStands es (task t.tasks p) b) (sym stands) there) (room_stays TaskProgress.Moved steps) quiet (ap is_committing_at stands ∙ quiet)

  -- what a stop leaves after a read survives as it did before it
  abbrev StillSurvives : Type 0
  StillSurvives = (x : Image) → disk.leaves t.volume.device (disk.moment t.volume.device) x → SurvivesAt s.volume.log.commit (disk.image s.volume.device) x

  fails_with : (a : Phase) → (process w p).at ≡ a → is_busy_at a ≡ true → (fault : DiskFault) → StillSurvives → Steps disk s p op (TaskProgress.Fault fault) t → TaskStands es (task t.tasks p) a → IsRight disk opening t w
  fails_with a stands busy fault survives steps there =
      right_failed disk opening s t w (Block fault) right well steps.reads.fault steps.tasks.numbers (paired_here (TaskProgress.Fault fault) a stands busy steps there) steps.groups.opened steps.groups.committed
      (λ x left. known_keeps (disk.image opening) before es (ats_of w) had.facts t.volume steps.groups.committed steps.groups.commit x (survives x left)) steps.reads.faults (lasts_failed disk opening s w was right p op fault t well steps)

  -- BEFORE ITS TURN
  module _ (group : ℕ) (stands : (process w p).at ≡ Phase.BeforeTurn group op) where
    unturned : is_unturned (task s.tasks p).stage ≡ true
    unturned = (stood (Phase.BeforeTurn group op) stands).1

    more : is_over (task s.tasks p).stage ≡ false
    more = passes_busy is_unturned refl (task s.tasks p).stage unturned

    pub right_moved : Steps disk s p op TaskProgress.Moved t → HasAgreed disk.image t → IsRight disk opening t w
    right_moved steps agreed =
        let on = ends_now TaskProgress.Moved more steps in
        moved_with (Phase.BeforeTurn group op) stands refl refl steps agreed (moves_of disk s t p op on steps, refl, refl) (before_goes group TaskProgress.Moved steps unturned on)

    -- it decides nothing yet, and is not over
    pub not_decided : (reply : Reply) → Steps disk s p op (TaskProgress.Decided reply) t → ⊥
    not_decided reply steps = false≢true (sym (reading_more (task s.tasks p).stage (ends_now (TaskProgress.Decided reply) more steps).0).1 ∙ unturned)

    pub not_over : Steps disk s p op TaskProgress.Over t → ⊥
    not_over steps = false≢true (sym (ends_now TaskProgress.Over more steps).0 ∙ unturned)

    pub right_fault : (fault : DiskFault) → StillSurvives → Steps disk s p op (TaskProgress.Fault fault) t → IsRight disk opening t w
    right_fault fault survives steps = fails_with (Phase.BeforeTurn group op) stands refl fault survives steps (before_goes group (TaskProgress.Fault fault) steps unturned (ends_now (TaskProgress.Fault fault) more steps))

    -- it had its turn
    module _ (reply : Option Reply) (steps : Steps disk s p op (TaskProgress.Turned reply) t) (agreed : HasAgreed disk.image t) where
      abbrev e : Entry
      e = entry_of p (process w p).begun op group reply

      turned_with : (b : Bool) → is_over next ≡ b → TaskNext (Phase.BeforeTurn group op) (TaskProgress.Turned reply) n form p (process w p).begun before es now (es ++ e ∷ []) (phase_behind b group (length es))
          → TaskStands (es ++ e ∷ []) (task t.tasks p) (phase_behind b group (length es)) → IsRight disk opening t (turned w p reply (is_over next))
      turned_with b over made there =
          let z : World = turned_from (Phase.BeforeTurn group op) w p reply b in
          let u : Process = record (process w p) { at = phase_behind b group (length es) } in
          let same : turned w p reply (is_over next) ≡ z = ap (λ (c : Bool). turned w p reply c) over ∙ ap (λ (a : Phase). turned_from a w p reply b) stands in
          let same_b : turned w p reply b ≡ z = ap (λ (a : Phase). turned_from a w p reply b) stands in
          subst (λ (y : World). IsRight disk opening t y) (sym same)
          (right_stepped (TaskProgress.Turned reply) steps refl agreed z u refl (Phase.BeforeTurn group op) stands (TaskProgress.Turned reply) made
          (subst (λ (y : World). IsCounted t.volume.log.opened y) same_b (counted_turned s.volume.log.opened p w right.counted lt t.volume.log.opened group op reply b stands steps.groups.opened))
          there (λ busy. room_stays (TaskProgress.Turned reply) steps (ap is_busy_at stands)) refl (quiet_behind b group (length es)))

      -- its task goes on
      looked : is_over next ≡ false → is_unturned next ≡ false → owes_reply next ≡ is_none reply → TaskStands (es ++ e ∷ []) (task t.tasks p) (Phase.AfterTurn group (length es))
      looked unfinished past reads f there =
          let same : e ≡ f = entry_same (es ++ e ∷ []) (length es) e f (entry_new es e) there in
          subst (λ (g : Entry). IsBehind (task t.tasks p) g) same (record { same = steps.tasks.op_stays ∙ mine; unfinished = unfinished; turned = past; reply = reads })

    pub right_turned : (reply : Option Reply) → Steps disk s p op (TaskProgress.Turned reply) t → HasAgreed disk.image t → IsRight disk opening t (turned w p reply (is_over next))
    right_turned None steps agreed =
        let owes = (ends_now (TaskProgress.Turned None) more steps).1.2 in
        let late = late_is (current_of disk.image t.volume) t.table t.tasks agreed.looks p owes in
        let past = reading_more next owes in
        turned_with None steps agreed false past.0
        (opens_of disk s t p op n (subst (λ (k : ℕ). IsLate k (task t.tasks p)) (steps.tasks.numbers ∙ right.numbers) late) mine owes steps, refl, refl)
        (looked None steps agreed past.0 past.1 owes)
    right_turned (Some told) steps agreed = by_end (ends_now (TaskProgress.Turned (Some told)) more steps).1
      where
        by_end : TurnEnds s.table.inode_count op (Some told) next → IsRight disk opening t (turned w p (Some told) (is_over next))
        by_end (inl (can, over)) =
            let c = changes n op (subst (λ (k : ℕ). CanBegin k op) right.numbers can) in
            turned_with (Some told) steps agreed true over
            (turns_of disk s t p op form form_same told c.1 (unturned_unread (task s.tasks p).stage unturned) looks steps, refl, inr (refl, c.0, free_then disk s t p op (over_unread next over))) over
        by_end (inr (can, on)) =
            turned_with (Some told) steps agreed false on.unfinished
            (turns_of disk s t p op form form_same told (take_number s.table.inode_count op can) (unturned_unread (task s.tasks p).stage unturned) looks steps, refl, inl refl)
            (looked (Some told) steps agreed on.unfinished on.turned on.unread)

  -- BEHIND ITS TURN
  module _ (group k : ℕ) (stands : (process w p).at ≡ Phase.AfterTurn group k) where
    behind : TaskStands es (task s.tasks p) (Phase.AfterTurn group k)
    behind = stood (Phase.AfterTurn group k) stands

    facts_of : StandsAt n before es p (Phase.AfterTurn group k)
    facts_of = subst (λ (a : Phase). StandsAt n before es p a) stands (had.facts.stands p)

    abbrev own : Entry
    own = facts_of.1.0

    has : HasEntry es p k group own
    has = facts_of.1.1

    its : IsBehind (task s.tasks p) own
    its = behind own has.at

    same_op : op ≡ own.op
    same_op = let both : Some op ≡ Some own.op = sym mine ∙ its.same in cc both

    -- who is in a group changes files
    grouped : 0 < group → is_changing n own.op ≡ true
    grouped later = changing_in_group n group k es own had.facts.journal.changing has.at has.same later

    -- who is in none changes none
    ungrouped : group ≡ 0 → is_changing n own.op ≡ false
    ungrouped none = group_tells n group k es own had.facts.journal.changing has.at has.same ∙ ap (ltb 0) none

    -- whose reply is to come, is in none as a read, or in one as a write
    late_here : owes_reply (task s.tasks p).stage ≡ true → IsLate s.table.inode_count (task s.tasks p)
    late_here owes = late_is (current_of disk.image s.volume) s.table s.tasks looks p owes

    reads_alone : (i off m : ℕ) → op ≡ Read i off m → 0 < group → ⊥
    reads_alone i off m is later = false≢true (sym (ap (is_changing n) (sym same_op ∙ is)) ∙ grouped later)

    writes_grouped : IsWriteOp op → IsLate s.table.inode_count (task s.tasks p) → group ≡ 0 → ⊥
    writes_grouped is (inl read) none =
        let same : op ≡ Read read.number read.offset read.count = (let both : Some op ≡ Some (Read read.number read.offset read.count) = sym mine ∙ read.is in cc both) in
        subst IsWriteOp same is
    writes_grouped is (inr write) none =
        let may = subst (λ (m : ℕ). CanTake m write.op) right.numbers write.may in
        let same : own.op ≡ write.op = (let both : Some own.op ≡ Some write.op = sym its.same ∙ write.is in cc both) in
        false≢true (sym (ungrouped none) ∙ ap (is_changing n) same ∙ writer_changes n write.op write.writes may)

    -- so who is in none is over with its reply, and has its bytes
    read_over : group ≡ 0 → (reply : Reply) → owes_reply (task s.tasks p).stage ≡ true → DecisionEnds op reply next → (is_over next ≡ true) × ((bytes : List ℕ) × (reply ≡ Bytes bytes))
    read_over none reply owes (inl read) = (read.1, read.2)
    read_over none reply owes (inr write) = absurd (writes_grouped write.0 (late_here owes) none)

    -- and who is in one goes on with it
    write_on : 0 < group → (reply : Reply) → DecisionEnds op reply next → GoesOnTurned next × ((count : ℕ) × (reply ≡ Wrote count))
    write_on later reply (inl read) = absurd (reads_alone read.0.0 read.0.1 read.0.2 read.0.3 later)
    write_on later reply (inr write) = (write.1, write.2)

    -- what its reply makes of files and journal
    takes_told : (reply : Reply) → Steps disk s p op (TaskProgress.Decided reply) t → Takes form before now own.op reply
    takes_told reply steps = subst (λ (o : Op). Takes form before now o reply) same_op (takes_of disk s t p op form form_same reply steps)

    list_told : (reply : Reply) → (told_at (Some k) w reply).journal.list ≡ set es k (told own reply)
    list_told reply = ap (λ (f : Entry). set es k (told f reply)) (entry_inside es k own has.at)

    pub right_moved_behind : Steps disk s p op TaskProgress.Moved t → HasAgreed disk.image t → IsRight disk opening t w
    right_moved_behind steps agreed =
        let on = ends_now TaskProgress.Moved its.unfinished steps in
        moved_with (Phase.AfterTurn group k) stands refl refl steps agreed (moves_of disk s t p op on steps, refl, refl) (behind_goes group k TaskProgress.Moved steps behind on)

    pub right_fault_behind : (fault : DiskFault) → StillSurvives → Steps disk s p op (TaskProgress.Fault fault) t → IsRight disk opening t w
    right_fault_behind fault survives steps = fails_with (Phase.AfterTurn group k) stands refl fault survives steps (behind_goes group k (TaskProgress.Fault fault) steps behind (ends_now (TaskProgress.Fault fault) its.unfinished steps))

    -- it has no turn again
    pub not_turned : (reply : Option Reply) → Steps disk s p op (TaskProgress.Turned reply) t → ⊥
    not_turned reply steps = false≢true (sym its.turned ∙ (ends_now (TaskProgress.Turned reply) its.unfinished steps).0)

    -- its reading is over, and answered
    pub right_decided : group ≡ 0 → (reply : Reply) → Steps disk s p op (TaskProgress.Decided reply) t → HasAgreed disk.image t → IsRight disk opening t (answered (decided w p reply) p)
    right_decided none reply steps agreed =
        let ends = ends_now (TaskProgress.Decided reply) its.unfinished steps in
        let read = read_over none reply ends.0 ends.1 in
        let z : World = answered (told_at (Some k) w reply) p in
        let u : Process = record (process w p) { at = Phase.Idle; room = None } in
        let same : answered (decided w p reply) p ≡ z = ap (λ (a : Phase). answered (told_at (entry_index a) w reply) p) stands in
        let list : z.journal.list ≡ set es k (told own (Bytes read.1.0)) = list_told reply ∙ ap (λ (r : Reply). set es k (told own r)) read.1.1 in
        subst (λ (y : World). IsRight disk opening t y) (sym same)
        (right_stepped (TaskProgress.Decided reply) steps refl agreed z u refl (Phase.AfterTurn group k) stands TaskProgress.Over (
          own,
          has.at,
          inl (record {
            bytes = read.1.0;
            open_still = reply_missing own.reply (sym its.reply ∙ ends.0);
            none = none;
            rest = reads_rest disk s t p op reply steps;
            free = free_then disk s t p op (over_unread next read.0);
            files = subst (λ (r : Reply). Takes form before now own.op r) read.1.1 (takes_told reply steps);
            list = list;
            now = refl;
          }),
        )
        (counted_same s.volume.log.opened p w right.counted lt t.volume.log.opened z Phase.Idle None (ap Rattle.history.specs.Processes.is_before stands) refl refl (length-set es k (told (entry_in es k) reply)) refl steps.groups.opened)
        read.0 (λ busy. absurd (false≢true busy)) refl refl)

    -- its writing is done: its entry is told the reply, and its task goes on
    pub right_told : 0 < group → (reply : Reply) → Steps disk s p op (TaskProgress.Decided reply) t → HasAgreed disk.image t → IsRight disk opening t (decided w p reply)
    right_told later reply steps agreed =
        let ends = ends_now (TaskProgress.Decided reply) its.unfinished steps in
        let write = write_on later reply ends.1 in
        let z : World = told_at (Some k) w reply in
        let same : decided w p reply ≡ z = ap (λ (a : Phase). told_at (entry_index a) w reply) stands in
        let list = list_told reply in
        let there : IsEntry z.journal.list k (told own reply) = subst (λ (l : List Entry). IsEntry l k (told own reply)) (sym list) (entry_set es k own (told own reply) has.at) in
        let goes : TaskNext (Phase.AfterTurn group k) (TaskProgress.Decided reply) n form p (process w p).begun before es now z.journal.list (Phase.AfterTurn group k) = (
          own,
          has.at,
          reply_missing own.reply (sym its.reply ∙ ends.0),
          record {
            rest = reads_rest disk s t p op reply steps;
            mine = free_then disk s t p op write.0.unread;
            made = λ i. ap (λ (r : Reply). is_making i (Some r)) write.1.1;
            files = takes_told reply steps;
          },
          list,
          refl,
        ) in
        let goes_on : TaskStands z.journal.list (task t.tasks p) (Phase.AfterTurn group k) = λ e here. subst (λ (f : Entry). IsBehind (task t.tasks p) f) (entry_same z.journal.list k (told own reply) e there here)
        (record { same = steps.tasks.op_stays ∙ its.same; unfinished = write.0.unfinished; turned = write.0.turned; reply = write.0.unread }) in
        subst (λ (y : World). IsRight disk opening t y) (sym same)
        (right_stepped (TaskProgress.Decided reply) steps refl agreed z (process w p) (sym (set-get_or w.processes p idle)) (Phase.AfterTurn group k) stands (TaskProgress.Decided reply)
        (subst (λ (b : Phase). TaskNext (Phase.AfterTurn group k) (TaskProgress.Decided reply) n form p (process w p).begun before es now z.journal.list b) (sym stands) goes)
        (counted_same s.volume.log.opened p w right.counted lt t.volume.log.opened z (process w p).at (process w p).room (ap Rattle.history.specs.Processes.is_before stands) (ap Rattle.history.specs.Processes.is_before stands) (sym (set-get_or w.processes p idle)) (length-set es k (told (entry_in es k) reply)) refl steps.groups.opened)
        (subst (λ (b : Phase). TaskStands z.journal.list (task t.tasks p) b) (sym stands) goes_on) (room_stays (TaskProgress.Decided reply) steps) refl (ap is_committing_at stands))

    -- another operation of no group is over, and answered
    pub right_over : group ≡ 0 → Steps disk s p op TaskProgress.Over t → HasAgreed disk.image t → IsRight disk opening t (answered w p)
    right_over none steps agreed =
        let ends = ends_now TaskProgress.Over its.unfinished steps in
        let reply = reply_there own.reply (sym its.reply ∙ ends.1) in
        right_stepped TaskProgress.Over steps refl agreed (answered w p) (record (process w p) { at = Phase.Idle; room = None }) refl (Phase.AfterTurn group k) stands TaskProgress.Over
        (own, has.at, inr (inr (record { reply = reply.0; has = reply.1; none = none; leaves = leaves_of disk s t p op ends.2 steps; list = refl; now = refl })))
        (counted_same s.volume.log.opened p w right.counted lt t.volume.log.opened (answered w p) Phase.Idle None (ap Rattle.history.specs.Processes.is_before stands) refl refl refl refl steps.groups.opened)
        ends.2 (λ busy. absurd (false≢true busy)) refl refl

    -- one of a group is over, and ends in the log next
    pub right_ends : 0 < group → Steps disk s p op TaskProgress.Over t → HasAgreed disk.image t → IsRight disk opening t (over w p)
    right_ends later steps agreed =
        let ends = ends_now TaskProgress.Over its.unfinished steps in
        let reply = reply_there own.reply (sym its.reply ∙ ends.1) in
        let z : World = at_phase w p (Phase.Ending group k) in
        let same : over w p ≡ z = ap (λ (a : Phase). at_phase w p (over_at a)) stands in
        subst (λ (y : World). IsRight disk opening t y) (sym same)
        (right_stepped TaskProgress.Over steps refl agreed z (record (process w p) { at = Phase.Ending group k }) refl (Phase.AfterTurn group k) stands TaskProgress.Over
        (own, has.at, inr (inl (record { reply = reply.0; has = reply.1; changing = grouped later; leaves = leaves_of disk s t p op ends.2 steps; list = refl; now = refl })))
        (counted_same s.volume.log.opened p w right.counted lt t.volume.log.opened z (Phase.Ending group k) (process w p).room (ap Rattle.history.specs.Processes.is_before stands) refl refl refl refl steps.groups.opened)
        ends.2 (λ busy. room_stays TaskProgress.Over steps (ap is_busy_at stands)) refl refl)
