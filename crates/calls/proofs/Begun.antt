-- The beginning of a transaction.
use Rattle.std.proofs.Common.{◌≡◌, ◌≢◌, ◌∙◌, ◌⊎◌, ◌<◌, ◌≤◌, inl, inr, ℕ, zero, ◌+◌, ◌^◌, Bool, true, false, not, List, [], ◌∷◌, ◌++◌, length, Option, Some, None, refl, sym, ap, subst, ⊎_elim, arith}
use Rattle.std.specs.Option.{option_map}
use Rattle.std.specs.Prelude.{◌==◌, IfNone, if◌then◌else◌, nat_lt}
use Rattle.std.proofs.lemmas.Bool.Decides.{nat_tests}
use Rattle.std.proofs.lemmas.List.{get_or-set_same, nil_from_length}
use Rattle.blocks.specs.Disk.{LeavesOnly}
use Rattle.blocks.specs.declared.disk.Disk.{Ghosts}
use Rattle.model.specs.declared.types.operations.Entry.{Entry}
use Rattle.model.specs.declared.types.operations.Op.{Op}
use Rattle.model.specs.Crash.{due_labels}
use Rattle.model.specs.Files.{files_of}
use Rattle.model.specs.Journal.{is_at_once, own, replay}
use Rattle.model.specs.Layout.{form_of, inode_count_of}
use Rattle.model.specs.Lemmas.Soundness.{facts_of}
use Rattle.ports.specs.History.{Side, first_in}
use Rattle.ports.specs.Queues.{OthersWait, answers, polled, submitted, waiting}
use Rattle.ports.specs.declared.queues.QueueIntake.{QueueIntake}
use Rattle.inodes.specs.Holding.{claim_of}
use Rattle.inodes.specs.Store.{StoreState, first_stage, first_taking}
use Rattle.inodes.specs.Tasks.{TaskState, no_task, task}
use Rattle.wal.specs.Machine.{Idle, IsLog, LogState, begin_cause, begun}
use Rattle.wal.specs.declared.types.Commit.{Commit}
use Rattle.wal.specs.declared.types.Commit.TheVariants as commit
use Rattle.wal.specs.declared.types.DeviceFault.{DeviceFault}
use Rattle.history.specs.declared.types.Phase.{Phase}
use Rattle.history.specs.declared.types.Phase.TheVariants as at
use Rattle.history.specs.declared.types.Process.{Process}
use Rattle.history.specs.Lemmas.Phases.{there_now}
use Rattle.history.specs.Processes.{World, process}
use Rattle.kernel.specs.Awake.{AreIdle, IsAwake}
use Rattle.kernel.specs.Known.{Known}
use Rattle.kernel.specs.Lemmas.Turns.{runs_on_step}
use Rattle.kernel.specs.Next.{BeginsWith, IsNotTaken, NextAt, NextIf}
use Rattle.kernel.specs.State.{class_of}
use Rattle.model.specs.declared.types.operations.Step.{Step}
use Rattle.model.specs.declared.types.operations.Step.TheVariants as step
use Rattle.kernel.specs.declared.class.OpClass.{OpClass}
use Rattle.kernel.specs.declared.class.OpClass.TheVariants as waiting_as
use Rattle.history.specs.Alone.{is_committing_at}
use Rattle.model.specs.Lemmas.Frames.{form_same}
use Rattle.calls.specs.Lemmas.Reaching.{reached_ports, reached_step, reached_then}
use Rattle.calls.specs.Stepping.{IsReached, MakesPlainStep, Plain, plain_herald, plain_queues}
use Rattle.calls.specs.Calls.{HasFailed, image_on}
use Rattle.calls.specs.Transactions.{Begins, IsInside, KeepsFiles, Rests, IsOnlyRead, anchor}
use Rattle.calls.proofs.Called.{has_failed, still_faultless, with_intake}
use Rattle.calls.proofs.Counting.{counts, room_left}
use Rattle.calls.proofs.Going.{LeavesOthers, others_none, others_step}
use Rattle.calls.proofs.Idle.{all_committed, disk_files, disk_labels, long, numbers, quiet, super, two_idle, unopened}
use Rattle.calls.proofs.Keeping.{leaves_before, settled}

-- The anchor's operation was handed in to k, which rested, and a step of its process made m of it.
pub record IsBeginning {D N : Type 0} (disk : Ghosts D N) (r : Step) (k m : Plain D) : Type 0 where
  pub i : QueueIntake
  pub rests : Rests disk.fault_count k
  pub few : length k.world.journal.list < 2 ^ 63
  pub waits : waiting i 1 ≡ waiting k.intake 1 ++ anchor ∷ []
  pub fetched : polled i 1 ≡ polled k.intake 1
  pub others : OthersWait k.intake i 1
  pub known : Known disk plain_queues plain_herald k
  pub log : IfNone k.store.volume.fault (IsLog k.store.volume.log)
  pub known_then : Known disk plain_queues plain_herald (with_intake k i)
  pub known_now : Known disk plain_queues plain_herald m
  pub makes : MakesPlainStep disk 1 r (with_intake k i) m

pub is_beginning : {D N : Type 0} (disk : Ghosts D N) (r : Step) (k l m : Plain D) → Rests disk.fault_count k → length k.world.journal.list < 2 ^ 63 → l ≡ with_intake k l.intake → waiting l.intake 1 ≡ waiting k.intake 1 ++ anchor ∷ [] → polled l.intake 1 ≡ polled k.intake 1 → OthersWait k.intake l.intake 1
    → Known disk plain_queues plain_herald k → IfNone k.store.volume.fault (IsLog k.store.volume.log) → Known disk plain_queues plain_herald l → Known disk plain_queues plain_herald m → MakesPlainStep disk 1 r l m → IsBeginning disk r k m
is_beginning disk r k l m rests few same waits fetched others known log known_then known_now makes = record {
  i = l.intake;
  rests = rests;
  few = few;
  waits = waits;
  fetched = fetched;
  others = others;
  known = known;
  log = log;
  known_then = subst (λ (s : Plain _). Known disk plain_queues plain_herald s) same known_then;
  known_now = known_now;
  makes = subst (λ (s : Plain _). MakesPlainStep disk 1 r s m) same makes;
}

-- at rest the log has no homes
no_homes : (l : LogState) (f : Option DeviceFault) → f ≡ None → l.commit ≡ commit.Quiet → l.outstanding ≡ 0 → IfNone f (IsLog l) → length l.homes ≡ 0
no_homes l None well quiet closed is = (subst (λ (c : Commit). Idle c l) quiet is.idle) closed
no_homes l (Some fault) well quiet closed is = absurd (cc well)

-- it moves, or memory is refused
abbrev pub EndsSo : Step → Type 0
EndsSo step.Moved = Unit {0}
EndsSo step.Answered = ⊥
EndsSo (step.Sleeping cause) = ⊥
EndsSo step.Idle = ⊥
EndsSo step.NoMemory = Unit {0}
EndsSo step.ShutDown = ⊥
EndsSo step.Halted = ⊥

as_said : (r q : Step) → r ≡ q → EndsSo q → EndsSo r
as_said r q is ends = subst EndsSo (sym is) ends

-- the group that the anchor's operation opens
pub record TakesAnchor {D : Type 0} (s : StoreState D) (w : World) (t : StoreState D) (z : World) : Type 0 where
  pub log : t.volume.log ≡ begun s.volume.log 1
  pub stands : (process z 1).at ≡ at.BeforeTurn t.volume.log.opened anchor
  pub list : z.journal.list ≡ w.journal.list
  pub device : t.volume.device ≡ s.volume.device
  pub stage : 1 < length s.tasks → (task t.tasks 1).stage ≡ first_taking 1

anchor_changes : (n : ℕ) → 2 ≤ n → class_of n anchor ≡ waiting_as.Change
anchor_changes n some =
    let one : nat_lt 1 n ≡ true = grind (arith, nat_tests, some) in
    ap (λ (b : Bool). if (not b) then waiting_as.Refused else waiting_as.Change) one

-- it is no look
never_looks : (refused : Bool) (count : Option ℕ) → (if refused then waiting_as.Refused else waiting_as.Change) ≡ waiting_as.Look count → ⊥
never_looks true count is = cc is
never_looks false count is = cc is

-- nothing moves where nothing is taken
none_moved : (what : Option OpClass) (l : LogState) (room : Bool) → IsNotTaken what l room step.Moved → ⊥
none_moved None l room is = cc is
none_moved (Some waiting_as.Refused) l room is = ⊎_elim (λ h. let e = h.0 in cc e) (λ h. let e = h.0 in cc e) is
none_moved (Some (waiting_as.Look count)) l room is = ⊎_elim (λ h. let e = h.0 in cc e) (λ h. let e = h.0 in cc e) is
none_moved (Some waiting_as.Change) l room is = ⊎_elim (λ h. let e = h.0 in cc e) (λ o. ⊎_elim (λ h. let e = h.1 in cc e) (λ h. let e = h.0.0 in cc e) o) is

module _ {D N : Type 0} (disk : Ghosts D N) (s : StoreState D) (w : World) (room : 1 < length w.processes) (before : List Op) (was : before ≡ anchor ∷ []) (side : Side) (heard : Bool) (t : StoreState D) (z : World) where
  takes_with : (ahead : List Op) → ahead ≡ anchor ∷ [] ⊎ ((rest : List Op) × (ahead ≡ anchor ∷ rest)) → BeginsWith (option_map (class_of s.table.inode_count) (first_in ahead)) s w 1 ahead side step.Moved t z → TakesAnchor s w t z
  takes_with ahead is begins = by (⊎_elim (λ e. ([], e)) (λ e. e) is) begins
    where
      by : (rest : List Op) × (ahead ≡ anchor ∷ rest) → BeginsWith (option_map (class_of s.table.inode_count) (first_in ahead)) s w 1 ahead side step.Moved t z → TakesAnchor s w t z
      by (rest, e) (inl takes) =
          let op : takes.op ≡ anchor = cc (takes.taken.0, e) in
          let log : t.volume.log ≡ begun s.volume.log 1 = ap (λ (y : StoreState D). y.volume.log) takes.store in
          record {
            log = log;
            stands = ap (λ (u : Process). u.at) (there_now w z 1 _ (ap (λ (v : World). v.processes) takes.world) room) ∙ ap (λ (o : Op). at.BeforeTurn (begun s.volume.log 1).opened o) op
                ∙ ap (λ (l : LogState). at.BeforeTurn l.opened anchor) (sym log);
            list = ap (λ (v : World). v.journal.list) takes.world;
            device = ap (λ (y : StoreState D). y.volume.device) takes.store;
            stage = λ many. ap (λ (y : StoreState D). (task y.tasks 1).stage) takes.store ∙ ap (λ (u : TaskState). u.stage) (get_or-set_same s.tasks 1 _ no_task many) ∙ ap (λ (o : Op). first_stage o s.table.inode_count) op;
          }
      by (rest, e) (inr (inl takes)) =
          let what : Some (class_of s.table.inode_count anchor) ≡ Some (waiting_as.Look takes.count) = ap (λ (o : List Op). option_map (class_of s.table.inode_count) (first_in o)) (sym e) ∙ takes.waits in
          absurd (never_looks (is_at_once s.table.inode_count anchor) takes.count (cc what))
      by (rest, e) (inr (inr (inl takes))) = let answer = takes.answer in absurd (cc answer)
      by (rest, e) (inr (inr (inr takes))) = absurd (none_moved (option_map (class_of s.table.inode_count) (first_in ahead)) s.volume.log side.has_room takes.answer)

  takes_at : NextAt disk at.Idle s w 1 before side heard step.Moved t z → TakesAnchor s w t z
  takes_at (inl shut) = let answer = shut.answer in absurd (cc answer)
  takes_at (inr none) = takes_with none.ahead (inr (none.prefix.0, (let is : none.ahead ≡ anchor ∷ none.prefix.0 = cc (was, none.prefix.1) in is))) none.begins

  pub takes_anchor : (f : Option DeviceFault) → NextIf disk f s w 1 before side heard step.Moved t z → (process w 1).at ≡ at.Idle → TakesAnchor s w t z
  takes_anchor None next idle = takes_at (subst (λ (a : Phase). NextAt disk a s w 1 before side heard step.Moved t z) idle next)
  takes_anchor (Some fault) next idle = let answer = next.0 in absurd (cc answer)

  -- whatever it answers, no commit begins, and no group is committed
  log_with : (r : Step) (ahead : List Op) → BeginsWith (option_map (class_of s.table.inode_count) (first_in ahead)) s w 1 ahead side r t z → (t.volume.log.commit ≡ s.volume.log.commit) × (t.volume.log.committed ≡ s.volume.log.committed)
  log_with r ahead (inl takes) = (ap (λ (y : StoreState D). y.volume.log.commit) takes.store, ap (λ (y : StoreState D). y.volume.log.committed) takes.store)
  log_with r ahead (inr (inl takes)) = (ap (λ (y : StoreState D). y.volume.log.commit) takes.store, ap (λ (y : StoreState D). y.volume.log.committed) takes.store)
  log_with r ahead (inr (inr (inl takes))) = (ap (λ (y : StoreState D). y.volume.log.commit) takes.store, ap (λ (y : StoreState D). y.volume.log.committed) takes.store)
  log_with r ahead (inr (inr (inr takes))) = (ap (λ (y : StoreState D). y.volume.log.commit) takes.same.0, ap (λ (y : StoreState D). y.volume.log.committed) takes.same.0)

  log_at : (r : Step) → NextAt disk at.Idle s w 1 before side heard r t z → (t.volume.log.commit ≡ s.volume.log.commit) × (t.volume.log.committed ≡ s.volume.log.committed)
  log_at r (inl shut) = (ap (λ (y : StoreState D). y.volume.log.commit) shut.store, ap (λ (y : StoreState D). y.volume.log.committed) shut.store)
  log_at r (inr none) = log_with r none.ahead none.begins

  pub log_stays : (r : Step) (f : Option DeviceFault) → NextIf disk f s w 1 before side heard r t z → (process w 1).at ≡ at.Idle → (t.volume.log.commit ≡ s.volume.log.commit) × (t.volume.log.committed ≡ s.volume.log.committed)
  log_stays r None next idle = log_at r (subst (λ (a : Phase). NextAt disk a s w 1 before side heard r t z) idle next)
  log_stays r (Some fault) next idle = (ap (λ (y : StoreState D). y.volume.log.commit) next.1.0, ap (λ (y : StoreState D). y.volume.log.committed) next.1.0)

  module _ (some : 2 ≤ s.table.inode_count) (free : begin_cause s.volume.log ≡ None) (room_left : z ≡ w → side.has_room ≡ true) (unshut : w.is_shut ≡ false) (untold : heard ≡ false) where
    of_waiting : (r : Step) → z ≡ w → IsNotTaken (Some waiting_as.Change) s.volume.log side.has_room r → EndsSo r
    of_waiting r same (inl full) = let no : false ≡ true = sym full.1 ∙ room_left same in absurd (cc no)
    of_waiting r same (inr (inl out)) = let no : None ≡ Some out.0 = sym free ∙ out.2 in absurd (cc no)
    of_waiting r same (inr (inr none)) = as_said r step.NoMemory none.0.0 tt

    ends_with : (r : Step) (ahead : List Op) (rest : List Op) → ahead ≡ anchor ∷ rest → BeginsWith (option_map (class_of s.table.inode_count) (first_in ahead)) s w 1 ahead side r t z → EndsSo r
    ends_with r ahead rest e (inl takes) = as_said r step.Moved takes.answer tt
    ends_with r ahead rest e (inr (inl takes)) = as_said r step.Moved takes.answer tt
    ends_with r ahead rest e (inr (inr (inl takes))) =
        let what : Some waiting_as.Change ≡ Some waiting_as.Refused = ap (λ (v : OpClass). Some v) (sym (anchor_changes s.table.inode_count some)) ∙ ap (λ (o : List Op). option_map (class_of s.table.inode_count) (first_in o)) (sym e) ∙ takes.waits in
        absurd (cc what)
    ends_with r ahead rest e (inr (inr (inr takes))) =
        of_waiting r takes.same.1 (subst (λ (v : Option OpClass). IsNotTaken v s.volume.log side.has_room r)
        (ap (λ (o : List Op). option_map (class_of s.table.inode_count) (first_in o)) e ∙ ap (λ (v : OpClass). Some v) (anchor_changes s.table.inode_count some)) takes.answer)

    ends_at : (r : Step) → NextAt disk at.Idle s w 1 before side heard r t z → EndsSo r
    ends_at r (inl shut) = ⊎_elim (λ on. (let no : false ≡ true = sym unshut ∙ on in absurd (cc no))) (λ told. (let no : false ≡ true = sym untold ∙ told in absurd (cc no))) shut.heard
    ends_at r (inr none) = ends_with r none.ahead none.prefix.0 (let is : none.ahead ≡ anchor ∷ none.prefix.0 = cc (was, none.prefix.1) in is) none.begins

    pub ends_so : (r : Step) (f : Option DeviceFault) → f ≡ None → NextIf disk f s w 1 before side heard r t z → (process w 1).at ≡ at.Idle → EndsSo r
    ends_so r None well next idle = ends_at r (subst (λ (a : Phase). NextAt disk a s w 1 before side heard r t z) idle next)
    ends_so r (Some fault) well next idle = absurd (cc well)

module _ {D N : Type 0} (disk : Ghosts D N) (has_now : (d : D) → disk.leaves d (disk.moment d) (disk.image d)) (r : Step) (k m : Plain D) (call : IsBeginning disk r k m) where
  room : 1 < length k.world.processes
  room = let two = call.rests.pair.two in omega (arith, two)

  all : AreIdle k.world
  all = two_idle k.world call.rests.pair.two call.rests.pair.free call.rests.idle

  was : waiting call.i 1 ≡ anchor ∷ []
  was = call.waits ∙ ap (λ (xs : List Op). xs ++ anchor ∷ []) call.rests.pair.second.waits

  rest_now : LeavesOthers 1 (with_intake k call.i) m
  rest_now = others_step disk 1 r (with_intake k call.i) (with_intake k call.i) m (others_none 1 (with_intake k call.i) call.rests.pair.unshut) call.makes

  apart : zero ≢ 1
  apart e = let no : ⊥ = omega (arith, e) in no

  pub begin_leaves : LeavesOnly disk.moment disk.leaves k.store.volume.device m.store.volume.device (KeepsFiles (image_on disk.image k))
  begin_leaves =
      let quiet_then = quiet disk k call.known all call.rests.pair.well in
      let set_k = settled disk has_now (with_intake k call.i) call.known_then call.rests.pair.well quiet_then in
      let log = log_stays disk k.store k.world room (waiting call.i 1) was (plain_queues.side m.intake 1) false m.store m.world r k.store.volume.fault call.makes.acts.next call.rests.idle in
      leaves_before disk (with_intake k call.i) m set_k (runs_on_step disk plain_queues plain_herald 1 r (with_intake k call.i) m call.makes) (log.0 ∙ quiet_then) log.1

  pub begin_reached : IsReached disk k m
  begin_reached =
      let l = with_intake k call.i in
      reached_then disk k l m (reached_ports disk k l refl) (reached_step disk 1 r l m call.makes)

  pub begin_opening : m.opening ≡ k.opening
  begin_opening = call.makes.acts.opening

  pub begin_name : disk.name m.store.volume.device ≡ disk.name k.store.volume.device
  begin_name = call.makes.acts.device.name

  -- it may only have read
  pub begin_stays : m.store.volume.fault ≡ None → IsOnlyRead disk k m
  begin_stays well = (
    call.makes.acts.device.reads (ap is_committing_at call.rests.idle),
    still_faultless disk m call.known_now well ∙ ap disk.fault_count call.makes.acts.opening ∙ sym call.rests.pair.faultless,
  )

  pub begin_failed : (fault : DeviceFault) → m.store.volume.fault ≡ Some fault → HasFailed disk k m fault
  begin_failed fault is = has_failed disk k m fault call.known_now call.makes.acts.opening call.rests.pair.faultless is

  -- where it took nothing, its answers were fetched
  room_then : m.world ≡ k.world → nat_lt (length (answers m.intake 1)) 16 ≡ true
  room_then same =
      room_left disk (with_intake k call.i) m 1 call.known_now room rest_now (call.fetched ∙ call.rests.pair.second.fetched) call.few (ap (λ (w : World). (process w 1).at) same ∙ call.rests.idle) (ap (λ (w : World). w.journal.list) same)

  -- the step moves, or memory is refused
  pub begin_ends : (q : Step) → r ≡ q → EndsSo q
  begin_ends q is =
      let count : k.store.table.inode_count ≡ inode_count_of (image_on disk.image k) = numbers disk k call.known all call.rests.pair.well in
      let sound = (settled disk has_now k call.known call.rests.pair.well (quiet disk k call.known all call.rests.pair.well)).sound in
      let some = (facts_of (image_on disk.image k) sound.geometry).some in
      let awake : IsAwake disk.image k = subst (λ (f : Option DeviceFault). IfNone f (IsAwake disk.image k)) call.rests.pair.well call.known.awake in
      subst EndsSo is
      (ends_so disk k.store k.world room (waiting call.i 1) was (plain_queues.side m.intake 1) false m.store m.world (omega (arith, count, some)) (awake.begins all) room_then call.rests.pair.unshut refl r k.store.volume.fault call.rests.pair.well call.makes.acts.next call.rests.idle)

  -- where it moved
  module _ (so : r ≡ step.Moved) where
    takes : TakesAnchor k.store k.world m.store m.world
    takes = takes_anchor disk k.store k.world room (waiting call.i 1) was (plain_queues.side m.intake 1) false m.store m.world k.store.volume.fault
        (subst (λ (q : Step). MakesPlainStep disk 1 q (with_intake k call.i) m) so call.makes).acts.next call.rests.idle

    pub begin_begins : Begins disk.image k m
    begin_begins =
        let on_disk = disk_files disk k call.known all call.rests.pair.well has_now in
        let opening : m.opening ≡ k.opening = call.makes.acts.opening in
        record {
          same = ap disk.image takes.device;
          files = record {
            run = subst (λ (d : D). replay (form_of (disk.image d)) (files_of (disk.image d)) m.world.journal.list ≡ Some (files_of (image_on disk.image k))) (sym opening)
                (ap (λ (es : List Entry). replay (form_of (disk.image k.opening)) (files_of (disk.image k.opening)) es) takes.list ∙ on_disk.run);
          };
          sound = (settled disk has_now k call.known call.rests.pair.well (quiet disk k call.known all call.rests.pair.well)).sound;
          form = form_same (disk.image k.opening) (image_on disk.image k) (super disk k call.known all call.rests.pair.well);
          size = long disk k call.known all call.rests.pair.well;
          super = super disk k call.known all call.rests.pair.well;
          list = takes.list;
          none = ap (λ (l : LogState). length l.homes) takes.log ∙ no_homes k.store.volume.log k.store.volume.fault call.rests.pair.well
              (quiet disk k call.known all call.rests.pair.well) (unopened disk k call.known all call.rests.pair.well) call.log;
          labels = λ i there. disk_labels disk k call.known all call.rests.pair.well has_now i there ∙ ap (λ (es : List Entry). due_labels (disk.image k.opening) es i) (sym takes.list) ∙ ap (λ (d : D). due_labels (disk.image d) m.world.journal.list i) (sym opening);
        }

    pub begin_inside : m.store.volume.fault ≡ None → IsInside disk.fault_count m
    begin_inside well =
        let inside_m : 1 < length m.world.processes = subst (λ (n : ℕ). 1 < n) (sym rest_now.many) room in
        let l_count = counts disk (with_intake k call.i) 1 at.Idle call.known_then room call.rests.idle tt in
        let m_count = counts disk m 1 (at.BeforeTurn m.store.volume.log.opened anchor) call.known_now inside_m takes.stands tt in
        let handed_l : submitted call.i 1 ≡ length (own 1 k.world.journal.list) + 0 + length (waiting call.i 1) = l_count.handed in
        let handed_m : submitted m.intake 1 ≡ length (own 1 m.world.journal.list) + 1 + length (waiting m.intake 1) = m_count.handed in
        let same_handed : submitted m.intake 1 ≡ submitted call.i 1 = ap (λ (n : ℕ × ℕ). n.0) (rest_now.names 1) in
        let own_same : length (own 1 m.world.journal.list) ≡ length (own 1 k.world.journal.list) = ap (λ (es : List Entry). length (own 1 es)) takes.list in
        let one : length (waiting call.i 1) ≡ 1 = ap (λ (xs : List Op). length xs) was in
        let none : length (waiting m.intake 1) ≡ 0 = omega (arith, handed_l, handed_m, same_handed, own_same, one) in
        let unopened_k = unopened disk k call.known all call.rests.pair.well in
        let opened_m : m.store.volume.log.opened ≡ k.store.volume.log.opened + 1 = ap (λ (l : LogState). l.opened) takes.log ∙ ap (λ (n : ℕ). if n == 0 then k.store.volume.log.opened + 1 else k.store.volume.log.opened) unopened_k in
        let committed_m : m.store.volume.log.committed ≡ k.store.volume.log.committed = ap (λ (l : LogState). l.committed) takes.log in
        let all_done = all_committed disk k call.known all call.rests.pair.well in
        record {
          pair = record {
            two = rest_now.many ∙ call.rests.pair.two;
            tasks = rest_now.tasks.many ∙ call.rests.pair.tasks;
            free = ap (λ (u : Process). u.at) (rest_now.others 0 apart) ∙ call.rests.pair.free;
            released = λ i. ap (λ (u : TaskState). claim_of u i) (rest_now.tasks.others 0 apart) ∙ call.rests.pair.released i;
            first = record {
              waits = rest_now.sides 0 apart ∙ (call.others 0 apart).0 ∙ call.rests.pair.first.waits;
              fetched = ap (λ (n : ℕ × ℕ). n.1) (rest_now.names 0) ∙ (call.others 0 apart).2 ∙ call.rests.pair.first.fetched ∙ ap (λ (es : List Entry). length (own 0 es)) (sym takes.list);
            };
            second = record {
              waits = nil_from_length (waiting m.intake 1) none;
              fetched = ap (λ (n : ℕ × ℕ). n.1) (rest_now.names 1) ∙ call.fetched ∙ call.rests.pair.second.fetched ∙ ap (λ (es : List Entry). length (own 1 es)) (sym takes.list);
            };
            well = well;
            faultless = still_faultless disk m call.known_now well;
            unshut = rest_now.unshut;
          };
          anchored = takes.stands;
          open_one = record {
            outstanding = ap (λ (l : LogState). l.outstanding) takes.log ∙ ap (λ (n : ℕ). n + 1) unopened_k;
            quiet = ap (λ (l : LogState). l.commit) takes.log ∙ quiet disk k call.known all call.rests.pair.well;
            opened = omega (arith, opened_m, committed_m, all_done);
          };
          empty_handed = takes.stage (let tasks = call.rests.pair.tasks in omega (arith, tasks));
        }
