-- A call in a transaction.
use Rattle.std.proofs.Common.{◌≡◌, ◌≢◌, ◌∙◌, ◌<◌, inl, inr, ℕ, zero, suc, ◌+◌, ◌^◌, Bool, true, false, List, [], ◌∷◌, ◌++◌, length, Option, Some, None, refl, sym, ap, subst, ⊎_elim, arith}
use Rattle.std.specs.Prelude.{nat_lt, IfNone}
use Rattle.std.specs.Option.{option_map}
use Rattle.std.proofs.lemmas.List.{length-append}
use Rattle.blocks.specs.Calls.{OnlyReads}
use Rattle.blocks.specs.Disk.{Image, LeavesOnly}
use Rattle.blocks.specs.declared.disk.Disk.{Ghosts}
use Rattle.model.specs.declared.types.operations.Entry.{Entry}
use Rattle.model.specs.declared.types.operations.Op.{Op}
use Rattle.model.specs.declared.types.operations.Why.{Why}
use Rattle.model.specs.declared.types.operations.Why.TheVariants as why
use Rattle.model.specs.Files.{Files}
use Rattle.model.specs.Journal.{own}
use Rattle.model.specs.Layout.{form_of}
use Rattle.model.specs.Operations.{after}
use Rattle.wal.specs.Machine.{LogState}
use Rattle.wal.specs.declared.types.DeviceFault.{DeviceFault}
use Rattle.inodes.specs.Holding.{claim_of}
use Rattle.inodes.specs.Store.{StoreState, first_taking}
use Rattle.inodes.specs.Tasks.{TaskState, task}
use Rattle.ports.specs.History.{Side, first_in}
use Rattle.ports.specs.Lanes.{polled_after}
use Rattle.ports.specs.Queues.{OthersWait, answers, polled, waiting}
use Rattle.history.specs.declared.types.Phase.{Phase}
use Rattle.history.specs.declared.types.Phase.TheVariants as at
use Rattle.history.specs.declared.types.Process.{Process}
use Rattle.history.specs.Bound.{is_busy_at}
use Rattle.history.specs.Processes.{World, process}
use Rattle.kernel.specs.Awake.{cause_by}
use Rattle.kernel.specs.Known.{IsCurrent, Known}
use Rattle.kernel.specs.Moves.{MakesSteps}
use Rattle.kernel.specs.Next.{BeginsNext, BeginsWith, HasNoRoom, IsNotTaken, NextAt, NextIf}
use Rattle.kernel.specs.Sleeping.{SleepsForCause}
use Rattle.kernel.specs.State.{class_of}
use Rattle.model.specs.declared.types.operations.Step.{Step}
use Rattle.model.specs.declared.types.operations.Step.TheVariants as step
use Rattle.kernel.specs.declared.class.OpClass.{OpClass}
use Rattle.kernel.specs.declared.class.OpClass.TheVariants as waiting_as
use Rattle.calls.specs.Lemmas.Reaching.{reached_ports, reached_steps, reached_then}
use Rattle.calls.specs.Stepping.{IsReached, MakesPlainStep, Plain, plain_herald, plain_queues}
use Rattle.calls.specs.Calls.{image_on, is_look}
use Rattle.calls.specs.Transactions.{Adds, HasFiles, IsFetched, IsInside, IsOnlyRead, IsOpenBy, KeepsFiles, anchor, has_room}
use Rattle.calls.proofs.Called.{IsCall, call_after, call_answered, call_name, call_opening, call_over, call_run, call_stage, given, halts_not, is_call, is_faultless, still_faultless, with_intake}
use Rattle.calls.proofs.Counting.{IsAnswered, IsFree, fetched_again, fetched_still, room_left}
use Rattle.calls.proofs.Going.{After, LeavesOthers, Stage}
use Rattle.calls.proofs.Idle.{of_two}
use Rattle.calls.proofs.Inside.{HasOpen, Inside, LogIs, inside_kept, still_open}
use Rattle.calls.proofs.Keeping.{IsSettled, leaves_before, settled}
use Rattle.calls.proofs.Released.{adds_lowest, adds_none, call_releases}
use Rattle.calls.proofs.Shorts.{short_seen}
use Rattle.calls.proofs.Stages.{Comes, IsKept, IsLeft, IsOver, Where, first_waits, is_left, waits_or_busy}
use Rattle.calls.proofs.Telling.{files_then, labels_then_made, told_files}
use Rattle.calls.proofs.Waiting.{has_begun, waits_for_buffer, by_causes, has_no_slot}
use Rattle.calls.proofs.Sleeping.{asleep_same}
use Rattle.inodes.specs.Waiting.{AloneGetsBuffers, sleep_cause}

-- An operation of process 0 was handed in to k, in a transaction, and steps made m of it, of which the
-- last answered r.
pub record IsAdding {D N : Type 0} (disk : Ghosts D N) (op : Op) (r : Step) (k m : Plain D) : Type 0 where
  pub inside : IsInside disk.fault_count k
  pub room : has_room op k.store.volume.log ≡ true
  pub call : IsCall disk 0 op r k m
  pub others : OthersWait k.intake call.i 0

pub is_adding : {D N : Type 0} (disk : Ghosts D N) (op : Op) (r : Step) (k l m : Plain D) → IsInside disk.fault_count k → length k.world.journal.list < 2 ^ 63 → has_room op k.store.volume.log ≡ true → l ≡ with_intake k l.intake → waiting l.intake 0 ≡ waiting k.intake 0 ++ op ∷ [] → polled l.intake 0 ≡ polled k.intake 0 → OthersWait k.intake l.intake 0
    → Known disk plain_queues plain_herald l → Known disk plain_queues plain_herald m → MakesSteps disk plain_queues plain_herald 0 r l m → IsAdding disk op r k m
unfolding is_call
is_adding disk op r k l m inside few room same waits fetched others known_then known_now makes =
    let two = inside.pair.two in
    record {
      inside = inside;
      room = room;
      call = is_call disk 0 op r k l m (omega (arith, two)) inside.pair.free inside.pair.first inside.pair.unshut inside.pair.faultless few same waits fetched known_then known_now makes;
      others = others;
    }

-- with the answer, or for want of memory or a buffer
abbrev pub EndsSo : Step → Type 0
EndsSo step.Moved = ⊥
EndsSo step.Answered = Unit {0}
EndsSo (step.Sleeping cause) = Unit {0}
EndsSo step.Idle = ⊥
EndsSo step.NoMemory = Unit {0}
EndsSo step.ShutDown = ⊥
EndsSo step.Halted = ⊥

-- ---- an operation that may begin is taken

module _ {D N : Type 0} (disk : Ghosts D N) (op : Op) (cause : Why) (s t : StoreState D) (w z : World) (room : has_room op s.volume.log ≡ true) (before : List Op) (was : before ≡ op ∷ []) (side : Side) (told : Bool) (empty : z ≡ w → side.has_room ≡ true) where
  full_not : z ≡ w → HasNoRoom side.has_room (step.Sleeping cause) → ⊥
  full_not same full = let no : false ≡ true = sym full.1 ∙ empty same in cc no

  not_taken : (what : OpClass) → class_of s.table.inode_count op ≡ what → z ≡ w → IsNotTaken (Some what) s.volume.log side.has_room (step.Sleeping cause) → ⊥
  not_taken waiting_as.Refused is same (inl full) = full_not same full
  not_taken waiting_as.Refused is same (inr none) = let e = none.0 in cc e
  not_taken (waiting_as.Look count) is same (inl full) = full_not same full
  not_taken (waiting_as.Look count) is same (inr none) = let e = none.0 in cc e
  not_taken waiting_as.Change is same (inl full) = full_not same full
  not_taken waiting_as.Change is same (inr (inr none)) = let e = none.0.0 in cc e
  not_taken waiting_as.Change is same (inr (inl out)) = has_begun s.table.inode_count op s.volume.log out.0 is room out.2

  begins_with : (ahead : List Op) → first_in ahead ≡ Some op → BeginsWith (option_map (class_of s.table.inode_count) (first_in ahead)) s w 0 ahead side (step.Sleeping cause) t z → ⊥
  begins_with ahead first (inl takes) = let e = takes.answer in cc e
  begins_with ahead first (inr (inl takes)) = let e = takes.answer in cc e
  begins_with ahead first (inr (inr (inl takes))) = let e = takes.answer in cc e
  begins_with ahead first (inr (inr (inr takes))) =
      not_taken (class_of s.table.inode_count op) refl takes.same.1
      (subst (λ (o : Option Op). IsNotTaken (option_map (class_of s.table.inode_count) o) s.volume.log side.has_room (step.Sleeping cause)) first takes.answer)

  begins_not : BeginsNext s w 0 before side told (step.Sleeping cause) t z → ⊥
  begins_not (inl shut) = let e = shut.answer in cc e
  begins_not (inr none) = begins_with none.ahead (first_waits op before none.ahead was none.prefix) none.begins

  next_not : (f : Option DeviceFault) → NextIf disk f s w 0 before side told (step.Sleeping cause) t z → (process w 0).at ≡ at.Idle → ⊥
  next_not None next idle = begins_not (subst (λ (a : Phase). NextAt disk a s w 0 before side told (step.Sleeping cause) t z) idle next)
  next_not (Some fault) next idle = let e = next.0 in cc e

module _ {D N : Type 0} (disk : Ghosts D N) (op : Op) (r : Step) (k m : Plain D) (adding : IsAdding disk op r k m) where
  c : ℕ
  c = k.store.volume.log.committed

  o : ℕ
  o = k.store.volume.log.opened

  positive : o ≡ c + 1
  unfolding c o
  positive = sym adding.inside.open_one.opened

  open_one : LogIs 1 c o k.store.volume.log
  unfolding c o
  open_one = record { outstanding = adding.inside.open_one.outstanding; quiet = adding.inside.open_one.quiet; committed = refl; opened = refl }

  abbrev l : Plain D
  l = given disk 0 op r k m adding.call

  abbrev P : Where → StoreState D → Type 0
  P = Inside disk 0 op k.store c o positive open_one (is_look op)

  kept : IsKept disk 0 op P
  kept = inside_kept disk 0 op k.store c o positive open_one (is_look op) refl

  mid_stage : Stage disk 0 op P l adding.call.makes.mid
  mid_stage = call_stage disk 0 op r k m adding.call P kept refl

  now : After disk 0 op P l r m
  now = call_after disk 0 op r k m adding.call P kept refl

  rest : LeavesOthers 0 l m
  rest = now.rest

  left : IsLeft 0 op P k.world.journal.list m.store m.world.journal.list
  left = is_left 0 op P k.world.journal.list r (waiting m.intake 0) m.store m.world now.comes

  open_still : (n : ℕ) × HasOpen disk 0 op k.store c o positive open_one n m.store
  open_still = still_open disk 0 op k.store c o positive open_one (is_look op) left.stand m.store left.holds

  -- a call in a transaction only reads
  pub call_reads : OnlyReads disk k.store.volume.device m.store.volume.device
  call_reads = open_still.1.reads

  -- the image on the disk is the opening's, with the groups of before
  set_then : ((d : D) → disk.leaves d (disk.moment d) (disk.image d)) → IsSettled disk l
  set_then has_now = settled disk has_now l adding.call.known_then adding.inside.pair.well adding.inside.open_one.quiet

  long_now : ((d : D) → disk.leaves d (disk.moment d) (disk.image d)) → length (image_on disk.image m) ≡ k.store.volume.log.size
  long_now has_now =
      let current : IsCurrent disk.image l = subst (λ (f : Option DeviceFault). IfNone f (IsCurrent disk.image l)) adding.inside.pair.well adding.call.known_then.current in
      ap (λ (x : Image). length x) call_reads.image ∙ (set_then has_now).size ∙ sym current.size

  -- a stop keeps nothing of the transaction
  pub call_leaves : ((d : D) → disk.leaves d (disk.moment d) (disk.image d)) → LeavesOnly disk.moment disk.leaves k.store.volume.device m.store.volume.device (KeepsFiles (image_on disk.image k))
  unfolding c
  call_leaves has_now =
      leaves_before disk l m (set_then has_now) (call_run disk 0 op r k m adding.call) open_still.1.log.quiet open_still.1.log.committed

  -- its steps are turns of the process
  pub call_reached : IsReached disk k m
  call_reached = reached_then disk k l m (reached_ports disk k l refl) (reached_steps disk 0 r l m adding.call.makes)

  -- it may only have read
  pub call_stays : m.store.volume.fault ≡ None → IsOnlyRead disk k m
  call_stays well = (call_reads, is_faultless disk 0 op r k m adding.call well)

  apart : suc zero ≢ 0
  apart e = let no : ⊥ = omega (arith, e) in no

  -- who sleeps is under way: what waits may begin, for room in the log was left, and is taken
  module _ (sleeps : SleepsForCause disk plain_queues plain_herald) (cause : Why) (so : r ≡ step.Sleeping cause) where
    abbrev mid : Plain D
    mid = adding.call.makes.mid

    made_last : MakesPlainStep disk 0 (step.Sleeping cause) mid m
    made_last = subst (λ (q : Step). MakesPlainStep disk 0 q mid m) so adding.call.makes.made

    under_way : is_busy_at (process mid.world 0).at ≡ true
    under_way = ⊎_elim
        (λ (stands, waits, list, same). (let empty : m.world ≡ mid.world → nat_lt (length (answers m.intake 0)) 16 ≡ true = λ (still : m.world ≡ mid.world). room_left disk l m 0 adding.call.known_now adding.call.inside rest (adding.call.fetched ∙ adding.call.own.fetched) adding.call.few (ap (λ (w : World). (process w 0).at) still ∙ stands) (ap (λ (w : World). w.journal.list) still ∙ list) in
        absurd (next_not disk op cause mid.store m.store mid.world m.world (subst (λ (s : StoreState D). has_room op s.volume.log ≡ true) (sym same) adding.room) (waiting mid.intake 0) waits (plain_queues.side m.intake 0) false empty mid.store.volume.fault made_last.acts.next stands)))
        (λ (busy : is_busy_at (process mid.world 0).at ≡ true). busy)
        (waits_or_busy 0 op P k.world.journal.list (process mid.world 0).at (waiting mid.intake 0) mid.store mid.world.journal.list mid_stage.stands)

    two_tasks : length mid.store.tasks ≡ 2
    two_tasks = mid_stage.rest.tasks.many ∙ adding.inside.pair.tasks

    anchor_stands : (task mid.store.tasks 1).stage ≡ first_taking 1
    anchor_stands = ap (λ (u : TaskState). u.stage) (mid_stage.rest.tasks.others 1 apart) ∙ adding.inside.empty_handed

    why_so : cause_by (process mid.world 0).at (sleep_cause mid.store 0) ≡ Some cause
    why_so = sleeps mid m 0 cause under_way made_last

    -- it waits for a buffer, never for the anchor
    for_buffer : cause ≡ why.NoBuffer
    for_buffer = waits_for_buffer mid.store two_tasks anchor_stands disk mid.world (waiting mid.intake 0) (plain_queues.side m.intake 0) false m.store m.world cause mid.store.volume.fault why_so made_last.acts.next under_way

    -- and not for a buffer, for the anchor holds none
    pub call_wakes : m.store.volume.fault ≡ None → IfNone m.store.volume.fault (AloneGetsBuffers m.store) → ⊥
    call_wakes well alone =
        let same : m.store ≡ mid.store = (asleep_same disk mid.store mid.world 0 cause (waiting mid.intake 0) (plain_queues.side m.intake 0) false m.store m.world mid.store.volume.fault made_last.acts.next under_way).0 in
        let here : AloneGetsBuffers mid.store = subst AloneGetsBuffers same (subst (λ (f : Option DeviceFault). IfNone f (AloneGetsBuffers m.store)) well alone) in
        here 0 (λ q apart_q i has. has_no_slot mid.store two_tasks anchor_stands q i apart_q has)
        (by_causes (process mid.world 0).at (sleep_cause mid.store 0) cause why_so ∙ ap (λ (w : Why). Some w) for_buffer)

  -- its steps end with the answer, or for want of memory or a buffer
  pub call_ends : m.store.volume.fault ≡ None → (q : Step) → r ≡ q → EndsSo q
  call_ends well q is = by q is (subst (λ (s : Step). MakesPlainStep disk 0 s adding.call.makes.mid m) is adding.call.makes.made) (subst (λ (s : Step). Comes 0 op P k.world.journal.list s (waiting m.intake 0) m.store m.world) is now.comes)
    where
      by : (q : Step) → r ≡ q → MakesPlainStep disk 0 q adding.call.makes.mid m → Comes 0 op P k.world.journal.list q (waiting m.intake 0) m.store m.world → EndsSo q
      by step.Moved is made comes = adding.call.makes.last is
      by step.Answered is made comes = tt
      by (step.Sleeping cause) is made comes = tt
      by step.Idle is made comes = comes
      by step.NoMemory is made comes = tt
      by step.ShutDown is made comes = comes
      by step.Halted is made comes = halts_not m.store.volume.fault well made.acts.device.halted

  -- where it was answered
  module _ (so : r ≡ step.Answered) where
    over : IsOver 0 op P k.world.journal.list m.store m.world
    over = call_over disk 0 op r k m adding.call P kept refl so

    pub call_done : IsAnswered 0 op l m
    call_done = call_answered disk 0 op r k m adding.call P kept refl so

    -- the anchor still stands at its beginning
    anchored : (process m.world 1).at ≡ at.BeforeTurn k.store.volume.log.opened anchor
    anchored = ap (λ (u : Process). u.at) (rest.others 1 apart) ∙ adding.inside.anchored

    all_free : (p : ℕ) → IsFree (process m.world p).at
    all_free = of_two m.world IsFree (rest.many ∙ adding.inside.pair.two) tt (subst IsFree (sym over.idle) tt) (subst IsFree (sym anchored) tt)

    free_before : (p : ℕ) → IsFree (process k.world p).at
    free_before = of_two k.world IsFree adding.inside.pair.two tt (subst IsFree (sym adding.inside.pair.free) tt) (subst IsFree (sym adding.inside.anchored) tt)

    pub call_adds : ((d : D) → disk.leaves d (disk.moment d) (disk.image d)) → m.store.volume.fault ≡ None → (n : Plain D) → n ≡ with_intake m n.intake → Adds disk.image op k n call_done.answer.reply
    call_adds has_now well n same =
        let is = call_done in
        let told = told_files disk m adding.call.known_now all_free in
        let adds : (f : Files) → HasFiles disk.image k f → after (form_of (disk.image k.opening)) f op is.answer.reply ≡ Some told.0
        = λ f has. files_then disk l m is.entry op is.answer.reply (call_run disk 0 op r k m adding.call).opening is.list is.same is.replied f told.0 (record { run = has.run }) told.1 in
        let pair = adding.inside.pair in
        subst (λ (s : Plain D). Adds disk.image op k s call_done.answer.reply) (sym same) (record {
          same = call_reads.image;
          files = λ f has. (told.0, adds f has, record { run = told.1.run });
          lowest = λ f has. adds_lowest disk op r k m adding.call so is pair.well pair.tasks pair.released adding.inside.empty_handed free_before f told.0 has (adds f has);
          none = λ f has. adds_none disk op r k m adding.call so is pair.well pair.tasks pair.released adding.inside.empty_handed free_before f has;
          short = short_seen disk op r k m adding.call so is well all_free (long_now has_now);
          labels = labels_then_made disk.image k m is.entry is.answer.reply (call_opening disk 0 op r k m adding.call) is.list is.replied;
          one_more = ap (λ (es : List Entry). length es) is.list ∙ length-append k.world.journal.list (is.entry ∷ []);
          room = over.holds.1;
        })

    pub call_inside : (n : Plain D) → m.store.volume.fault ≡ None → n ≡ with_intake m n.intake → waiting n.intake 0 ≡ waiting m.intake 0 → polled n.intake 0 ≡ polled_after (first_in (answers m.intake 0)) (polled m.intake 0) → OthersWait m.intake n.intake 0 → IsInside disk.fault_count n
    unfolding c o
    call_inside n well same waits fetched others =
        let world : n.world ≡ m.world = ap (λ (s : Plain D). s.world) same in
        let log : n.store.volume.log ≡ m.store.volume.log = ap (λ (s : Plain D). s.store.volume.log) same in
        let pair = adding.inside.pair in
        let l_second : IsFetched l 1 = record { waits = (adding.others 1 apart).0 ∙ pair.second.waits; fetched = (adding.others 1 apart).2 ∙ pair.second.fetched } in
        let second : IsFetched m 1 = fetched_still 0 1 op l m apart l_second rest left.lists in
        let log_over = over.holds.0.log in
        let opened : m.store.volume.log.opened ≡ k.store.volume.log.opened = log_over.opened in
        record {
          pair = record {
            two = ap (λ (w : World). length w.processes) world ∙ rest.many ∙ pair.two;
            tasks = ap (λ (s : Plain D). length s.store.tasks) same ∙ rest.tasks.many ∙ pair.tasks;
            free = ap (λ (w : World). (process w 0).at) world ∙ over.idle;
            released = λ i. ap (λ (s : Plain D). claim_of (task s.store.tasks 0) i) same ∙ call_releases disk 0 op r k m adding.call pair.released so i;
            first = fetched_again 0 op l m n call_done adding.call.few world waits fetched;
            second = record { waits = (others 1 apart).0 ∙ second.waits; fetched = (others 1 apart).2 ∙ second.fetched ∙ ap (λ (w : World). length (own 1 w.journal.list)) (sym world) };
            well = ap (λ (s : Plain D). s.store.volume.fault) same ∙ well;
            faultless = ap (λ (s : Plain D). disk.fault_count s.store.volume.device) same ∙ still_faultless disk m adding.call.known_now well ∙ ap (λ (s : Plain D). disk.fault_count s.opening) (sym same);
            unshut = ap (λ (w : World). w.is_shut) world ∙ rest.unshut;
          };
          anchored = ap (λ (w : World). (process w 1).at) world ∙ anchored ∙ ap (λ (g : ℕ). at.BeforeTurn g anchor) (sym (ap (λ (x : LogState). x.opened) log ∙ opened));
          open_one = subst (λ (x : LogState). IsOpenBy 1 x) (sym log) (record {
            outstanding = log_over.outstanding;
            quiet = log_over.quiet;
            opened = ap (λ (x : ℕ). x + 1) log_over.committed ∙ adding.inside.open_one.opened ∙ sym log_over.opened;
          });
          empty_handed = ap (λ (s : Plain D). (task s.store.tasks 1).stage) same ∙ ap (λ (u : TaskState). u.stage) (rest.tasks.others 1 apart) ∙ adding.inside.empty_handed;
        }

-- ---- what it leaves, however it ends

pub record LeavesInside {D N : Type 0} (disk : Ghosts D N) (k m : Plain D) : Type 0 where
  pub reads : OnlyReads disk k.store.volume.device m.store.volume.device
  pub leaves : LeavesOnly disk.moment disk.leaves k.store.volume.device m.store.volume.device (KeepsFiles (image_on disk.image k))
  pub reached : IsReached disk k m
  pub opening : m.opening ≡ k.opening
  pub name : disk.name m.store.volume.device ≡ disk.name k.store.volume.device

pub call_left : {D N : Type 0} (disk : Ghosts D N) (op : Op) (r : Step) (k m : Plain D) → IsAdding disk op r k m → ((d : D) → disk.leaves d (disk.moment d) (disk.image d)) → LeavesInside disk k m
call_left disk op r k m adding has_now = record {
  reads = call_reads disk op r k m adding;
  leaves = call_leaves disk op r k m adding has_now;
  reached = call_reached disk op r k m adding;
  opening = call_opening disk 0 op r k m adding.call;
  name = call_name disk 0 op r k m adding.call;
}

-- once the answer is fetched, too
pub fetched_left : {D N : Type 0} (disk : Ghosts D N) (k m n : Plain D) → n ≡ with_intake m n.intake → LeavesInside disk k m → LeavesInside disk k n
fetched_left disk k m n same left = record {
  reads = subst (λ (s : Plain _). OnlyReads disk k.store.volume.device s.store.volume.device) (sym same) left.reads;
  leaves = subst (λ (s : Plain _). LeavesOnly disk.moment disk.leaves k.store.volume.device s.store.volume.device (KeepsFiles (image_on disk.image k))) (sym same) left.leaves;
  reached = reached_then disk k m n left.reached (reached_ports disk m n same);
  opening = ap (λ (s : Plain _). s.opening) same ∙ left.opening;
  name = ap (λ (s : Plain _). disk.name s.store.volume.device) same ∙ left.name;
}
