-- The commit of a transaction.
use Rattle.std.proofs.Common.{◌≡◌, ◌≢◌, ◌∙◌, ◌<◌, inl, inr, ℕ, zero, suc, ◌^◌, Bool, true, false, cond, List, [], ◌∷◌, length, Option, Some, None, refl, sym, ap, subst, ⊎_elim, arith}
use Rattle.std.specs.Prelude.{IfNone}
use Rattle.std.proofs.lemmas.List.{length-append, get_or_past}
use Rattle.blocks.specs.Disk.{Image, LeavesOnly, block_at}
use Rattle.blocks.specs.declared.disk.Disk.{Ghosts}
use Rattle.model.specs.declared.types.operations.Entry.{Entry}
use Rattle.model.specs.declared.types.operations.Op.{Op}
use Rattle.model.specs.declared.types.operations.Why.{Why}
use Rattle.model.specs.Files.{Files, files_of}
use Rattle.model.specs.Crash.{IsUntouched}
use Rattle.model.specs.Journal.{kept, own}
use Rattle.model.specs.Agreement.{is_outside_log}
use Rattle.model.specs.Fields.{has_bit}
use Rattle.model.specs.Layout.{bitmap_block, form_of, inode_count_of, is_marked, super_in, super_of}
use Rattle.model.specs.Lemmas.OutsideLog.{behind_log}
use Rattle.ports.specs.History.{first_in}
use Rattle.ports.specs.Lanes.{polled_after}
use Rattle.ports.specs.Queues.{OthersWait, answers, polled, waiting}
use Rattle.inodes.specs.Holding.{claim_of}
use Rattle.inodes.specs.Store.{StoreState, current_of}
use Rattle.inodes.specs.declared.ilock.LockAt.{LockAt}
use Rattle.inodes.specs.Tasks.{TaskState, task}
use Rattle.inodes.specs.Waiting.{sleep_cause}
use Rattle.wal.specs.declared.types.DeviceFault.{DeviceFault}
use Rattle.history.specs.declared.types.Phase.{Phase}
use Rattle.history.specs.declared.types.Phase.TheVariants as at
use Rattle.history.specs.declared.types.Process.{Process}
use Rattle.history.specs.Bound.{is_busy_at}
use Rattle.history.specs.Processes.{World, process}
use Rattle.kernel.specs.Awake.{IsAwake, OneGoesOn, cause_by, cause_of}
use Rattle.kernel.specs.Known.{Known}
use Rattle.kernel.specs.Runs.{RunsOn}
use Rattle.kernel.specs.Sleeping.{SleepsForCause}
use Rattle.model.specs.declared.types.operations.Step.{Step}
use Rattle.model.specs.declared.types.operations.Step.TheVariants as step
use Rattle.kernel.specs.Moves.{MakesSteps}
use Rattle.calls.specs.Lemmas.Reaching.{reached_steps}
use Rattle.calls.specs.Stepping.{IsReached, Plain, MakesPlainStep, plain_herald, plain_queues}
use Rattle.calls.specs.Calls.{HasFailed, image_on}
use Rattle.calls.specs.Transactions.{Commits, HasFiles, IsFetched, IsInside, KeepsEither, Rests, anchor, labels_made}
use Rattle.calls.proofs.Anchored.{Anchored, IsSameSeen, anchored_kept}
use Rattle.calls.proofs.Anchoring.{anchor_keeps, anchor_makes_none}
use Rattle.calls.proofs.Called.{halts_not, has_failed, still_faultless, with_intake}
use Rattle.calls.proofs.Counting.{IsAnswered, IsFree, fetched_again, fetched_still, is_answered}
use Rattle.calls.proofs.Going.{After, LeavesOthers, Stage, others_none, stages_move, steps_after, steps_name, steps_run}
use Rattle.calls.proofs.Idle.{bitmap, disk_files, disk_labels, long, of_two, on_disk, quiet, super, two_idle}
use Rattle.calls.proofs.Keeping.{leaves_either, settled}
use Rattle.calls.proofs.Sleeping.{asleep_same}
use Rattle.calls.proofs.Stages.{AfterTurn, Answered, BeforeTurn, Committing, Comes, IsKept, IsOver, ListIs, Over, StandsAt, Waits, Where, is_left, waits_or_busy}
use Rattle.calls.proofs.Telling.{files_then, labels_then_made, told_files}
use Rattle.calls.proofs.Unshown.{untouched_since}

-- Steps of the anchor made m of k, where a transaction was under way; the last of them answered r.
pub record IsCommit {D N : Type 0} (disk : Ghosts D N) (r : Step) (k m : Plain D) : Type 0 where
  pub inside : IsInside disk.fault_count k
  pub few : length k.world.journal.list < 2 ^ 63
  pub known_then : Known disk plain_queues plain_herald k
  pub known_now : Known disk plain_queues plain_herald m
  pub makes : MakesSteps disk plain_queues plain_herald 1 r k m

-- steps end with the answer
abbrev pub EndsSo : Step → Type 0
EndsSo step.Moved = ⊥
EndsSo step.Answered = Unit {0}
EndsSo (step.Sleeping cause) = ⊥
EndsSo step.Idle = ⊥
EndsSo step.NoMemory = ⊥
EndsSo step.ShutDown = ⊥
EndsSo step.Halted = ⊥

-- it is under way
abbrev UnderWay : {D : Type 0} → Where → StoreState D → Type 0
UnderWay Waits s = ⊥
UnderWay (BeforeTurn g) s = Unit {0}
UnderWay (AfterTurn g r) s = Unit {0}
UnderWay (Over g r) s = Unit {0}
UnderWay (Committing r) s = Unit {0}
UnderWay (Answered r) s = Unit {0}

under_way : {D N : Type 0} (disk : Ghosts D N) → IsKept disk 1 anchor (UnderWay {D = D})
under_way disk = record {
  begins = λ s kind none. absurd none;
  looks = λ s count kind none. absurd none;
  refused = λ s none. absurd none;
  works = λ g s t x unturned steps was. tt;
  turns = λ g s t r steps was. tt;
  turns_over = λ g s t r over steps was. tt;
  goes = λ g s t r x going steps was. tt;
  decides = λ g s t r reply untold steps was. tt;
  ends = λ g s t r steps was. tt;
  decides_alone = λ s t r reply untold steps was. tt;
  ends_alone = λ s t r steps was. tt;
  leaves = λ g s r was. tt;
  closes = λ g s r commits was. tt;
  commits = λ s t r x commits was. tt;
  committed = λ s r was. tt;
}

-- of two processes the first of which is idle, the second is the one that is busy
busy_second : (w : World) (q : ℕ) → length w.processes ≡ 2 → (process w 0).at ≡ at.Idle → is_busy_at (process w q).at ≡ true → q ≡ 1
busy_second w zero two free busy = let no : false ≡ true = sym (ap is_busy_at free) ∙ busy in absurd (cc no)
busy_second w (suc zero) two free busy = refl
busy_second w (suc (suc q)) two free busy =
    let none : process w (suc (suc q)) ≡ Rattle.history.specs.Processes.idle = get_or_past w.processes (suc (suc q)) Rattle.history.specs.Processes.idle (omega (arith, two)) in
    let no : false ≡ true = sym (ap (λ (u : Process). is_busy_at u.at) none) ∙ busy in absurd (cc no)

module _ {D N : Type 0} (disk : Ghosts D N) (r : Step) (k m : Plain D) (call : IsCommit disk r k m) where
  room : 1 < length k.world.processes
  room = let two = call.inside.pair.two in omega (arith, two)

  first : Stage disk 1 anchor UnderWay k k
  first = record {
    rest = others_none 1 k call.inside.pair.unshut;
    stands = subst (λ (a : Phase). StandsAt 1 anchor UnderWay k.world.journal.list a (waiting k.intake 1) k.store k.world.journal.list) (sym call.inside.anchored) (refl, refl, tt);
  }

  first_seen : Stage disk 1 anchor (Anchored disk (current_of disk.image k.store.volume)) k k
  first_seen = record {
    rest = others_none 1 k call.inside.pair.unshut;
    stands = subst (λ (a : Phase). StandsAt 1 anchor (Anchored disk (current_of disk.image k.store.volume)) k.world.journal.list a (waiting k.intake 1) k.store k.world.journal.list) (sym call.inside.anchored)
        (refl, refl, (λ b out. refl, inl (record { number = 1; at = LockAt.Reference }, call.inside.empty_handed)));
  }

  mid_stage : Stage disk 1 anchor UnderWay k call.makes.mid
  mid_stage = stages_move disk 1 anchor UnderWay k (under_way disk) room call.makes.moved k call.makes.mid call.makes.moves first

  now : After disk 1 anchor UnderWay k r m
  now = steps_after disk 1 anchor UnderWay k (under_way disk) room r k m call.makes first

  rest_now : LeavesOthers 1 k m
  rest_now = now.rest

  lists : ListIs 1 anchor k.world.journal.list m.world.journal.list
  lists = (is_left 1 anchor UnderWay k.world.journal.list r (waiting m.intake 1) m.store m.world now.comes).lists

  apart : zero ≢ 1
  apart e = let no : ⊥ = omega (arith, e) in no

  free_now : (process m.world 0).at ≡ at.Idle
  free_now = ap (λ (u : Process). u.at) (rest_now.others 0 apart) ∙ call.inside.pair.free

  run : RunsOn disk k m
  run = steps_run disk 1 r k m call.makes call.known_then

  pub commit_opening : m.opening ≡ k.opening
  commit_opening = run.opening

  pub commit_name : disk.name m.store.volume.device ≡ disk.name k.store.volume.device
  commit_name = steps_name disk 1 r k m call.makes

  pub commit_reached : IsReached disk k m
  commit_reached = reached_steps disk 1 r k m call.makes

  pub commit_failed : (fault : DeviceFault) → m.store.volume.fault ≡ Some fault → HasFailed disk k m fault
  commit_failed fault is = has_failed disk k m fault call.known_now run.opening call.inside.pair.faultless is

  -- ALL OR NOTHING
  pub commit_leaves : ((d : D) → disk.leaves d (disk.moment d) (disk.image d)) → (f : Files) → HasFiles disk.image k f → LeavesOnly disk.moment disk.leaves k.store.volume.device m.store.volume.device (KeepsEither (image_on disk.image k) f (labels_made disk.image k))
  commit_leaves has_now f has =
      let was = settled disk has_now k call.known_then call.inside.pair.well call.inside.open_one.quiet in
      leaves_either disk k m was run f has call.known_then call.inside.open_one.opened (⊎_elim (λ same. inl same) (λ more. inr (more.entry, more.is, more.same)) lists)

  -- who commits does not wait
  never_sleeps : SleepsForCause disk plain_queues plain_herald → (cause : Why) → m.store.volume.fault ≡ None → MakesPlainStep disk 1 (step.Sleeping cause) call.makes.mid m → ⊥
  never_sleeps sleeps cause well made =
      let mid = call.makes.mid in
      let busy : is_busy_at (process mid.world 1).at ≡ true = ⊎_elim (λ waits. absurd waits.3) (λ busy. busy) (waits_or_busy 1 anchor UnderWay k.world.journal.list (process mid.world 1).at (waiting mid.intake 1) mid.store mid.world.journal.list mid_stage.stands) in
      let same = asleep_same disk mid.store mid.world 1 cause (waiting mid.intake 1) (plain_queues.side m.intake 1) false m.store m.world mid.store.volume.fault made.acts.next busy in
      let awake : IsAwake disk.image m = subst (λ (f : Option DeviceFault). IfNone f (IsAwake disk.image m)) well made.progress.awake in
      let goes : OneGoesOn m = awake.under_way 1 (ap (λ (w : World). is_busy_at (process w 1).at) same.1 ∙ busy) in
      let me : goes.pid ≡ 1 = busy_second m.world goes.pid (rest_now.many ∙ call.inside.pair.two) free_now goes.busy in
      let none : cause_of m 1 ≡ None = subst (λ (q : ℕ). cause_of m q ≡ None) me goes.goes in
      let there : cause_of m 1 ≡ cause_of mid 1 = ap (λ (w : World). cause_by (process w 1).at (sleep_cause m.store 1)) same.1 ∙ ap (λ (s : StoreState D). cause_by (process mid.world 1).at (sleep_cause s 1)) same.0 in
      let unlike : None ≡ Some cause = sym none ∙ there ∙ sleeps mid m 1 cause busy made in
      cc unlike

  pub commit_ends : SleepsForCause disk plain_queues plain_herald → m.store.volume.fault ≡ None → (q : Step) → r ≡ q → EndsSo q
  commit_ends sleeps well q is = by q is (subst (λ (s : Step). MakesPlainStep disk 1 s call.makes.mid m) is call.makes.made) (subst (λ (s : Step). Comes 1 anchor UnderWay k.world.journal.list s (waiting m.intake 1) m.store m.world) is now.comes)
    where
      by : (q : Step) → r ≡ q → MakesPlainStep disk 1 q call.makes.mid m → Comes 1 anchor UnderWay k.world.journal.list q (waiting m.intake 1) m.store m.world → EndsSo q
      by step.Moved is made comes = call.makes.last is
      by step.Answered is made comes = tt
      by (step.Sleeping cause) is made comes = never_sleeps sleeps cause well made
      by step.Idle is made comes = comes
      by step.NoMemory is made comes = comes.0
      by step.ShutDown is made comes = comes
      by step.Halted is made comes = halts_not m.store.volume.fault well made.acts.device.halted

  -- where it was answered
  module _ (so : r ≡ step.Answered) (well : m.store.volume.fault ≡ None) where
    over : IsOver 1 anchor UnderWay k.world.journal.list m.store m.world
    over = subst (λ (q : Step). Comes 1 anchor UnderWay k.world.journal.list q (waiting m.intake 1) m.store m.world) so now.comes

    pub commit_answered : IsAnswered 1 anchor k m
    commit_answered =
        let none : length (waiting k.intake 1) ≡ 0 = ap (λ (xs : List Op). length xs) call.inside.pair.second.waits in
        is_answered disk 1 anchor k m room (at.BeforeTurn k.store.volume.log.opened anchor) call.inside.anchored tt call.known_then call.known_now
        call.inside.pair.second.fetched call.few (omega (arith, none)) UnderWay rest_now over

    all : (p : ℕ) → (process m.world p).at ≡ at.Idle
    all = two_idle m.world (rest_now.many ∙ call.inside.pair.two) free_now over.idle

    made_files : ((d : D) → disk.leaves d (disk.moment d) (disk.image d)) → (f : Files) → HasFiles disk.image k f → files_of (image_on disk.image m) ≡ f
    made_files has_now f has =
        let is = commit_answered in
        let form = form_of (disk.image k.opening) in
        anchor_keeps form f (files_of (image_on disk.image m)) is.answer.reply
        (files_then disk k m is.entry anchor is.answer.reply run.opening is.list is.same is.replied f (files_of (image_on disk.image m)) has (disk_files disk m call.known_now all well has_now))

    -- the anchor's entry tells no number
    labels_still : ((d : D) → disk.leaves d (disk.moment d) (disk.image d)) → (f : Files) → HasFiles disk.image k f → (i : ℕ) → labels_made disk.image m i ≡ labels_made disk.image k i
    labels_still has_now f has i =
        let is = commit_answered in
        let form = form_of (disk.image k.opening) in
        let none = anchor_makes_none form f (files_of (image_on disk.image m)) is.answer.reply i
        (files_then disk k m is.entry anchor is.answer.reply run.opening is.list is.same is.replied f (files_of (image_on disk.image m)) has (disk_files disk m call.known_now all well has_now)) in
        labels_then_made disk.image k m is.entry is.answer.reply run.opening is.list is.replied i ∙ ap (λ (b : Bool). cond b (0, 0) (labels_made disk.image k i)) none

    -- the files from before are told by the journal
    told_before : (f : Files) × HasFiles disk.image k f
    told_before = told_files disk k call.known_then (of_two k.world IsFree call.inside.pair.two tt (subst IsFree (sym call.inside.pair.free) tt) (subst IsFree (sym call.inside.anchored) tt))

    -- the anchor changed nothing that all see, and what they saw is on the disk
    outside : IsSameSeen disk (current_of disk.image k.store.volume) m.store
    outside =
        (subst (λ (q : Step). Comes 1 anchor (Anchored disk (current_of disk.image k.store.volume)) k.world.journal.list q (waiting m.intake 1) m.store m.world) so
        (steps_after disk 1 anchor (Anchored disk (current_of disk.image k.store.volume)) k (anchored_kept disk (current_of disk.image k.store.volume)) room r k m call.makes first_seen).comes).holds

    marks_same : (b : ℕ) → is_marked (image_on disk.image m) b ≡ is_marked (current_of disk.image k.store.volume) b
    marks_same b =
        let cur = current_of disk.image k.store.volume in
        let x = image_on disk.image m in
        let shown : (c : ℕ) → is_outside_log c ≡ true → block_at x c ≡ block_at cur c = λ c out. ap (λ (y : Image). block_at y c) (sym (on_disk disk m call.known_now all well)) ∙ outside c out in
        let map : (super_of x).bmapstart ≡ bitmap_block m.store.table.inode_count = bitmap disk m call.known_now all well in
        let there : (super_of cur).bmapstart ≡ (super_of x).bmapstart = ap (λ (bytes : List ℕ). (super_in bytes).bmapstart) (sym (shown 1 refl)) in
        ap (λ (bits : List ℕ). has_bit bits b) (shown (super_of x).bmapstart (behind_log (super_of x).bmapstart (omega (arith, map)))) ∙ ap (λ (c : ℕ). has_bit (block_at cur c) b) (sym there)

    pub commit_made : ((d : D) → disk.leaves d (disk.moment d) (disk.image d)) → (n : Plain D) → n ≡ with_intake m n.intake → Commits disk.image k n
    commit_made has_now n same =
        let was = settled disk has_now k call.known_then call.inside.pair.well call.inside.open_one.quiet in
        let set_m = settled disk has_now m call.known_now well (quiet disk m call.known_now all well) in
        let untouched : IsUntouched (disk.image k.opening) (image_on disk.image m) = subst (λ (d : D). IsUntouched (disk.image d) (image_on disk.image m)) run.opening set_m.marks.untouched in
        subst (λ (s : Plain D). Commits disk.image k s) (sym same) (record {
          files = made_files has_now;
          sound = set_m.sound;
          untouched = untouched_since (disk.image k.opening) (image_on disk.image k) (image_on disk.image m) (kept (inode_count_of (disk.image k.opening)) k.world.journal.list k.store.volume.log.committed) was.size was.marks untouched;
          labels = λ i there. disk_labels disk m call.known_now all well has_now i there ∙ labels_still has_now told_before.0 told_before.1 i;
          marks = marks_same;
          size = long disk m call.known_now all well ∙ ap (λ (d : D). length (disk.image d)) run.opening;
          super = super disk m call.known_now all well ∙ ap (λ (d : D). block_at (disk.image d) 1) run.opening;
          one_more = ap (λ (es : List Entry). length es) commit_answered.list ∙ length-append k.world.journal.list (commit_answered.entry ∷ []);
        })

    pub commit_rests : (n : Plain D) → n ≡ with_intake m n.intake → waiting n.intake 1 ≡ waiting m.intake 1 → polled n.intake 1 ≡ polled_after (first_in (answers m.intake 1)) (polled m.intake 1) → OthersWait m.intake n.intake 1 → Rests disk.fault_count n
    commit_rests n same waits fetched others =
        let world : n.world ≡ m.world = ap (λ (s : Plain D). s.world) same in
        let second : IsFetched n 1 = fetched_again 1 anchor k m n commit_answered call.few world waits fetched in
        let first_now : IsFetched m 0 = fetched_still 1 0 anchor k m apart call.inside.pair.first rest_now lists in
        record {
          pair = record {
            two = ap (λ (w : World). length w.processes) world ∙ rest_now.many ∙ call.inside.pair.two;
            tasks = ap (λ (s : Plain D). length s.store.tasks) same ∙ rest_now.tasks.many ∙ call.inside.pair.tasks;
            free = ap (λ (w : World). (process w 0).at) world ∙ free_now;
            released = λ i. ap (λ (s : Plain D). claim_of (task s.store.tasks 0) i) same ∙ ap (λ (u : TaskState). claim_of u i) (rest_now.tasks.others 0 apart) ∙ call.inside.pair.released i;
            first = record { waits = (others 0 apart).0 ∙ first_now.waits; fetched = (others 0 apart).2 ∙ first_now.fetched ∙ ap (λ (w : World). length (own 0 w.journal.list)) (sym world) };
            second = second;
            well = ap (λ (s : Plain D). s.store.volume.fault) same ∙ well;
            faultless = ap (λ (s : Plain D). disk.fault_count s.store.volume.device) same ∙ still_faultless disk m call.known_now well ∙ ap (λ (s : Plain D). disk.fault_count s.opening) (sym same);
            unshut = ap (λ (w : World). w.is_shut) world ∙ rest_now.unshut;
          };
          idle = ap (λ (w : World). (process w 1).at) world ∙ over.idle;
        }
