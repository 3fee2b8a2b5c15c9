-- A call of a kernel's only process, from its submission to its answer.
use Rattle.std.proofs.Common.{◌≡◌, ◌∙◌, ◌<◌, ℕ, ◌+◌, ◌^◌, ◌-◌, true, false, List, [], ◌∷◌, ◌++◌, length, None, refl, sym, ap, subst, arith}
use Rattle.std.specs.Prelude.{◌==◌, if◌then◌else◌}
use Rattle.std.specs.List.{list_all}
use Rattle.std.proofs.lemmas.Bool.{and_parts}
use Rattle.std.proofs.lemmas.List.{length-append}
use Rattle.std.proofs.lemmas.List.Folds.{list_all-append}
use Rattle.blocks.specs.Calls.{OnlyReads}
use Rattle.blocks.specs.Lemmas.Reads.{reads_none, reads_then}
use Rattle.blocks.specs.declared.disk.Disk.{Ghosts}
use Rattle.wal.specs.Machine.{LogState, closed, end_answer, ended, left_by}
use Rattle.wal.specs.Volume.{VolumeState}
use Rattle.wal.specs.declared.types.Ended.TheVariants as ended_as
use Rattle.model.specs.declared.types.operations.Entry.{Entry}
use Rattle.model.specs.declared.types.operations.Op.{Op}
use Rattle.model.specs.declared.types.operations.Op.TheVariants.{Create, Write, Read, Trunc, Remove, Stat, SetAttribute}
use Rattle.model.specs.declared.types.operations.TaskProgress.{TaskProgress}
use Rattle.model.specs.declared.types.operations.TaskProgress.TheVariants as progress
use Rattle.model.specs.declared.types.operations.Why.{Why}
use Rattle.model.specs.Journal.{is_at_once, own}
use Rattle.inodes.specs.Steps.{Steps}
use Rattle.inodes.specs.Store.{StoreState}
use Rattle.ports.specs.History.{first_in}
use Rattle.ports.specs.Lanes.{polled_after}
use Rattle.ports.specs.Queues.{answers, polled, waiting}
use Rattle.history.specs.declared.types.Phase.{Phase}
use Rattle.history.specs.declared.types.Phase.TheVariants as at
use Rattle.history.specs.Processes.{World, process}
use Rattle.kernel.specs.Known.{Known}
use Rattle.kernel.specs.Moves.{MakesSteps}
use Rattle.kernel.specs.Sleeping.{SoleWaitsForAnswers}
use Rattle.kernel.specs.State.{kind_of}
use Rattle.model.specs.declared.types.operations.Step.{Step}
use Rattle.model.specs.declared.types.operations.Step.TheVariants as step
use Rattle.kernel.specs.declared.class.OpClass.TheVariants as waiting_as
use Rattle.calls.specs.Calls.{Rests, call_count, is_look, is_own}
use Rattle.calls.specs.Lemmas.Reaching.{reached_ports, reached_steps, reached_then}
use Rattle.calls.specs.Stepping.{IsReached, MakesPlainStep, Plain, plain_herald, plain_queues}
use Rattle.calls.specs.Transactions.{IsFetched}
use Rattle.calls.proofs.Called.{IsCall, call_after, call_answered, call_over, call_stage, given, halts_not, is_call, still_faultless, with_intake}
use Rattle.calls.proofs.Counting.{IsAnswered, fetched_again, room_left}
use Rattle.calls.proofs.Going.{After}
use Rattle.calls.proofs.Idle.{lone_idle, unopened}
use Rattle.calls.proofs.Stages.{AfterTurn, Answered, BeforeTurn, Committing, Comes, IsKept, IsLeft, ListIs, Over, StandsAt, Waits, Where, is_left, kind_then}

-- ---- whose entries they are

-- entries that are all the first process's
pub own_all : (es : List Entry) → list_all is_own es ≡ true → own 0 es ≡ es
own_all [] owns = refl
own_all (e ∷ es) owns =
    let parts = and_parts (is_own e) (list_all is_own es) owns in
    let mine : (e.pid == 0) ≡ true = parts.0 in
    rw mine (ap (λ (l : List Entry). e ∷ l) (own_all es parts.1))

pub rests_fetched : {D : Type 0} (faults : D → ℕ) (k : Plain D) → Rests faults k → IsFetched k 0
rests_fetched faults k rests = record { waits = rests.waits; fetched = rests.fetched ∙ ap (λ (es : List Entry). length es) (sym (own_all k.world.journal.list rests.own)) }

-- an operation was handed in to k, which rested, and steps made m of it, of which the last answered r
pub record IsSole {D N : Type 0} (disk : Ghosts D N) (op : Op) (r : Step) (k m : Plain D) : Type 0 where
  pub rests : Rests disk.fault_count k
  pub known : Known disk plain_queues plain_herald k
  pub call : IsCall disk 0 op r k m

pub is_sole : {D N : Type 0} (disk : Ghosts D N) (op : Op) (r : Step) (k l m : Plain D) → Rests disk.fault_count k → call_count k < 2 ^ 63 → l ≡ with_intake k l.intake → waiting l.intake 0 ≡ waiting k.intake 0 ++ op ∷ [] → polled l.intake 0 ≡ polled k.intake 0
    → Known disk plain_queues plain_herald k → Known disk plain_queues plain_herald l → Known disk plain_queues plain_herald m → MakesSteps disk plain_queues plain_herald 0 r l m → IsSole disk op r k m
is_sole disk op r k l m rests few same waits fetched known known_then known_now makes =
    let one = rests.one in
    record {
      rests = rests;
      known = known;
      call = is_call disk 0 op r k l m (omega (arith, one)) rests.idle (rests_fetched disk.fault_count k rests) rests.unshut rests.faultless few same waits fetched known_then known_now makes;
    }

-- ---- an operation that waits, and a look

-- no operation is open in the log, and the disk was only read
pub record IsLooking {D N : Type 0} (disk : Ghosts D N) (old : D) (v : VolumeState D) : Type 0 where
  pub unopened : v.log.outstanding ≡ 0
  pub reads : OnlyReads disk old v.device

-- a look is no change
pub looks_only : (op : Op) → is_look op ≡ true → kind_of op ≡ waiting_as.Change → ⊥
looks_only (Create kind) look is = cc look
looks_only (Write i off bytes) look is = cc look
looks_only (Read i off count) look is = cc is
looks_only (Trunc i) look is = cc look
looks_only (Remove i) look is = cc look
looks_only (Stat i) look is = cc is
looks_only (SetAttribute i a) look is = cc look

module _ {D N : Type 0} (disk : Ghosts D N) (op : Op) (old : StoreState D) where
  -- a look begins while none is open
  abbrev pub Look : Type 0
  Look = (is_look op ≡ true) × (old.volume.log.outstanding ≡ 0)

  -- and only reads then
  abbrev pub OnlyLooks : StoreState D → Type 0
  OnlyLooks s = Look → IsLooking disk old.volume.device s.volume

  -- nothing is done while the operation waits; a look opens nothing in the log, and closes no group
  abbrev pub Quiet : Where → StoreState D → Type 0
  Quiet Waits s = s ≡ old
  Quiet (BeforeTurn g) s = OnlyLooks s
  Quiet (AfterTurn g reply) s = OnlyLooks s
  Quiet (Over g reply) s = OnlyLooks s
  Quiet (Committing reply) s = Look → ⊥
  Quiet (Answered reply) s = OnlyLooks s

  looks_first : (s : StoreState D) → s ≡ old → OnlyLooks s
  looks_first s same look = subst (λ (o : StoreState D). IsLooking disk old.volume.device o.volume) (sym same) (record { unopened = look.1; reads = reads_none disk old.volume.device })

  -- so does each step
  looks_on : (s t : StoreState D) (x : TaskProgress) → Steps disk s 0 op x t → OnlyLooks s → OnlyLooks t
  looks_on s t x steps was look = record {
    unopened = steps.groups.outstanding ∙ (was look).unopened;
    reads = reads_then disk old.volume.device s.volume.device t.volume.device (was look).reads steps.reads.device;
  }

  pub quiet_kept : IsKept disk 0 op Quiet
  quiet_kept = record {
    begins = λ s change same look. absurd (looks_only op look.0 (kind_then (is_at_once s.table.inode_count op) (kind_of op) waiting_as.Change (λ e. cc e) change).1);
    looks = λ s count is same look. let here = looks_first s same look in record { unopened = here.unopened; reads = here.reads };
    refused = looks_first;
    works = λ g s t x unturned. looks_on s t x;
    turns = λ g s t told. looks_on s t (progress.Turned told);
    turns_over = λ g s t told over. looks_on s t (progress.Turned told);
    goes = λ g s t told x going. looks_on s t x;
    decides = λ g s t told reply untold. looks_on s t (progress.Decided reply);
    ends = λ g s t told. looks_on s t progress.Over;
    decides_alone = λ s t told reply untold. looks_on s t (progress.Decided reply);
    ends_alone = λ s t told. looks_on s t progress.Over;
    leaves = λ g s told was look.
        let left : ended s.volume.log 0 ≡ left_by s.volume.log 0 = ap (λ (n : ℕ). if n == 1 then closed (left_by s.volume.log 0) else left_by s.volume.log 0) (was look).unopened in
        record { unopened = ap (λ (l : LogState). l.outstanding) left ∙ ap (λ (n : ℕ). n - 1) (was look).unopened; reads = (was look).reads };
    closes = λ g s told commits was look.
        let left : end_answer s.volume.log ≡ ended_as.Left = ap (λ (n : ℕ). if n == 1 then (if length s.volume.log.homes == 0 then ended_as.Left else ended_as.Commit) else ended_as.Left) (was look).unopened in
        let both = sym commits ∙ left in
        cc both;
    commits = λ s t told x commits none. none;
    committed = λ s told none look. absurd (none look);
  }

  only_looks : (stand : Where) (s : StoreState D) → Quiet stand s → OnlyLooks s
  only_looks Waits s same = looks_first s same
  only_looks (BeforeTurn g) s was = was
  only_looks (AfterTurn g reply) s was = was
  only_looks (Over g reply) s was = was
  only_looks (Committing reply) s none = λ look. absurd (none look)
  only_looks (Answered reply) s was = was

-- ---- how its steps end

-- with the answer, or for want of memory
abbrev pub EndsSo : Step → Type 0
EndsSo step.Moved = ⊥
EndsSo step.Answered = Unit {0}
EndsSo (step.Sleeping cause) = ⊥
EndsSo step.Idle = ⊥
EndsSo step.NoMemory = Unit {0}
EndsSo step.ShutDown = ⊥
EndsSo step.Halted = ⊥

-- what waits to be fetched, once the operation is over
pub record IsDone {D : Type 0} (op : Op) (k m : Plain D) : Type 0 where
  pub one : length m.world.processes ≡ 1
  pub idle : (process m.world 0).at ≡ at.Idle
  pub own : list_all is_own m.world.journal.list ≡ true
  pub unshut : m.world.is_shut ≡ false
  pub one_more : call_count m ≡ call_count k + 1
  pub is : IsAnswered 0 op k m

module _ {D N : Type 0} (disk : Ghosts D N) (op : Op) (r : Step) (k m : Plain D) (sole : IsSole disk op r k m) where
  -- what its last step leaves
  behind : After disk 0 op (Quiet disk op k.store) (given disk 0 op r k m sole.call) r m
  behind = call_after disk 0 op r k m sole.call (Quiet disk op k.store) (quiet_kept disk op k.store) refl

  left : IsLeft 0 op (Quiet disk op k.store) k.world.journal.list m.store m.world.journal.list
  left = is_left 0 op (Quiet disk op k.store) k.world.journal.list r (waiting m.intake 0) m.store m.world behind.comes

  -- what its steps leave of the journal
  pub call_lists : ListIs 0 op k.world.journal.list m.world.journal.list
  call_lists = left.lists

  -- its steps are turns of the process
  pub call_reached : IsReached disk k m
  call_reached =
      let l = given disk 0 op r k m sole.call in
      reached_then disk k l m (reached_ports disk k l refl) (reached_steps disk 0 r l m sole.call.makes)

  -- a look only reads
  pub call_looks : is_look op ≡ true → OnlyReads disk k.store.volume.device m.store.volume.device
  call_looks look = (only_looks disk op k.store left.stand m.store left.holds (look, unopened disk k sole.known (lone_idle k.world sole.rests.one sole.rests.idle) sole.rests.well)).reads

  -- where memory was refused, nothing was done
  pub refused_reads : r ≡ step.NoMemory → OnlyReads disk k.store.volume.device m.store.volume.device
  refused_reads so =
      let unbegun = subst (λ (q : Step). Comes 0 op (Quiet disk op k.store) k.world.journal.list q (waiting m.intake 0) m.store m.world) so behind.comes in
      subst (λ (s : StoreState D). OnlyReads disk k.store.volume.device s.volume.device) (sym unbegun.0) (reads_none disk k.store.volume.device)

  -- so it does behind a call that is answered
  pub is_done : r ≡ step.Answered → IsDone op (given disk 0 op r k m sole.call) m
  is_done so =
      let es = k.world.journal.list in
      let over = call_over disk 0 op r k m sole.call (Quiet disk op k.store) (quiet_kept disk op k.store) refl so in
      let is = call_answered disk 0 op r k m sole.call (Quiet disk op k.store) (quiet_kept disk op k.store) refl so in
      let owns = sole.rests.own in
      let one_own : is_own is.entry ≡ true = rw is.mine refl in
      record {
        one = behind.rest.many ∙ sole.rests.one;
        idle = over.idle;
        own = ap (λ (l : List Entry). list_all is_own l) is.list ∙ list_all-append is_own es (is.entry ∷ []) ∙ rw (owns, one_own) refl;
        unshut = behind.rest.unshut;
        one_more = ap (λ (l : List Entry). length l) is.list ∙ length-append es (is.entry ∷ []);
        is = is;
      }

  -- its steps don't end because there is no room: its answers were fetched
  never_waits : SoleWaitsForAnswers disk plain_queues plain_herald → (cause : Why) → r ≡ step.Sleeping cause → ⊥
  never_waits law cause so =
      let mid = sole.call.makes.mid in
      let l = given disk 0 op r k m sole.call in
      let P = Quiet disk op k.store in
      let there = call_stage disk 0 op r k m sole.call P (quiet_kept disk op k.store) refl in
      let one : length mid.world.processes ≡ 1 = there.rest.many ∙ sole.rests.one in
      let waits = law mid m 0 cause one (omega arith) (subst (λ (q : Step). MakesPlainStep disk 0 q mid m) so sole.call.makes.made) in
      let stands : StandsAt 0 op P k.world.journal.list at.Idle (waiting mid.intake 0) mid.store mid.world.journal.list = subst (λ (a : Phase). StandsAt 0 op P k.world.journal.list a (waiting mid.intake 0) mid.store mid.world.journal.list) waits.idle there.stands in
      let list : m.world.journal.list ≡ k.world.journal.list = ap (λ (w : World). w.journal.list) waits.world ∙ stands.1 in
      let idle : (process m.world 0).at ≡ at.Idle = ap (λ w. (process w 0).at) waits.world ∙ waits.idle in
      let full = sym waits.room ∙ room_left disk l m 0 sole.call.known_now sole.call.inside behind.rest (sole.call.fetched ∙ sole.call.own.fetched) sole.call.few idle list in
      cc full

  -- and so they do unless the disk failed
  pub call_ends : SoleWaitsForAnswers disk plain_queues plain_herald → m.store.volume.fault ≡ None → (q : Step) → r ≡ q → EndsSo q
  call_ends law well q is = by q is (subst (λ (s : Step). MakesPlainStep disk 0 s sole.call.makes.mid m) is sole.call.makes.made)
      (subst (λ (s : Step). Comes 0 op (Quiet disk op k.store) k.world.journal.list s (waiting m.intake 0) m.store m.world) is behind.comes)
    where
      by : (q : Step) → r ≡ q → MakesPlainStep disk 0 q sole.call.makes.mid m → Comes 0 op (Quiet disk op k.store) k.world.journal.list q (waiting m.intake 0) m.store m.world → EndsSo q
      by step.Moved is made comes = sole.call.makes.last is
      by step.Answered is made comes = tt
      by (step.Sleeping cause) is made comes = never_waits law cause is
      by step.Idle is made comes = comes
      by step.NoMemory is made comes = tt
      by step.ShutDown is made comes = comes
      by step.Halted is made comes = halts_not m.store.volume.fault well made.acts.device.halted

-- once the answer is fetched, the kernel rests
pub rests_again : {D N : Type 0} (disk : Ghosts D N) (op : Op) (k m n : Plain D) → Known disk plain_queues plain_herald m → IsDone op k m → call_count k < 2 ^ 63 → m.store.volume.fault ≡ None → n ≡ with_intake m n.intake → waiting n.intake 0 ≡ waiting m.intake 0
    → polled n.intake 0 ≡ polled_after (first_in (answers m.intake 0)) (polled m.intake 0) → Rests disk.fault_count n
rests_again disk op k m n known done few well same waits fetched =
    let now : IsFetched n 0 = fetched_again 0 op k m n done.is few (ap (λ (s : Plain _). s.world) same) waits fetched in
    let all : polled n.intake 0 ≡ call_count m = now.fetched ∙ ap (λ (s : Plain _). length (own 0 s.world.journal.list)) same ∙ ap (λ (es : List Entry). length es) (own_all m.world.journal.list done.own) in
    subst (λ (s : Plain _). Rests disk.fault_count s) (sym same) (record {
      one = done.one;
      idle = done.idle;
      own = done.own;
      waits = now.waits;
      fetched = all;
      well = well;
      faultless = still_faultless disk m known well;
      unshut = done.unshut;
    })
