-- A call of a process, from its submission to its last step, while the other processes make none.
use Rattle.std.proofs.Common.{◌≡◌, ◌∙◌, ◌<◌, ◌≤◌, ℕ, ◌^◌, false, List, [], ◌∷◌, ◌++◌, length, Option, Some, None, refl, sym, ap, subst, arith}
use Rattle.std.specs.Prelude.{◌↔◌, IsSome}
use Rattle.blocks.specs.Disk.{one_more}
use Rattle.blocks.specs.declared.disk.Disk.{Ghosts}
use Rattle.wal.specs.Volume.{faults_after}
use Rattle.wal.specs.declared.types.DeviceFault.{DeviceFault}
use Rattle.model.specs.declared.types.operations.Entry.{Entry}
use Rattle.model.specs.declared.types.operations.Op.{Op}
use Rattle.model.specs.declared.types.operations.Reply.{Reply}
use Rattle.inodes.specs.Store.{StoreState}
use Rattle.ports.specs.Queues.{polled, waiting}
use Rattle.ports.specs.declared.queues.QueueIntake.{QueueIntake}
use Rattle.history.specs.declared.types.Phase.{Phase}
use Rattle.history.specs.declared.types.Phase.TheVariants as at
use Rattle.history.specs.Processes.{process}
use Rattle.kernel.specs.Known.{Known}
use Rattle.kernel.specs.Moves.{MakesSteps}
use Rattle.kernel.specs.Runs.{RunsOn}
use Rattle.model.specs.declared.types.operations.Step.{Step}
use Rattle.model.specs.declared.types.operations.Step.TheVariants as step
use Rattle.calls.specs.Lemmas.Entries.{last_same}
use Rattle.calls.specs.Calls.{HasFailed}
use Rattle.calls.specs.Stepping.{Plain, plain_herald, plain_queues}
use Rattle.calls.specs.Transactions.{IsFetched}
use Rattle.calls.proofs.Counting.{IsAnswered, is_answered}
use Rattle.calls.proofs.Going.{After, Stage, others_none, stages_move, steps_after, steps_name, steps_run}
use Rattle.calls.proofs.Stages.{Answered, Comes, IsKept, IsOver, StandsAt, Waits, Where}

-- a kernel with other queues
abbrev pub with_intake : {D : Type 0} → Plain D → QueueIntake → Plain D
with_intake k i = record k { intake = i }

-- An operation of process p was handed in to k, which had none of it, and steps made m of it, of which
-- the last answered r.
pub record IsCall {D N : Type 0} (disk : Ghosts D N) (p : ℕ) (op : Op) (r : Step) (k m : Plain D) : Type 0 where
  pub i : QueueIntake
  pub inside : p < length k.world.processes
  pub idle : (process k.world p).at ≡ at.Idle
  pub own : IsFetched k p
  pub unshut : k.world.is_shut ≡ false
  pub faultless : disk.fault_count k.store.volume.device ≡ disk.fault_count k.opening
  pub few : length k.world.journal.list < 2 ^ 63
  pub waits : waiting i p ≡ waiting k.intake p ++ op ∷ []
  pub fetched : polled i p ≡ polled k.intake p
  pub known_then : Known disk plain_queues plain_herald (with_intake k i)
  pub known_now : Known disk plain_queues plain_herald m
  pub makes : MakesSteps disk plain_queues plain_herald p r (with_intake k i) m

unfoldable pub is_call : {D N : Type 0} (disk : Ghosts D N) (p : ℕ) (op : Op) (r : Step) (k l m : Plain D) → p < length k.world.processes → (process k.world p).at ≡ at.Idle → IsFetched k p → k.world.is_shut ≡ false → disk.fault_count k.store.volume.device ≡ disk.fault_count k.opening → length k.world.journal.list < 2 ^ 63
    → l ≡ with_intake k l.intake → waiting l.intake p ≡ waiting k.intake p ++ op ∷ [] → polled l.intake p ≡ polled k.intake p → Known disk plain_queues plain_herald l → Known disk plain_queues plain_herald m → MakesSteps disk plain_queues plain_herald p r l m → IsCall disk p op r k m
is_call disk p op r k l m inside idle own unshut faultless few same waits fetched known_then known_now makes = record {
  i = l.intake;
  inside = inside;
  idle = idle;
  own = own;
  unshut = unshut;
  faultless = faultless;
  few = few;
  waits = waits;
  fetched = fetched;
  known_then = subst (λ (s : Plain _). Known disk plain_queues plain_herald s) same known_then;
  known_now = known_now;
  makes = subst (λ (s : Plain _). MakesSteps disk plain_queues plain_herald p r s m) same makes;
}

same_at_most : (a b : ℕ) → b ≡ a → a ≤ b
same_at_most a b is = omega (arith, is)

-- the disk failed
pub has_failed : {D N : Type 0} (disk : Ghosts D N) (k m : Plain D) (fault : DeviceFault) → Known disk plain_queues plain_herald m → m.opening ≡ k.opening → disk.fault_count k.store.volume.device ≡ disk.fault_count k.opening → m.store.volume.fault ≡ Some fault → HasFailed disk k m fault
has_failed disk k m fault known opening faultless is =
    let before : disk.fault_count m.opening ≡ disk.fault_count k.store.volume.device = ap disk.fault_count opening ∙ sym faultless in
    record {
      is = is;
      rose = same_at_most (one_more (disk.fault_count k.store.volume.device)) (disk.fault_count m.store.volume.device)
          (known.faults ∙ ap (λ (f : Option DeviceFault). faults_after f (disk.fault_count m.opening)) is ∙ ap one_more before);
    }

-- where it didn't fail, it counted no fault
pub still_faultless : {D N : Type 0} (disk : Ghosts D N) (m : Plain D) → Known disk plain_queues plain_herald m → m.store.volume.fault ≡ None → disk.fault_count m.store.volume.device ≡ disk.fault_count m.opening
still_faultless disk m known is = known.faults ∙ ap (λ (f : Option DeviceFault). faults_after f (disk.fault_count m.opening)) is

-- and no step halts
pub halts_not : (f : Option DeviceFault) → f ≡ None → (step.Halted ≡ step.Halted) ↔ IsSome f → ⊥
halts_not None well halted = let is = halted.0 refl in cc is
halts_not (Some fault) well halted = cc well

module _ {D N : Type 0} (disk : Ghosts D N) (p : ℕ) (op : Op) (r : Step) (k m : Plain D) (call : IsCall disk p op r k m) where
  abbrev pub given : Plain D
  given = with_intake k call.i

  pub only_waits : waiting call.i p ≡ op ∷ []
  only_waits = call.waits ∙ ap (λ (xs : List Op). xs ++ op ∷ []) call.own.waits

  -- a call's steps lose no committed group
  pub call_run : RunsOn disk given m
  call_run = steps_run disk p r given m call.makes call.known_then

  pub call_opening : m.opening ≡ k.opening
  call_opening = call_run.opening

  pub call_name : disk.name m.store.volume.device ≡ disk.name k.store.volume.device
  call_name = steps_name disk p r given m call.makes

  pub call_failed : (fault : DeviceFault) → m.store.volume.fault ≡ Some fault → HasFailed disk k m fault
  call_failed fault is = has_failed disk k m fault call.known_now call_opening call.faultless is

  pub is_faultless : m.store.volume.fault ≡ None → disk.fault_count m.store.volume.device ≡ disk.fault_count k.store.volume.device
  is_faultless well = still_faultless disk m call.known_now well ∙ ap disk.fault_count call_opening ∙ sym call.faultless

  -- what its steps keep
  module _ (P : Where → StoreState D → Type 0) (keeps : IsKept disk p op P) (holds : P Waits k.store) where
    first : Stage disk p op P given given
    first = record {
      rest = others_none p given call.unshut;
      stands = subst (λ (a : Phase). StandsAt p op P k.world.journal.list a (waiting call.i p) k.store k.world.journal.list) (sym call.idle) (only_waits, refl, holds);
    }

    -- before its last step
    pub call_stage : Stage disk p op P given call.makes.mid
    call_stage = stages_move disk p op P given keeps call.inside call.makes.moved given call.makes.mid call.makes.moves first

    -- and behind it
    pub call_after : After disk p op P given r m
    call_after = steps_after disk p op P given keeps call.inside r given m call.makes first

    module _ (so : r ≡ step.Answered) where
      pub call_over : IsOver p op P k.world.journal.list m.store m.world
      call_over = subst (λ (q : Step). Comes p op P k.world.journal.list q (waiting m.intake p) m.store m.world) so call_after.comes

      -- the answer that waits then
      pub call_answered : IsAnswered p op given m
      call_answered =
          let one : length (waiting call.i p) ≡ 1 = ap (λ (xs : List Op). length xs) only_waits in
          is_answered disk p op given m call.inside at.Idle call.idle tt call.known_then call.known_now (call.fetched ∙ call.own.fetched) call.few (omega (arith, one)) P call_after.rest call_over

      -- what was kept, once it is over with its reply
      pub kept_then : (is : IsAnswered p op given m) → P (Answered (Some is.answer.reply)) m.store
      kept_then is =
          let es = k.world.journal.list in
          let over = call_over in
          let entry : over.more.entry ≡ is.entry = last_same es es over.more.entry is.entry (sym over.more.is ∙ is.list) in
          subst (λ (o : Option Reply). P (Answered o) m.store) (ap (λ (e : Entry). e.reply) entry ∙ is.replied) over.holds
