-- Why a call in a transaction has to wait: for a buffer, and not for the anchor; nor for room in the
-- log, where that has room for its operation.
use Rattle.std.proofs.Common.{◌≡◌, ◌≢◌, ◌∙◌, ◌⊎◌, ◌<◌, inl, inr, ℕ, zero, suc, ◌+◌, ◌*◌, Bool, true, false, not, List, length, Option, Some, None, refl, sym, ap, subst, arith}
use Rattle.std.specs.Prelude.{if◌then◌else◌, is_none, nat_lt}
use Rattle.std.proofs.lemmas.Bool.Decides.{nat_tests}
use Rattle.std.proofs.lemmas.List.{get_or_past}
use Rattle.blocks.specs.declared.disk.Disk.{Ghosts}
use Rattle.bcache.specs.Buffers.{Buffers, acquire_answer}
use Rattle.bcache.specs.declared.types.Acquired.{Acquired}
use Rattle.bcache.specs.declared.types.Acquired.TheVariants as acquired
use Rattle.bcache.specs.declared.types.Busy.TheVariants as busy
use Rattle.model.specs.declared.types.operations.Op.{Op}
use Rattle.model.specs.declared.types.operations.Op.TheVariants.{Create, Write, Read, Trunc, Remove, Stat, SetAttribute}
use Rattle.model.specs.Journal.{is_at_once}
use Rattle.model.specs.declared.types.operations.TaskProgress.{TaskProgress}
use Rattle.model.specs.declared.types.operations.TaskProgress.TheVariants as progress
use Rattle.model.specs.declared.types.operations.Why.{Why}
use Rattle.model.specs.declared.types.operations.Why.TheVariants as why
use Rattle.model.specs.Reservations.{is_log_full, log_cause}
use Rattle.wal.specs.Machine.{LogState, begin_cause, is_quiet}
use Rattle.wal.specs.Volume.{cause_of_get, cause_to_get, get_answer_by}
use Rattle.wal.specs.declared.types.Commit.{Commit}
use Rattle.wal.specs.declared.types.Commit.TheVariants as commit
use Rattle.inodes.specs.declared.ilock.LockAt.{LockAt}
use Rattle.inodes.specs.declared.ilock.LockAt.TheVariants as lock_at
use Rattle.inodes.specs.declared.tasks.Stage.{Stage}
use Rattle.inodes.specs.declared.tasks.Stage.TheVariants as stage
use Rattle.inodes.specs.Grips.{locked_grip}
use Rattle.inodes.specs.Stages.{HasSlot, asked_by, grip_by, grip_of}
use Rattle.inodes.specs.Steps.{Waits}
use Rattle.inodes.specs.Store.{StoreState, first_taking}
use Rattle.inodes.specs.Table.{TableState, holder_at}
use Rattle.inodes.specs.Tasks.{TaskState, no_task, task}
use Rattle.inodes.specs.Waiting.{cause_at, cause_of_holder, cause_to_lock, sleep_cause}
use Rattle.history.specs.declared.types.Phase.{Phase}
use Rattle.history.specs.declared.types.Phase.TheVariants as at
use Rattle.history.specs.Bound.{is_busy_at}
use Rattle.history.specs.Processes.{World, process}
use Rattle.kernel.specs.Awake.{cause_by}
use Rattle.kernel.specs.Next.{NextAt, NextIf}
use Rattle.kernel.specs.State.{class_of}
use Rattle.kernel.specs.declared.class.OpClass.TheVariants as waiting_as
use Rattle.calls.specs.Calls.{is_look}
use Rattle.calls.specs.Transactions.{has_room}
use Rattle.model.specs.declared.types.operations.Step.TheVariants as step
use Rattle.ports.specs.History.{Side}
use Rattle.wal.specs.declared.types.DeviceFault.{DeviceFault}
use Rattle.calls.proofs.Sleeping.{behind_sleeps, end_made, task_sleeps, write_made}
use Rattle.wal.specs.Machine.{end_answer}

-- ---- the causes that a task may have

abbrev pub IsTasks : Why → Type 0
IsTasks cause = (cause ≡ why.BufferHeld) ⊎ ((cause ≡ why.InodeHeld) ⊎ (cause ≡ why.NoBuffer))

got_causes : (a : Acquired) (cause : Why) → cause_of_get (get_answer_by a) ≡ Some cause → IsTasks cause
got_causes (acquired.Got i valid) cause is = absurd (cc is)
got_causes (acquired.Sleeping busy.Held) cause is = inl (let e : why.BufferHeld ≡ cause = cc is in sym e)
got_causes (acquired.Sleeping busy.NoBuffer) cause is = inr (inr (let e : why.NoBuffer ≡ cause = cc is in sym e))

get_causes : (c : Buffers) (o : Option ℕ) (cause : Why) → cause_to_get c o ≡ Some cause → IsTasks cause
get_causes c None cause is = absurd (cc is)
get_causes c (Some b) cause is = got_causes (acquire_answer c b) cause is

holder_causes : (o : Option ℕ) (cause : Why) → cause_of_holder o ≡ Some cause → IsTasks cause
holder_causes None cause is = absurd (cc is)
holder_causes (Some q) cause is = inr (inl (let e : why.InodeHeld ≡ cause = cc is in sym e))

lock_causes : (c : Buffers) (t : TableState) (a : LockAt) (i : ℕ) (cause : Why) → cause_to_lock c t a i ≡ Some cause → IsTasks cause
lock_causes c t lock_at.Reference i cause is = absurd (cc is)
lock_causes c t (lock_at.Lock k) i cause is = holder_causes (holder_at t.places k) cause is
lock_causes c t (lock_at.Read k slot) i cause is = get_causes c _ cause is

task_causes : (c : Buffers) (t : TableState) (a : Stage) (cause : Why) → cause_at c t a ≡ Some cause → IsTasks cause
task_causes c t stage.Nowhere cause is = absurd (cc is)
task_causes c t (stage.Creating m) cause is = get_causes c _ cause is
task_causes c t (stage.Taking m) cause is = lock_causes c t m.at m.number cause is
task_causes c t (stage.Reading k m) cause is = get_causes c _ cause is
task_causes c t (stage.Delivering k) cause is = absurd (cc is)
task_causes c t (stage.Truncating k m) cause is = get_causes c _ cause is
task_causes c t (stage.Writing k m) cause is = get_causes c _ cause is
task_causes c t (stage.Setting k d u) cause is = get_causes c _ cause is
task_causes c t (stage.Leaving k) cause is = absurd (cc is)

pub by_causes : (a : Phase) (o : Option Why) (cause : Why) → cause_by a o ≡ Some cause → o ≡ Some cause
by_causes at.Idle o cause is = absurd (cc is)
by_causes (at.BeforeTurn group op) o cause is = is
by_causes (at.AfterTurn group k) o cause is = is
by_causes (at.Ending group k) o cause is = absurd (cc is)
by_causes (at.Committing group k) o cause is = absurd (cc is)

-- ---- the anchor has got nothing

module _ {D : Type 0} (s : StoreState D) (many : length s.tasks ≡ 2) (handed : (task s.tasks 1).stage ≡ first_taking 1) where
  pub has_no_slot : (q i : ℕ) → q ≢ 0 → HasSlot (task s.tasks q).stage i → ⊥
  has_no_slot zero i apart has = absurd (apart refl)
  has_no_slot (suc zero) i apart has = let there : HasSlot (first_taking 1) i = subst (λ (a : Stage). HasSlot a i) handed has in cc there
  has_no_slot (suc (suc q)) i apart has =
      let none : task s.tasks (suc (suc q)) ≡ no_task = get_or_past s.tasks (suc (suc q)) no_task (omega (arith, many)) in
      let there : HasSlot stage.Nowhere i = subst (λ (u : TaskState). HasSlot u.stage i) none has in cc there

  has_no_inode : (q k i : ℕ) → q ≢ 0 → grip_of (task s.tasks q) ≡ Some (locked_grip k i) → ⊥
  has_no_inode zero k i apart has = absurd (apart refl)
  has_no_inode (suc zero) k i apart has =
      let there : None ≡ Some (locked_grip k i) = sym (ap (λ (a : Stage). grip_by a (asked_by (task s.tasks 1).op)) handed) ∙ has in cc there
  has_no_inode (suc (suc q)) k i apart has =
      let none : task s.tasks (suc (suc q)) ≡ no_task = get_or_past s.tasks (suc (suc q)) no_task (omega (arith, many)) in
      let there : None ≡ Some (locked_grip k i) = sym (ap grip_of none) ∙ has in cc there

  not_held : (cause : Why) (r : TaskProgress) (t : StoreState D) → r ≡ progress.Sleeping cause → Waits s 0 r t → IsTasks cause → cause ≡ why.NoBuffer
  not_held cause r t asleep waits (inl is) =
      let held = waits.held (asleep ∙ ap progress.Sleeping is) in
      absurd (has_no_slot held.other held.slot held.apart held.got)
  not_held cause r t asleep waits (inr (inl is)) =
      let held = waits.inode (asleep ∙ ap progress.Sleeping is) in
      absurd (has_no_inode held.other held.place held.number held.apart held.locked)
  not_held cause r t asleep waits (inr (inr is)) = is

  module _ {N : Type 0} (disk : Ghosts D N) (w : World) (before : List Op) (side : Side) (heard : Bool) (t : StoreState D) (z : World) (cause : Why) (tasks : IsTasks cause) where
    busy_at : (a : Phase) → is_busy_at a ≡ true → NextAt disk a s w 0 before side heard (step.Sleeping cause) t z → cause ≡ why.NoBuffer
    busy_at at.Idle busy next = absurd (cc busy)
    busy_at (at.BeforeTurn group op) busy next = not_held cause next.progress t (task_sleeps next.progress cause next.answer) next.steps.waits tasks
    busy_at (at.AfterTurn group k) busy next = not_held cause next.progress t (behind_sleeps group next.progress cause next.answer) next.steps.waits tasks
    busy_at (at.Ending group k) busy next = absurd (end_made (end_answer s.volume.log) cause next.answer)
    busy_at (at.Committing group k) busy next = absurd (write_made next.result cause next.answer)

    busy_waits : (f : Option DeviceFault) → NextIf disk f s w 0 before side heard (step.Sleeping cause) t z → is_busy_at (process w 0).at ≡ true → cause ≡ why.NoBuffer
    busy_waits None next busy = busy_at (process w 0).at busy next
    busy_waits (Some fault) next busy = let e = next.0 in absurd (cc e)

  -- the task's cause, and that nobody else has what it waits for, leave the buffers
  pub waits_for_buffer : {N : Type 0} (disk : Ghosts D N) (w : World) (before : List Op) (side : Side) (heard : Bool) (t : StoreState D) (z : World) (cause : Why) (f : Option DeviceFault) → cause_by (process w 0).at (sleep_cause s 0) ≡ Some cause → NextIf disk f s w 0 before side heard (step.Sleeping cause) t z → is_busy_at (process w 0).at ≡ true → cause ≡ why.NoBuffer
  waits_for_buffer disk w before side heard t z cause f has next busy =
      busy_waits disk w before side heard t z cause
      (task_causes s.volume.buffers s.table (task s.tasks 0).stage cause (by_causes (process w 0).at (sleep_cause s 0) cause has)) f next busy

-- ---- the log

pub log_waits : (l : LogState) (cause : Why) → l.outstanding ≡ 1 → l.commit ≡ commit.Quiet → begin_cause l ≡ Some cause → (cause ≡ why.LogFull) × (10 < length l.homes)
log_waits l cause one quiet is =
    let there : (if is_log_full (length l.homes) 1 then Some why.LogFull else None) ≡ Some cause
    = sym (ap (λ (c : Commit). log_cause (not (is_quiet c)) (length l.homes) l.outstanding) quiet ∙ ap (λ (n : ℕ). log_cause false (length l.homes) n) one) ∙ is in
    by (nat_lt 30 (length l.homes + (1 + 1) * 10)) refl there
  where
    by : (b : Bool) → nat_lt 30 (length l.homes + (1 + 1) * 10) ≡ b → (if b then Some why.LogFull else None) ≡ Some cause → (cause ≡ why.LogFull) × (10 < length l.homes)
    by true test is = ((let e : why.LogFull ≡ cause = cc is in sym e), grind (arith, nat_tests, test))
    by false test is = absurd (cc is)

-- ---- room for an operation

free_not : (o : Option Why) (cause : Why) → is_none o ≡ true → o ≡ Some cause → ⊥
free_not None cause free out = cc out
free_not (Some w) cause free out = cc free

looks_not : (refused : Bool) (count : Option ℕ) → (if refused then waiting_as.Refused else waiting_as.Look count) ≡ waiting_as.Change → ⊥
looks_not true count is = cc is
looks_not false count is = cc is

-- an operation that the log has room for is not kept out by it
pub has_begun : (n : ℕ) (op : Op) (l : LogState) (cause : Why) → class_of n op ≡ waiting_as.Change → has_room op l ≡ true → begin_cause l ≡ Some cause → ⊥
has_begun n (Create kind) l cause is room out = free_not (begin_cause l) cause room out
has_begun n (Write i off bytes) l cause is room out = free_not (begin_cause l) cause room out
has_begun n (Read i off count) l cause is room out = looks_not (is_at_once n (Read i off count)) (Some count) is
has_begun n (Trunc i) l cause is room out = free_not (begin_cause l) cause room out
has_begun n (Remove i) l cause is room out = free_not (begin_cause l) cause room out
has_begun n (Stat i) l cause is room out = looks_not (is_at_once n (Stat i)) None is
has_begun n (SetAttribute i a) l cause is room out = free_not (begin_cause l) cause room out

module _ (l : LogState) (one : l.outstanding ≡ 1) (quiet : l.commit ≡ commit.Quiet) where
  full_by : (o : Option Why) → begin_cause l ≡ o → is_none o ≡ false → 10 < length l.homes
  full_by None is room = absurd (cc room)
  full_by (Some cause) is room = (log_waits l cause one quiet is).1

  -- where it has none for an operation, the operation changes files, and ten blocks were logged
  pub log_is_full : (op : Op) → has_room op l ≡ false → (is_look op ≡ false) × (10 < length l.homes)
  log_is_full (Create kind) room = (refl, full_by (begin_cause l) refl room)
  log_is_full (Write i off bytes) room = (refl, full_by (begin_cause l) refl room)
  log_is_full (Read i off count) room = absurd (cc room)
  log_is_full (Trunc i) room = (refl, full_by (begin_cause l) refl room)
  log_is_full (Remove i) room = (refl, full_by (begin_cause l) refl room)
  log_is_full (Stat i) room = absurd (cc room)
  log_is_full (SetAttribute i a) room = (refl, full_by (begin_cause l) refl room)
