-- Nobody waits for ever in a kernel, as none of its store's tasks does.
use Rattle.std.proofs.Common.{◌≡◌, ◌≢◌, ℕ, zero, suc, ◌<◌, Bool, true, false, not, length, List, refl, sym, ◌∙◌, ap, subst, arith, Option, Some, None, inl, inr}
use Rattle.std.specs.Option.{option_map}
use Rattle.kernel.specs.Common.{all_steps_left, ArePaired, ats_of, begin_cause, BeginsWith, both_ways, cases_lt, Commit, Committed, DeviceFault, end_answer, Ended, entry_in, first_in, get_or_past, HasFacts, HasNoRoom, idle, Image, inode_count_of, is_busy_at, is_committing_at, is_over, is_quiet, is_unturned, IsLogAt, IsNotTaken, Joint, left_of, LogState, MakesStep, NextAt, NextIf, NobodyWaitsForEver, Op, passes_busy, Phase, Process, process, Same, Side, sleep_cause, SleepsForCause, some_write, Stage, StandsAt, State, Step, step_behind, step_of, step_of_end, step_of_last, step_of_told, step_of_write, Steps, StoreState, TakesNone, task, task_left, TaskProgress, TaskStands, view_of, OpClass, class_of, WaitsWithCause, where_none, Why, World, world_after, world_behind}
use Rattle.blocks.specs.declared.disk.Disk as disk_trait
use Rattle.model.specs.Reservations.{log_cause}
use Rattle.ports.specs.declared.herald.Herald as herald_trait
use Rattle.ports.specs.declared.intake.Intake as intake_trait
use Rattle.kernel.specs.Awake.{AreIdle, IsAwake, IsBusy, OneGoesOn, cause_by, cause_of}
use Rattle.kernel.specs.Sleeping.{SoleWaitsForAnswers, WaitsForRoom}
use Rattle.kernel.specs.Sleeping as sleeping
use Rattle.kernel.proofs.Resting.{at_rest}

-- ---- who goes on

module _ {D I H : Type 0} (image : D → Image) (opening : Image) (k : State D I H) (paired : ArePaired k.store k.world) (has : HasFacts image opening k.store k.world) where
  abbrev place_at : ℕ → Stage
  place_at p = (task k.store.tasks p).stage

  stands_there : (p : ℕ) (a : Phase) → ats_of k.world p ≡ a → TaskStands k.world.journal.list (task k.store.tasks p) a
  stands_there p a stands = subst (λ (b : Phase). TaskStands k.world.journal.list (task k.store.tasks p) b) stands (paired.stand p).stands

  -- the task of an operation that has a cause to wait is not over
  under_way : (p : ℕ) (a : Phase) → ats_of k.world p ≡ a → cause_by a (sleep_cause k.store p) ≢ None → is_over (place_at p) ≡ false
  under_way p Phase.Idle stands waits = absurd (waits refl)
  under_way p (Phase.BeforeTurn group op) stands waits = let there = stands_there p (Phase.BeforeTurn group op) stands in passes_busy is_unturned refl (place_at p) there.1
  under_way p (Phase.AfterTurn group j) stands waits =
      let fact : StandsAt (inode_count_of opening) (view_of image k.store) k.world.journal.list p (Phase.AfterTurn group j) =
      subst (λ (a : Phase). StandsAt (inode_count_of opening) (view_of image k.store) k.world.journal.list p a) stands (has.facts.stands p) in
      ((stands_there p (Phase.AfterTurn group j) stands) fact.1.0 fact.1.1.at).unfinished
  under_way p (Phase.Ending group j) stands waits = absurd (waits refl)
  under_way p (Phase.Committing group j) stands waits = absurd (waits refl)

  -- the process of a task that is not over has an operation under way, and waits as its task does
  task_busy : (p : ℕ) (a : Phase) → ats_of k.world p ≡ a → is_over (place_at p) ≡ false → (is_busy_at a ≡ true) × (cause_by a (sleep_cause k.store p) ≡ sleep_cause k.store p)
  task_busy p Phase.Idle stands busy = absurd (both_ways _ busy (stands_there p Phase.Idle stands))
  task_busy p (Phase.BeforeTurn group op) stands busy = (refl, refl)
  task_busy p (Phase.AfterTurn group j) stands busy = (refl, refl)
  task_busy p (Phase.Ending group j) stands busy = absurd (both_ways _ busy (stands_there p (Phase.Ending group j) stands))
  task_busy p (Phase.Committing group j) stands busy = absurd (both_ways _ busy (stands_there p (Phase.Committing group j) stands).0)

  goes_on : NobodyWaitsForEver k.store → (p : ℕ) → IsBusy k p → (o : Option Why) → cause_of k p ≡ o → OneGoesOn k
  goes_on awake p busy None e = record { pid = p; busy = busy; goes = e }
  goes_on awake p busy (Some cause) e =
      let mine = under_way p (ats_of k.world p) refl (λ (none : cause_of k p ≡ None). let unlike : None ≡ Some cause = sym none ∙ e in cc unlike) in
      let one = awake p mine in
      let other = task_busy one.process (ats_of k.world one.process) refl one.busy in
      record { pid = one.process; busy = other.0; goes = other.1 ∙ one.goes }

  no_homes : (c : Commit) (l : LogState) → l.commit ≡ c → is_quiet c ≡ true → IsLogAt c l → l.outstanding ≡ 0 → length l.homes ≡ 0
  no_homes Commit.Quiet l stands quiet is closed = is.idle closed
  no_homes (Commit.Logging i) l stands quiet is closed = absurd (cc quiet)
  no_homes Commit.Heading l stands quiet is closed = absurd (cc quiet)
  no_homes (Commit.Homing i) l stands quiet is closed = absurd (cc quiet)
  no_homes Commit.Clearing l stands quiet is closed = absurd (cc quiet)
  no_homes (Commit.Syncing part) l stands quiet is closed = absurd (cc quiet)

  -- where none is under way, the log lets each begin
  let_in : Joint (image k.store.volume.device) k.store.volume.buffers k.store.volume.log → AreIdle k.world → begin_cause k.store.volume.log ≡ None
  let_in joint all =
      let l = k.store.volume.log in
      let rests = at_rest image opening k.store k.world has all in
      let homes = no_homes k.store.volume.log.commit k.store.volume.log refl rests.quiet joint.log rests.none in
      ap (λ (b : Bool). log_cause (not b) (length l.homes) l.outstanding) rests.quiet
      ∙ ap (λ (n : ℕ). log_cause false n l.outstanding) homes
      ∙ ap (λ (n : ℕ). log_cause false 0 n) rests.none

  left_at : (p : ℕ) (a : Phase) → ats_of k.world p ≡ a → left_of image k p ≡ all_steps_left a (task_left image k.store p) k.store.volume.log
  left_at p a stands = ap (λ (b : Phase). all_steps_left b (task_left image k.store p) k.store.volume.log) stands

  -- who is under way has steps left
  some_left : (p : ℕ) (a : Phase) → ats_of k.world p ≡ a → is_busy_at a ≡ true → 0 < left_of image k p
  some_left p Phase.Idle stands busy = absurd (cc busy)
  some_left p (Phase.BeforeTurn group op) stands busy = let left = left_at p (Phase.BeforeTurn group op) stands in omega (arith, left)
  some_left p (Phase.AfterTurn group j) stands busy = let left = left_at p (Phase.AfterTurn group j) stands in omega (arith, left)
  some_left p (Phase.Ending group j) stands busy = let left = left_at p (Phase.Ending group j) stands in omega (arith, left)
  some_left p (Phase.Committing group j) stands busy =
      let some = some_write k.store.volume.log.commit (length k.store.volume.log.homes) (has.alone.busy p (ap is_committing_at stands)) in
      omega (arith, (left_at p (Phase.Committing group j) stands), some)

  pub awake_now : Joint (image k.store.volume.device) k.store.volume.buffers k.store.volume.log → NobodyWaitsForEver k.store → IsAwake image k
  awake_now joint awake = record { under_way = λ p busy. goes_on awake p busy (cause_of k p) refl; begins = let_in joint; left = λ p busy. some_left p (ats_of k.world p) refl busy }

-- ---- a step that has to wait says why

task_sleeps : (r : TaskProgress) (cause : Why) → Step.Sleeping cause ≡ step_of r → r ≡ TaskProgress.Sleeping cause
task_sleeps TaskProgress.Moved cause e = absurd (cc e)
task_sleeps (TaskProgress.Turned reply) cause e = absurd (cc e)
task_sleeps (TaskProgress.Decided reply) cause e = absurd (cc e)
task_sleeps TaskProgress.Over cause e = absurd (cc e)
task_sleeps (TaskProgress.Sleeping other) cause e = let same : cause ≡ other = cc e in ap TaskProgress.Sleeping (sym same)
task_sleeps (TaskProgress.Fault fault) cause e = absurd (cc e)

told_made : (group : ℕ) (cause : Why) → Step.Sleeping cause ≡ step_of_told group → ⊥
told_made zero cause e = cc e
told_made (suc group) cause e = cc e

last_made : (group : ℕ) (cause : Why) → Step.Sleeping cause ≡ step_of_last group → ⊥
last_made zero cause e = cc e
last_made (suc group) cause e = cc e

behind_sleeps : (group : ℕ) (r : TaskProgress) (cause : Why) → Step.Sleeping cause ≡ step_behind group r → r ≡ TaskProgress.Sleeping cause
behind_sleeps group TaskProgress.Moved cause e = absurd (cc e)
behind_sleeps group (TaskProgress.Turned reply) cause e = absurd (cc e)
behind_sleeps group (TaskProgress.Decided reply) cause e = absurd (told_made group cause e)
behind_sleeps group TaskProgress.Over cause e = absurd (last_made group cause e)
behind_sleeps group (TaskProgress.Sleeping other) cause e = let same : cause ≡ other = cc e in ap TaskProgress.Sleeping (sym same)
behind_sleeps group (TaskProgress.Fault fault) cause e = absurd (cc e)

end_made : (r : Ended) (cause : Why) → Step.Sleeping cause ≡ step_of_end r → ⊥
end_made Ended.Commit cause e = cc e
end_made Ended.Left cause e = cc e

write_made : (r : Committed) (cause : Why) → Step.Sleeping cause ≡ step_of_write r → ⊥
write_made Committed.More cause e = cc e
write_made (Committed.Durable group) cause e = cc e
write_made Committed.Done cause e = cc e
write_made (Committed.Fault fault) cause e = cc e

-- why what waits first is not taken, where the log would let it begin
kept_out : (what : Option OpClass) (l : LogState) (room : Bool) (cause : Why) → begin_cause l ≡ None → IsNotTaken what l room (Step.Sleeping cause) → HasNoRoom room (Step.Sleeping cause)
kept_out None l room cause free e = absurd (cc e)
kept_out (Some OpClass.Refused) l room cause free (inl full) = full
kept_out (Some OpClass.Refused) l room cause free (inr none) = let e = none.0 in absurd (cc e)
kept_out (Some (OpClass.Look count)) l room cause free (inl full) = full
kept_out (Some (OpClass.Look count)) l room cause free (inr none) = let e = none.0 in absurd (cc e)
kept_out (Some OpClass.Change) l room cause free (inl full) = full
kept_out (Some OpClass.Change) l room cause free (inr (inl out)) = let e : None ≡ Some out.0 = sym free ∙ out.2 in absurd (cc e)
kept_out (Some OpClass.Change) l room cause free (inr (inr none)) = let e = none.0.0 in absurd (cc e)

pub idle_not : (a : Phase) → is_busy_at a ≡ false → a ≡ Phase.Idle
idle_not Phase.Idle e = refl
idle_not (Phase.BeforeTurn group op) e = absurd (cc e)
idle_not (Phase.AfterTurn group k) e = absurd (cc e)
idle_not (Phase.Ending group k) e = absurd (cc e)
idle_not (Phase.Committing group k) e = absurd (cc e)

-- ---- when a step sleeps

module _ {D N I M H : Type 0} (disk : disk_trait.Ghosts D N) (intake : intake_trait.Ghosts I M) (herald : herald_trait.Ghosts H) where
  pub next_of : (k m : State D I H) (p : ℕ) (r : Step) → k.store.volume.fault ≡ None → MakesStep disk intake herald p r k m →
      NextAt disk (ats_of k.world p) k.store k.world p (intake.side k.intake p).ahead (intake.side m.intake p) (herald.told m.herald) r m.store m.world
  next_of k m p r well makes = subst (λ (o : Option DeviceFault). NextIf disk o k.store k.world p (intake.side k.intake p).ahead (intake.side m.intake p) (herald.told m.herald) r m.store m.world) well makes.acts.next

  -- a step that has to wait was made while the disk had no fault
  well_if_asleep : (k m : State D I H) (p : ℕ) (cause : Why) → MakesStep disk intake herald p (Step.Sleeping cause) k m → (o : Option DeviceFault) → k.store.volume.fault ≡ o → k.store.volume.fault ≡ None
  well_if_asleep k m p cause makes None e = e
  well_if_asleep k m p cause makes (Some fault) e =
      let next : NextIf disk (Some fault) k.store k.world p (intake.side k.intake p).ahead (intake.side m.intake p) (herald.told m.herald) (Step.Sleeping cause) m.store m.world =
      subst (λ (o : Option DeviceFault). NextIf disk o k.store k.world p (intake.side k.intake p).ahead (intake.side m.intake p) (herald.told m.herald) (Step.Sleeping cause) m.store m.world) e makes.acts.next in
      let unlike = next.0 in absurd (cc unlike)

  module _ (sleeps : SleepsForCause disk) (k m : State D I H) (p : ℕ) (cause : Why) (before : List Op) (side : Side) (told : Bool) where
    at_sleeps : (a : Phase) → is_busy_at a ≡ true → NextAt disk a k.store k.world p before side told (Step.Sleeping cause) m.store m.world → cause_by a (sleep_cause k.store p) ≡ Some cause
    at_sleeps Phase.Idle busy next = absurd (cc busy)
    at_sleeps (Phase.BeforeTurn group op) busy next =
        sleeps k.store m.store p op cause (subst (λ (t : TaskProgress). Steps disk k.store p op t m.store) (task_sleeps next.progress cause next.answer) next.steps)
    at_sleeps (Phase.AfterTurn group j) busy next =
        sleeps k.store m.store p (entry_in k.world.journal.list j).op cause
        (subst (λ (t : TaskProgress). Steps disk k.store p (entry_in k.world.journal.list j).op t m.store) (behind_sleeps group next.progress cause next.answer) next.steps)
    at_sleeps (Phase.Ending group j) busy next = absurd (end_made (end_answer k.store.volume.log) cause next.answer)
    at_sleeps (Phase.Committing group j) busy next = absurd (write_made next.result cause next.answer)

  pub sleeps_for_cause : SleepsForCause disk → sleeping.SleepsForCause disk intake herald
  sleeps_for_cause sleeps k m p cause busy makes =
      at_sleeps sleeps k m p cause (intake.side k.intake p).ahead (intake.side m.intake p) (herald.told m.herald) (ats_of k.world p) busy
      (next_of k m p (Step.Sleeping cause) (well_if_asleep k m p cause makes k.store.volume.fault refl) makes)

  module _ (waits : WaitsWithCause disk) (k m : State D I H) (p : ℕ) (r : Step) (cause : Why) (before : List Op) (side : Side) (told : Bool) where
    at_waits : (a : Phase) → cause_by a (sleep_cause k.store p) ≡ Some cause → NextAt disk a k.store k.world p before side told r m.store m.world → r ≡ Step.Sleeping cause
    at_waits Phase.Idle e next = absurd (cc e)
    at_waits (Phase.BeforeTurn group op) e next = next.answer ∙ ap step_of (waits k.store m.store p op next.progress cause e next.steps)
    at_waits (Phase.AfterTurn group j) e next = next.answer ∙ ap (step_behind group) (waits k.store m.store p (entry_in k.world.journal.list j).op next.progress cause e next.steps)
    at_waits (Phase.Ending group j) e next = absurd (cc e)
    at_waits (Phase.Committing group j) e next = absurd (cc e)

  pub waits_with_cause : WaitsWithCause disk → sleeping.WaitsWithCause disk intake herald
  waits_with_cause waits k m p r cause well e makes =
      at_waits waits k m p r cause (intake.side k.intake p).ahead (intake.side m.intake p) (herald.told m.herald) (ats_of k.world p) e (next_of k m p r well makes)

  -- ---- a process alone

  alone_busy : (k : State D I H) → length k.world.processes ≡ 1 → (q : ℕ) → IsBusy k q → q ≡ 0
  alone_busy k one q busy = elim (cases_lt q 1) [
    | inl first ↦ omega (arith, first)
    | inr past ↦
        let none : process k.world q ≡ idle = get_or_past k.world.processes q idle (omega (arith, one, past)) in
        let unlike : false ≡ true = sym (ap (λ (t : Process). is_busy_at t.at) none) ∙ busy in absurd (cc unlike)
  ]

  alone_idle : (k : State D I H) → length k.world.processes ≡ 1 → is_busy_at (ats_of k.world 0) ≡ false → AreIdle k.world
  alone_idle k one first q = by (is_busy_at (ats_of k.world q)) refl
    where
      by : (b : Bool) → is_busy_at (ats_of k.world q) ≡ b → ats_of k.world q ≡ Phase.Idle
      by false e = idle_not (ats_of k.world q) e
      by true e = let busy : is_busy_at (ats_of k.world 0) ≡ true = ap (λ (p : ℕ). is_busy_at (ats_of k.world p)) (sym (alone_busy k one q e)) ∙ e in absurd (both_ways _ first busy)

  -- a beginning that has to wait took nothing
  none_taken : (k m : State D I H) (p : ℕ) (cause : Why) (before : List Op) (side : Side) (told : Bool) → NextAt disk Phase.Idle k.store k.world p before side told (Step.Sleeping cause) m.store m.world →
      (what : Option OpClass) × (ahead : List Op) × TakesNone what k.store k.world ahead side (Step.Sleeping cause) m.store m.world
  none_taken k m p cause before side told (inl shut) = let e = shut.answer in absurd (cc e)
  none_taken k m p cause before side told (inr hears) = by (option_map (class_of k.store.table.inode_count) (first_in hears.ahead)) hears.ahead hears.begins
    where
      by : (what : Option OpClass) (ahead : List Op) → BeginsWith what k.store k.world p ahead side (Step.Sleeping cause) m.store m.world →
          (what : Option OpClass) × (ahead : List Op) × TakesNone what k.store k.world ahead side (Step.Sleeping cause) m.store m.world
      by what ahead (inl change) = let e = change.answer in absurd (cc e)
      by what ahead (inr (inl look)) = let e = look.answer in absurd (cc e)
      by what ahead (inr (inr (inl refused))) = let e = refused.answer in absurd (cc e)
      by what ahead (inr (inr (inr none))) = (what, ahead, none)

  -- who has to wait changed nothing
  pub asleep_same : (k m : State D I H) (p : ℕ) (cause : Why) (before : List Op) (side : Side) (told : Bool) (a : Phase) → NextAt disk a k.store k.world p before side told (Step.Sleeping cause) m.store m.world → Same k.store k.world m.store m.world
  asleep_same k m p cause before side told Phase.Idle next = (none_taken k m p cause before side told next).2.same
  asleep_same k m p cause before side told (Phase.BeforeTurn group op) next =
      let asleep = task_sleeps next.progress cause next.answer in
      (next.steps.waits.sleeping cause asleep, next.world ∙ ap (λ (t : TaskProgress). world_after t (is_over (task m.store.tasks p).stage) k.world p) asleep)
  asleep_same k m p cause before side told (Phase.AfterTurn group j) next =
      let asleep = behind_sleeps group next.progress cause next.answer in
      (next.steps.waits.sleeping cause asleep, next.world ∙ ap (λ (t : TaskProgress). world_behind group t k.world p) asleep)
  asleep_same k m p cause before side told (Phase.Ending group j) next = absurd (end_made (end_answer k.store.volume.log) cause next.answer)
  asleep_same k m p cause before side told (Phase.Committing group j) next = absurd (write_made next.result cause next.answer)

  pub sole_waits : SleepsForCause disk → SoleWaitsForAnswers disk intake herald
  sole_waits sleeps k m p cause one inside makes = by (is_busy_at (ats_of k.world p)) refl
    where
      first : p ≡ 0
      first = omega (arith, inside)

      well : k.store.volume.fault ≡ None
      well = well_if_asleep k m p cause makes k.store.volume.fault refl

      next : NextAt disk (ats_of k.world p) k.store k.world p (intake.side k.intake p).ahead (intake.side m.intake p) (herald.told m.herald) (Step.Sleeping cause) m.store m.world
      next = next_of k m p (Step.Sleeping cause) well makes

      same : Same k.store k.world m.store m.world
      same = asleep_same k m p cause (intake.side k.intake p).ahead (intake.side m.intake p) (herald.told m.herald) (ats_of k.world p) next

      awake : IsAwake disk.image m
      awake = where_none m.store.volume.fault (ap (λ (s : StoreState D). s.volume.fault) same.0 ∙ well) makes.progress.awake

      one_still : length m.world.processes ≡ 1
      one_still = makes.progress.many ∙ one

      by : (b : Bool) → is_busy_at (ats_of k.world p) ≡ b → WaitsForRoom intake k p cause m
      by true busy =
          let goes = awake.under_way p (ap (λ (w : World). is_busy_at (ats_of w p)) same.1 ∙ busy) in
          let me : goes.pid ≡ p = alone_busy m one_still goes.pid goes.busy ∙ sym first in
          let none : cause_of m p ≡ None = subst (λ (q : ℕ). cause_of m q ≡ None) me goes.goes in
          let there : cause_of m p ≡ cause_of k p = ap (λ (w : World). cause_by (ats_of w p) (sleep_cause m.store p)) same.1 ∙ ap (λ (s : StoreState D). cause_by (ats_of k.world p) (sleep_cause s p)) same.0 in
          let unlike : None ≡ Some cause = sym none ∙ there ∙ sleeps_for_cause sleeps k m p cause busy makes in absurd (cc unlike)
      by false none =
          let all = alone_idle m one_still (ap (λ (w : World). is_busy_at (ats_of w 0)) same.1 ∙ subst (λ (q : ℕ). is_busy_at (ats_of k.world q) ≡ false) first none) in
          let idle = idle_not (ats_of k.world p) none in
          let taken = none_taken k m p cause (intake.side k.intake p).ahead (intake.side m.intake p) (herald.told m.herald)
          (subst (λ (a : Phase). NextAt disk a k.store k.world p (intake.side k.intake p).ahead (intake.side m.intake p) (herald.told m.herald) (Step.Sleeping cause) m.store m.world) idle next) in
          let free : begin_cause k.store.volume.log ≡ None = ap (λ (s : StoreState D). begin_cause s.volume.log) (sym same.0) ∙ awake.begins all in
          let full = kept_out taken.0 k.store.volume.log (intake.side m.intake p).has_room cause free taken.2.answer in
          record { full = cc full.0; idle = idle; room = full.1; world = same.1 }
