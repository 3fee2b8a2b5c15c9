use Rattle.std.proofs.Common.{rules, refl, ◌≡◌, ◌<◌, ◌≤◌, length, None, Some, ◌∙◌, sym, ap, subst, ℕ, suc, ◌-◌, arith}
use Rattle.kernel.specs.Common.{Acts, answered, ArePorts, CanAnswer, decided, entry_in, fault_of_task, Ghosts, Inv, IsRight, last_answer, LeavesSince, Op, Phase, process, Reply, State, Step, step_behind, step_of, step_of_last, step_of_told, Steps, StoreState, task, TaskProgress, World, world_behind, world_of_last, world_of_told}
use Rattle.kernel.specs.Ports.{KeepsOthers}
use Rattle.kernel.proofs.Acting.{acts_finished, sides_same}
use Rattle.kernel.proofs.Answering.{IsThere, is_there, op_is, mine_is, answer_over, answer_told, some_reply}
use Rattle.kernel.proofs.Ports.{ports_decided, ports_ending, ports_given}
use Rattle.kernel.proofs.Valid.{HasAgreed, agreed_now}
use Rattle.kernel.proofs.Promising.{since_step}
use Rattle.kernel.proofs.Right.{survives_reading}
use Rattle.kernel.proofs.Working.{ends_now, not_turned, right_moved_behind, right_fault_behind, right_decided, right_ends, right_over, right_told}
use Rattle.kernel.proofs.stepping.Kernel.finish.Given.{Over}
use Rattle.kernel.proofs.stepping.Kernel.finish.Goals.{After-known-2}
use Rattle.kernel.proofs.stepping.Kernel.finish.Goals as goal

-- whose task made a step, which came to this: its operation had its turn
record Head {D N : Type 0} (disk : Ghosts D N) (s t : StoreState D) (w : World) (p : ℕ) (op : Op) (came : TaskProgress) : Type 0 where
  well : s.volume.fault ≡ None
  within : p < length w.processes
  there : IsThere s w p
  mine : (task s.tasks p).op ≡ Some op
  same : op ≡ (entry_in w.journal.list there.k).op
  steps : (r : TaskProgress) → came ≡ r → Steps disk s p op r t
  agreed : (r : TaskProgress) → came ≡ r → fault_of_task r ≡ None → HasAgreed disk.image t

head : (g : Over) (c : After-known-2 g) → Head g.D.Disk c.self.inside.store c.step-progress.new.self c.self.inside.processes c.args.pid c.operation-op.result.now c.step-progress.result
head g c =
    let k = c.self.inside in
    let t = c.step-progress.new.self in
    let well : k.store.volume.fault ≡ None = search rules in
    let there = is_there g.D.Disk k.opening.value k.store k.processes c.args.pid c.self.invariant.right well (search rules) in
    let steps : (r : TaskProgress) → c.step-progress.result ≡ r → Steps g.D.Disk k.store c.args.pid c.operation-op.result.now r t = λ r is. subst (λ (q : TaskProgress). Steps g.D.Disk k.store c.args.pid c.operation-op.result.now q t) is c.step-progress.ensures.step in
    record {
      well = well;
      within = search rules;
      there = there;
      mine = mine_is g.D.Disk k.opening.value k.store k.processes c.args.pid c.self.invariant.right well there c.operation-op.result.now c.operation-op.ensures;
      same = op_is g.D.Disk k.opening.value k.store k.processes c.args.pid c.self.invariant.right well there c.operation-op.result.now c.operation-op.ensures;
      steps = steps;
      agreed = λ r is none. agreed_now g.D.Disk.image t ((steps r is).reads.fault ∙ none) c.known-2.ensures.volume c.known-2.ensures.store;
    }

-- what it made of the kernel, after which the intake is j
acts : (g : Over) (c : After-known-2 g) (r : TaskProgress) (j : _) (z : World) → c.step-progress.result ≡ r → z ≡ world_behind (head g c).there.group r c.self.inside.processes c.args.pid
    → KeepsOthers g.I.Intake c.args.pid c.self.inside.intake j → (g.I.Intake.side j c.args.pid).ahead ≡ (g.I.Intake.side c.self.inside.intake c.args.pid).ahead
    → Acts g.D.Disk g.I.Intake g.H.Herald c.args.pid (step_behind (head g c).there.group r) c.args.self.now (record { store = c.step-progress.new.self; opening = c.self.inside.opening.value; intake = j; herald = c.self.inside.herald; world = z })
acts g c r j z is made sides ahead =
    let k = c.self.inside in
    let h = head g c in
    subst (λ (o : State _ _ _). Acts g.D.Disk g.I.Intake g.H.Herald c.args.pid (step_behind (head g c).there.group r) o (record { store = c.step-progress.new.self; opening = k.opening.value; intake = j; herald = k.herald; world = z })) c.self.view_is
    (acts_finished g.D.Disk g.I.Intake g.H.Herald c.args.pid k.store c.step-progress.new.self k.opening.value k.intake k.herald k.processes z h.well h.there.group h.there.k j r h.there.stands
    (subst (λ (o : Op). Steps g.D.Disk k.store c.args.pid o r c.step-progress.new.self) h.same (h.steps r is)) made sides ahead)

-- and of what a stop has left since the opening
since : (g : Over) (c : After-known-2 g) (r : TaskProgress) (z : World) → c.step-progress.result ≡ r → z ≡ world_behind (head g c).there.group r c.self.inside.processes c.args.pid
    → IsRight g.D.Disk c.self.inside.opening.value c.step-progress.new.self z → LeavesSince g.D.Disk c.self.inside.opening.value c.step-progress.new.self z
since g c r z is made right =
    let k = c.self.inside in
    let h = head g c in
    since_step g.D.Disk g.I.Intake g.H.Herald c.args.pid _ _ _ c.self.invariant c.known.ensures.store c.known.ensures.survives h.within
    (acts_finished g.D.Disk g.I.Intake g.H.Herald c.args.pid k.store c.step-progress.new.self k.opening.value k.intake k.herald k.processes z h.well h.there.group h.there.k k.intake r h.there.stands
    (subst (λ (o : Op). Steps g.D.Disk k.store c.args.pid o r c.step-progress.new.self) h.same (h.steps r is)) made (sides_same g.I.Intake c.args.pid k.intake) refl) right c.known-2.ensures.survives

-- the group that was looked up is its own
own_group : (g : Over) (c : After-known-2 g) (group k : ℕ) {a : Phase} → a ≡ (process c.self.inside.processes c.args.pid).at → a ≡ Phase.AfterTurn group k → (head g c).there.group ≡ group
own_group g c group k is told = let both : Phase.AfterTurn (head g c).there.group (head g c).there.k ≡ Phase.AfterTurn group k = sym (head g c).there.stands ∙ sym is ∙ told in cc both

some_group : (group : ℕ) → (group ≡ 0 → ⊥) → 0 < group
some_group group some = omega (arith, some)

no_group : (group : ℕ) → group ≤ 0 → group ≡ 0
no_group group none = omega (arith, none)

-- a reading was told its bytes, and answered
told : (g : Over) (c : After-known-2 g) (reply : Reply) → (head g c).there.group ≡ 0 → c.step-progress.result ≡ TaskProgress.Decided reply → IsRight g.D.Disk c.self.inside.opening.value c.step-progress.new.self (answered (decided c.self.inside.processes c.args.pid reply) c.args.pid)
told g c reply none is =
    let k = c.self.inside in
    let h = head g c in
    right_decided g.D.Disk k.opening.value k.store k.processes c.self.invariant.right h.well c.args.pid h.within c.operation-op.result.now h.mine c.known.ensures.store c.step-progress.new.self h.there.group h.there.k h.there.stands none reply
    (h.steps (TaskProgress.Decided reply) is) (h.agreed (TaskProgress.Decided reply) is refl)

can_told : (g : Over) (c : After-known-2 g) (reply : Reply) (z : World) → (head g c).there.group ≡ 0 → c.step-progress.result ≡ TaskProgress.Decided reply → z ≡ decided c.self.inside.processes c.args.pid reply → CanAnswer (last_answer z (process z c.args.pid).at) (process z c.args.pid).room
can_told g c reply z none is made =
    let k = c.self.inside in
    let h = head g c in
    subst (λ (o : World). CanAnswer (last_answer o (process o c.args.pid).at) (process o c.args.pid).room) (sym made)
    (answer_told g.D.Disk k.opening.value k.store k.processes c.args.pid c.self.invariant.right h.well h.there reply c.step-progress.new.self (h.steps (TaskProgress.Decided reply) is).reads.fault (told g c reply none is))

-- another look has its reply
can_leave : (g : Over) (c : After-known-2 g) → c.step-progress.result ≡ TaskProgress.Over → CanAnswer (last_answer c.self.inside.processes (process c.self.inside.processes c.args.pid).at) (process c.self.inside.processes c.args.pid).room
can_leave g c is =
    let k = c.self.inside in
    let h = head g c in
    let ends = ends_now g.D.Disk k.opening.value k.store k.processes c.self.invariant.right h.well c.args.pid h.within c.operation-op.result.now h.mine c.known.ensures.store c.step-progress.new.self TaskProgress.Over h.there.its.unfinished (h.steps TaskProgress.Over is) in
    answer_over g.D.Disk k.opening.value k.store k.processes c.args.pid c.self.invariant.right h.well h.there (some_reply h.there.entry.reply (sym h.there.its.reply ∙ ends.1))

-- with neither reply nor end the processes stay as they are
stays : (group : ℕ) (r : TaskProgress) (w : World) (p : ℕ) → ((reply : Reply) → r ≡ TaskProgress.Decided reply → ⊥) → (r ≡ TaskProgress.Over → ⊥) → (w ≡ world_behind group r w p) × (step_behind group r ≡ step_of r)
stays group TaskProgress.Moved w p undecided more = (refl, refl)
stays group (TaskProgress.Turned reply) w p undecided more = (refl, refl)
stays group (TaskProgress.Decided reply) w p undecided more = absurd (undecided reply refl)
stays group TaskProgress.Over w p undecided more = absurd (more refl)
stays group (TaskProgress.Sleeping cause) w p undecided more = (refl, refl)
stays group (TaskProgress.Fault fault) w p undecided more = (refl, refl)

-- what is true of the kernel then
still : (g : Over) (c : After-known-2 g) (r : TaskProgress) → c.step-progress.result ≡ r → ((reply : Reply) → r ≡ TaskProgress.Decided reply → ⊥) → (r ≡ TaskProgress.Over → ⊥)
    → Inv g.D.Disk g.I.Intake g.H.Herald (record { store = c.step-progress.new.self; opening = c.self.inside.opening.value; intake = c.self.inside.intake; herald = c.self.inside.herald; world = c.self.inside.processes })
still g c TaskProgress.Moved is undecided more =
    let k = c.self.inside in
    let h = head g c in
    let steps = h.steps TaskProgress.Moved is in
    let right = right_moved_behind g.D.Disk k.opening.value k.store k.processes c.self.invariant.right h.well c.args.pid h.within c.operation-op.result.now h.mine c.known.ensures.store c.step-progress.new.self h.there.group h.there.k h.there.stands steps (h.agreed TaskProgress.Moved is refl) in
    record {
      right = right;
      since = since g c TaskProgress.Moved k.processes is refl right;
      ports = subst (λ (n : ℕ). ArePorts g.I.Intake g.H.Herald k.intake k.herald n k.processes) (sym steps.groups.committed) c.self.invariant.ports;
    }
still g c (TaskProgress.Turned reply) is undecided more =
    let k = c.self.inside in
    let h = head g c in
    absurd (not_turned g.D.Disk k.opening.value k.store k.processes c.self.invariant.right h.well c.args.pid h.within c.operation-op.result.now h.mine c.known.ensures.store c.step-progress.new.self h.there.group h.there.k h.there.stands reply (h.steps (TaskProgress.Turned reply) is))
still g c (TaskProgress.Decided reply) is undecided more = absurd (undecided reply refl)
still g c TaskProgress.Over is undecided more = absurd (more refl)
still g c (TaskProgress.Sleeping cause) is undecided more =
    let k = c.self.inside in
    let steps = (head g c).steps (TaskProgress.Sleeping cause) is in
    subst (λ (o : StoreState _). Inv g.D.Disk g.I.Intake g.H.Herald (record { store = o; opening = k.opening.value; intake = k.intake; herald = k.herald; world = k.processes })) (sym (steps.waits.sleeping cause refl)) c.self.invariant
still g c (TaskProgress.Fault fault) is undecided more =
    let k = c.self.inside in
    let h = head g c in
    let steps = h.steps (TaskProgress.Fault fault) is in
    let right = right_fault_behind g.D.Disk k.opening.value k.store k.processes c.self.invariant.right h.well c.args.pid h.within c.operation-op.result.now h.mine c.known.ensures.store c.step-progress.new.self h.there.group h.there.k h.there.stands fault
    (survives_reading g.D.Disk k.opening.value k.store c.step-progress.new.self g.met.D.Disk.counts_now steps.reads.device h.well c.known.ensures.survives) steps in
    record {
      right = right;
      since = since g c (TaskProgress.Fault fault) k.processes is refl right;
      ports = subst (λ (n : ℕ). ArePorts g.I.Intake g.H.Herald k.intake k.herald n k.processes) (sym steps.groups.committed) c.self.invariant.ports;
    }

pub step-progress-requires-clause-op : goal.step-progress-requires-clause-op
step-progress-requires-clause-op g c =
    let k = c.self.inside in
    let well : k.store.volume.fault ≡ None = search rules in
    let there = is_there g.D.Disk k.opening.value k.store k.processes c.args.pid c.self.invariant.right well (search rules) in
    mine_is g.D.Disk k.opening.value k.store k.processes c.args.pid c.self.invariant.right well there c.operation-op.result.now c.operation-op.ensures

pub give-requires-clause-over : goal.give-requires-clause-over
give-requires-clause-over g c =
    let past = (goal.at.give-requires-clause-over g c).After-known-2 in
    let none = own_group g past c.in-AfterTurn.group c.in-AfterTurn.entry c.at.ensures c.in-AfterTurn.is ∙ no_group c.in-AfterTurn.group c.if-group-gt0.false in
    (can_told g past c.in-Decided.reply c.decide.new.self none c.in-Decided.is c.decide.ensures).0

pub give-requires-clause-fits : goal.give-requires-clause-fits
give-requires-clause-fits g c =
    let past = (goal.at.give-requires-clause-fits g c).After-known-2 in
    let none = own_group g past c.in-AfterTurn.group c.in-AfterTurn.entry c.at.ensures c.in-AfterTurn.is ∙ no_group c.in-AfterTurn.group c.if-group-gt0.false in
    (can_told g past c.in-Decided.reply c.decide.new.self none c.in-Decided.is c.decide.ensures).1

pub give-requires-in-Over-clause-over : goal.give-requires-in-Over-clause-over
give-requires-in-Over-clause-over g c = (can_leave g (goal.at.give-requires-in-Over-clause-over g c).After-known-2 c.in-Over.is).0

pub give-requires-in-Over-clause-fits : goal.give-requires-in-Over-clause-fits
give-requires-in-Over-clause-fits g c = (can_leave g (goal.at.give-requires-in-Over-clause-fits g c).After-known-2 c.in-Over.is).1

pub invariant_of-self-in-Decided : goal.invariant_of-self-in-Decided
invariant_of-self-in-Decided g c =
    let k = c.self.inside in
    let past = (goal.at.invariant_of-self-in-Decided g c).After-known-2 in
    let h = head g past in
    let reply = c.in-Decided.reply in
    let steps = h.steps (TaskProgress.Decided reply) c.in-Decided.is in
    let none = own_group g past c.in-AfterTurn.group c.in-AfterTurn.entry c.at.ensures c.in-AfterTurn.is ∙ no_group c.in-AfterTurn.group c.if-group-gt0.false in
    let inside : c.args.pid < length c.decide.new.self.processes = search rules in
    let right = subst (λ (z : World). IsRight g.D.Disk k.opening.value c.step-progress.new.self z) (sym (c.give.ensures.processes ∙ ap (λ (w : World). answered w c.args.pid) c.decide.ensures)) (told g past reply none c.in-Decided.is) in
    record {
      right = right;
      since = since g past (TaskProgress.Decided reply) c.give.new.processes c.in-Decided.is
          (c.give.ensures.processes ∙ ap (λ (w : World). answered w c.args.pid) c.decide.ensures ∙ ap (λ (n : ℕ). world_of_told n k.processes c.args.pid reply) (sym none)) right;
      ports = ports_given g.I.Intake g.H.Herald k.intake c.give.new.intake k.herald k.herald k.store.volume.log.committed c.step-progress.new.self.volume.log.committed c.decide.new.self c.give.new.processes c.args.pid
          (subst (λ (w : World). ArePorts g.I.Intake g.H.Herald k.intake k.herald k.store.volume.log.committed w) (sym c.decide.ensures)
          (ports_decided g.I.Intake g.H.Herald k.intake k.herald k.store.volume.log.committed k.processes c.args.pid h.there.group h.there.k h.there.entry reply c.self.invariant.ports h.within h.there.stands h.there.has.at h.there.has.mine))
          inside (can_told g past reply c.decide.new.self none c.in-Decided.is c.decide.ensures).0 c.give.ensures.processes c.give.ensures.gives (c.self.invariant.ports.told ∙ sym steps.groups.committed);
    }

pub invariant_of-self : goal.invariant_of-self
invariant_of-self g c =
    let k = c.self.inside in
    let past = (goal.at.invariant_of-self g c).After-known-2 in
    let h = head g past in
    let reply = c.in-Decided.reply in
    let steps = h.steps (TaskProgress.Decided reply) c.in-Decided.is in
    let same = own_group g past c.in-AfterTurn.group c.in-AfterTurn.entry c.at.ensures c.in-AfterTurn.is in
    let some = c.if-group-gt0.true in
    let right = subst (λ (z : World). IsRight g.D.Disk k.opening.value c.step-progress.new.self z) (sym c.decide.ensures)
    (right_told g.D.Disk k.opening.value k.store k.processes c.self.invariant.right h.well c.args.pid h.within c.operation-op.result.now h.mine c.known.ensures.store c.step-progress.new.self h.there.group h.there.k h.there.stands
    (omega (arith, same, some)) reply steps (h.agreed (TaskProgress.Decided reply) c.in-Decided.is refl)) in
    record {
      right = right;
      since = let next : suc (c.in-AfterTurn.group - 1) ≡ c.in-AfterTurn.group = omega (arith, some) in
          since g past (TaskProgress.Decided reply) c.decide.new.self c.in-Decided.is (c.decide.ensures ∙ ap (λ (n : ℕ). world_of_told n k.processes c.args.pid reply) (next ∙ sym same)) right;
      ports = subst (λ (n : ℕ). ArePorts g.I.Intake g.H.Herald k.intake k.herald n c.decide.new.self) (sym steps.groups.committed)
          (subst (λ (w : World). ArePorts g.I.Intake g.H.Herald k.intake k.herald k.store.volume.log.committed w) (sym c.decide.ensures)
          (ports_decided g.I.Intake g.H.Herald k.intake k.herald k.store.volume.log.committed k.processes c.args.pid h.there.group h.there.k h.there.entry reply c.self.invariant.ports h.within h.there.stands h.there.has.at h.there.has.mine));
    }

pub invariant_of-self-then-group-eq0 : goal.invariant_of-self-then-group-eq0
invariant_of-self-then-group-eq0 g c =
    let k = c.self.inside in
    let past = (goal.at.invariant_of-self-then-group-eq0 g c).After-known-2 in
    let h = head g past in
    let steps = h.steps TaskProgress.Over c.in-Over.is in
    let none : h.there.group ≡ 0 = own_group g past c.in-AfterTurn.group c.in-AfterTurn.entry c.at.ensures c.in-AfterTurn.is ∙ c.if-group-eq0.true in
    let right = subst (λ (z : World). IsRight g.D.Disk k.opening.value c.step-progress.new.self z) (sym c.give-in-Over.ensures.processes)
    (right_over g.D.Disk k.opening.value k.store k.processes c.self.invariant.right h.well c.args.pid h.within c.operation-op.result.now h.mine c.known.ensures.store c.step-progress.new.self h.there.group h.there.k h.there.stands none steps (h.agreed TaskProgress.Over c.in-Over.is refl)) in
    record {
      right = right;
      since = since g past TaskProgress.Over c.give-in-Over.new.processes c.in-Over.is (c.give-in-Over.ensures.processes ∙ ap (λ (n : ℕ). world_of_last n k.processes c.args.pid) (sym none)) right;
      ports = ports_given g.I.Intake g.H.Herald k.intake c.give-in-Over.new.intake k.herald k.herald k.store.volume.log.committed c.step-progress.new.self.volume.log.committed k.processes c.give-in-Over.new.processes c.args.pid
          c.self.invariant.ports h.within (can_leave g past c.in-Over.is).0 c.give-in-Over.ensures.processes c.give-in-Over.ensures.gives (c.self.invariant.ports.told ∙ sym steps.groups.committed);
    }

pub invariant_of-self-in-Over-2 : goal.invariant_of-self-in-Over-2
invariant_of-self-in-Over-2 g c =
    let k = c.self.inside in
    let past = (goal.at.invariant_of-self-in-Over-2 g c).After-known-2 in
    let h = head g past in
    let steps = h.steps TaskProgress.Over c.in-Over.is in
    let same = own_group g past c.in-AfterTurn.group c.in-AfterTurn.entry c.at.ensures c.in-AfterTurn.is in
    let right = subst (λ (z : World). IsRight g.D.Disk k.opening.value c.step-progress.new.self z) (sym c.go_to_end.ensures)
    (right_ends g.D.Disk k.opening.value k.store k.processes c.self.invariant.right h.well c.args.pid h.within c.operation-op.result.now h.mine c.known.ensures.store c.step-progress.new.self h.there.group h.there.k h.there.stands
    (some_group h.there.group (λ none. c.if-group-eq0.false (sym same ∙ none))) steps (h.agreed TaskProgress.Over c.in-Over.is refl)) in
    record {
      right = right;
      since = let some = some_group c.in-AfterTurn.group c.if-group-eq0.false in
          let next : suc (c.in-AfterTurn.group - 1) ≡ c.in-AfterTurn.group = omega (arith, some) in
          since g past TaskProgress.Over c.go_to_end.new.self c.in-Over.is (c.go_to_end.ensures ∙ ap (λ (n : ℕ). world_of_last n k.processes c.args.pid) (next ∙ sym same)) right;
      ports = subst (λ (n : ℕ). ArePorts g.I.Intake g.H.Herald k.intake k.herald n c.go_to_end.new.self) (sym steps.groups.committed)
          (ports_ending g.I.Intake g.H.Herald k.intake k.herald k.store.volume.log.committed k.processes c.go_to_end.new.self c.args.pid h.there.group h.there.k c.self.invariant.ports h.within h.there.stands c.go_to_end.ensures);
    }

-- with the reply of an operation of that group
acts_told : (g : Over) (c : After-known-2 g) (reply : Reply) (group : ℕ) (j : _) (z : World) → (head g c).there.group ≡ group → c.step-progress.result ≡ TaskProgress.Decided reply → z ≡ world_of_told group c.self.inside.processes c.args.pid reply
    → KeepsOthers g.I.Intake c.args.pid c.self.inside.intake j → (g.I.Intake.side j c.args.pid).ahead ≡ (g.I.Intake.side c.self.inside.intake c.args.pid).ahead
    → Acts g.D.Disk g.I.Intake g.H.Herald c.args.pid (step_of_told group) c.args.self.now (record { store = c.step-progress.new.self; opening = c.self.inside.opening.value; intake = j; herald = c.self.inside.herald; world = z })
acts_told g c reply group j z same is made sides ahead =
    subst (λ (n : ℕ). Acts g.D.Disk g.I.Intake g.H.Herald c.args.pid (step_of_told n) c.args.self.now (record { store = c.step-progress.new.self; opening = c.self.inside.opening.value; intake = j; herald = c.self.inside.herald; world = z })) same
    (acts g c (TaskProgress.Decided reply) j z is (made ∙ ap (λ (n : ℕ). world_of_told n c.self.inside.processes c.args.pid reply) (sym same)) sides ahead)

pub returns-then-group-gt0 : goal.returns-then-group-gt0
returns-then-group-gt0 g c =
    let past = (goal.at.returns-then-group-gt0 g c).After-known-2 in
    let same = own_group g past c.in-AfterTurn.group c.in-AfterTurn.entry c.at.ensures c.in-AfterTurn.is in
    let next : suc (c.in-AfterTurn.group - 1) ≡ c.in-AfterTurn.group = omega (arith, c.if-group-gt0.true) in
    acts_told g past c.in-Decided.reply (suc (c.in-AfterTurn.group - 1)) c.self.inside.intake c.decide.new.self (same ∙ sym next) c.in-Decided.is
    c.decide.ensures (sides_same g.I.Intake c.args.pid c.self.inside.intake) refl

pub returns-else-group-gt0 : goal.returns-else-group-gt0
returns-else-group-gt0 g c =
    let past = (goal.at.returns-else-group-gt0 g c).After-known-2 in
    let none = own_group g past c.in-AfterTurn.group c.in-AfterTurn.entry c.at.ensures c.in-AfterTurn.is ∙ no_group c.in-AfterTurn.group c.if-group-gt0.false in
    acts_told g past c.in-Decided.reply 0 c.give.new.intake c.give.new.processes none c.in-Decided.is
    (c.give.ensures.processes ∙ ap (λ (w : World). answered w c.args.pid) c.decide.ensures) c.give.ensures.gives.keeps c.give.ensures.gives.ahead

-- with the last step of a task of that group
acts_last : (g : Over) (c : After-known-2 g) (group : ℕ) (j : _) (z : World) → (head g c).there.group ≡ group → c.step-progress.result ≡ TaskProgress.Over → z ≡ world_of_last group c.self.inside.processes c.args.pid
    → KeepsOthers g.I.Intake c.args.pid c.self.inside.intake j → (g.I.Intake.side j c.args.pid).ahead ≡ (g.I.Intake.side c.self.inside.intake c.args.pid).ahead
    → Acts g.D.Disk g.I.Intake g.H.Herald c.args.pid (step_of_last group) c.args.self.now (record { store = c.step-progress.new.self; opening = c.self.inside.opening.value; intake = j; herald = c.self.inside.herald; world = z })
acts_last g c group j z same is made sides ahead =
    subst (λ (n : ℕ). Acts g.D.Disk g.I.Intake g.H.Herald c.args.pid (step_of_last n) c.args.self.now (record { store = c.step-progress.new.self; opening = c.self.inside.opening.value; intake = j; herald = c.self.inside.herald; world = z })) same
    (acts g c TaskProgress.Over j z is (made ∙ ap (λ (n : ℕ). world_of_last n c.self.inside.processes c.args.pid) (sym same)) sides ahead)

pub returns-in-Over : goal.returns-in-Over
returns-in-Over g c =
    let past = (goal.at.returns-in-Over g c).After-known-2 in
    acts_last g past 0 c.give-in-Over.new.intake c.give-in-Over.new.processes (own_group g past c.in-AfterTurn.group c.in-AfterTurn.entry c.at.ensures c.in-AfterTurn.is ∙ c.if-group-eq0.true) c.in-Over.is
    c.give-in-Over.ensures.processes c.give-in-Over.ensures.gives.keeps c.give-in-Over.ensures.gives.ahead

pub returns-in-Over-2 : goal.returns-in-Over-2
returns-in-Over-2 g c =
    let past = (goal.at.returns-in-Over-2 g c).After-known-2 in
    let same = own_group g past c.in-AfterTurn.group c.in-AfterTurn.entry c.at.ensures c.in-AfterTurn.is in
    let next : suc (c.in-AfterTurn.group - 1) ≡ c.in-AfterTurn.group = omega (arith, (some_group c.in-AfterTurn.group c.if-group-eq0.false)) in
    acts_last g past (suc (c.in-AfterTurn.group - 1)) c.self.inside.intake c.go_to_end.new.self (same ∙ sym next) c.in-Over.is
    c.go_to_end.ensures (sides_same g.I.Intake c.args.pid c.self.inside.intake) refl

pub invariant_of-self-in_default-progress : goal.invariant_of-self-in_default-progress
invariant_of-self-in_default-progress g c = still g (goal.at.invariant_of-self-in_default-progress g c).After-known-2 c.step-progress.result refl c.in_default-progress.not-Decided c.in_default-progress.not-Over

pub returns-in_default-progress : goal.returns-in_default-progress
returns-in_default-progress g c =
    let past = (goal.at.returns-in_default-progress g c).After-known-2 in
    let k = c.self.inside in
    let r = c.step-progress.result in
    let same = stays (head g past).there.group r k.processes c.args.pid c.in_default-progress.not-Decided c.in_default-progress.not-Over in
    subst (λ (a : Step). Acts g.D.Disk g.I.Intake g.H.Herald c.args.pid a c.args.self.now (record { store = c.step-progress.new.self; opening = k.opening.value; intake = k.intake; herald = k.herald; world = k.processes })) (same.1 ∙ sym c.step_of.ensures)
    (acts g past r k.intake k.processes refl same.0 (sides_same g.I.Intake c.args.pid k.intake) refl)
