use Rattle.std.proofs.Common.{rules, refl, ◌≡◌, ◌<◌, length, None, Some, ◌∙◌, sym, ap, subst, ℕ, Bool, Option}
use Rattle.kernel.specs.Common.{Acts, ArePorts, fault_of_task, Ghosts, Inv, is_over, IsRight, LeavesSince, Op, Phase, process, Reply, State, Step, step_of, Steps, StoreState, task, TaskProgress, TaskStands, turned, World, world_after}
use Rattle.kernel.proofs.Acting.{acts_worked}
use Rattle.kernel.proofs.Ports.{ports_turned}
use Rattle.kernel.proofs.Valid.{HasAgreed, agreed_now}
use Rattle.kernel.proofs.Promising.{since_step}
use Rattle.kernel.proofs.Right.{survives_reading}
use Rattle.kernel.proofs.Working.{not_decided, not_over, right_moved, right_turned, right_fault}
use Rattle.kernel.proofs.stepping.Kernel.work.Given.{Over}
use Rattle.kernel.proofs.stepping.Kernel.work.Goals.{After-known-2}
use Rattle.kernel.proofs.stepping.Kernel.work.Goals as goal

-- whose task made a step, which came to this: its operation had no turn yet
record Head {D N : Type 0} (disk : Ghosts D N) (s t : StoreState D) (w : World) (p group : ℕ) (op : Op) (came : TaskProgress) : Type 0 where
  well : s.volume.fault ≡ None
  within : p < length w.processes
  stands : (process w p).at ≡ Phase.BeforeTurn group op
  mine : (task s.tasks p).op ≡ Some op
  steps : (r : TaskProgress) → came ≡ r → Steps disk s p op r t
  agreed : (r : TaskProgress) → came ≡ r → fault_of_task r ≡ None → HasAgreed disk.image t

head : (g : Over) (c : After-known-2 g) → Head g.D.Disk c.self.inside.store c.step-progress.new.self c.self.inside.processes c.args.pid c.in-BeforeTurn.group c.in-BeforeTurn.op c.step-progress.result
head g c =
    let k = c.self.inside in
    let t = c.step-progress.new.self in
    let stands : (process k.processes c.args.pid).at ≡ Phase.BeforeTurn c.in-BeforeTurn.group c.in-BeforeTurn.op = sym c.at.ensures ∙ c.in-BeforeTurn.is in
    let there : TaskStands k.processes.journal.list (task k.store.tasks c.args.pid) (Phase.BeforeTurn c.in-BeforeTurn.group c.in-BeforeTurn.op)
    = subst (λ (a : Phase). TaskStands k.processes.journal.list (task k.store.tasks c.args.pid) a) stands (c.self.invariant.right.paired.stand c.args.pid).stands in
    let steps : (r : TaskProgress) → c.step-progress.result ≡ r → Steps g.D.Disk k.store c.args.pid c.in-BeforeTurn.op r t = λ r is. subst (λ (q : TaskProgress). Steps g.D.Disk k.store c.args.pid c.in-BeforeTurn.op q t) is c.step-progress.ensures.step in
    record {
      well = search rules;
      within = search rules;
      stands = stands;
      mine = there.0;
      steps = steps;
      agreed = λ r is none. agreed_now g.D.Disk.image t ((steps r is).reads.fault ∙ none) c.known-2.ensures.volume c.known-2.ensures.store;
    }

-- what it made of the kernel
acts : (g : Over) (c : After-known-2 g) (r : TaskProgress) (z : World) → c.step-progress.result ≡ r → z ≡ world_after r (is_over (task c.step-progress.new.self.tasks c.args.pid).stage) c.self.inside.processes c.args.pid
    → Acts g.D.Disk g.I.Intake g.H.Herald c.args.pid (step_of r) c.args.self.now (record { store = c.step-progress.new.self; opening = c.self.inside.opening.value; intake = c.self.inside.intake; herald = c.self.inside.herald; world = z })
acts g c r z is made =
    let k = c.self.inside in
    let h = head g c in
    subst (λ (o : State _ _ _). Acts g.D.Disk g.I.Intake g.H.Herald c.args.pid (step_of r) o (record { store = c.step-progress.new.self; opening = k.opening.value; intake = k.intake; herald = k.herald; world = z })) c.self.view_is
    (acts_worked g.D.Disk g.I.Intake g.H.Herald c.args.pid k.store c.step-progress.new.self k.opening.value k.intake k.herald k.processes z h.well c.in-BeforeTurn.group c.in-BeforeTurn.op r h.stands (h.steps r is) made)

-- and of what a stop has left since the opening
since : (g : Over) (c : After-known-2 g) (r : TaskProgress) (z : World) → c.step-progress.result ≡ r → z ≡ world_after r (is_over (task c.step-progress.new.self.tasks c.args.pid).stage) c.self.inside.processes c.args.pid
    → IsRight g.D.Disk c.self.inside.opening.value c.step-progress.new.self z → LeavesSince g.D.Disk c.self.inside.opening.value c.step-progress.new.self z
since g c r z is made right =
    let k = c.self.inside in
    let h = head g c in
    since_step g.D.Disk g.I.Intake g.H.Herald c.args.pid _ _ _ c.self.invariant c.known.ensures.store c.known.ensures.survives h.within
    (acts_worked g.D.Disk g.I.Intake g.H.Herald c.args.pid k.store c.step-progress.new.self k.opening.value k.intake k.herald k.processes z h.well c.in-BeforeTurn.group c.in-BeforeTurn.op r h.stands (h.steps r is) made) right c.known-2.ensures.survives

-- it had no turn, and the processes stay as they are
unturned : (r : TaskProgress) (ends : Bool) (w : World) (p : ℕ) → ((reply : Option Reply) → r ≡ TaskProgress.Turned reply → ⊥) → w ≡ world_after r ends w p
unturned TaskProgress.Moved ends w p none = refl
unturned (TaskProgress.Turned reply) ends w p none = absurd (none reply refl)
unturned (TaskProgress.Decided reply) ends w p none = refl
unturned TaskProgress.Over ends w p none = refl
unturned (TaskProgress.Sleeping cause) ends w p none = refl
unturned (TaskProgress.Fault fault) ends w p none = refl

-- what is true of the kernel then
still : (g : Over) (c : After-known-2 g) (r : TaskProgress) → c.step-progress.result ≡ r → ((reply : Option Reply) → r ≡ TaskProgress.Turned reply → ⊥)
    → Inv g.D.Disk g.I.Intake g.H.Herald (record { store = c.step-progress.new.self; opening = c.self.inside.opening.value; intake = c.self.inside.intake; herald = c.self.inside.herald; world = c.self.inside.processes })
still g c TaskProgress.Moved is none =
    let k = c.self.inside in
    let h = head g c in
    let steps = h.steps TaskProgress.Moved is in
    let right = right_moved g.D.Disk k.opening.value k.store k.processes c.self.invariant.right h.well c.args.pid h.within c.in-BeforeTurn.op h.mine c.known.ensures.store c.step-progress.new.self c.in-BeforeTurn.group h.stands steps (h.agreed TaskProgress.Moved is refl) in
    record {
      right = right;
      since = since g c TaskProgress.Moved k.processes is refl right;
      ports = subst (λ (n : ℕ). ArePorts g.I.Intake g.H.Herald k.intake k.herald n k.processes) (sym steps.groups.committed) c.self.invariant.ports;
    }
still g c (TaskProgress.Turned reply) is none = absurd (none reply refl)
still g c (TaskProgress.Decided reply) is none =
    let h = head g c in
    absurd (not_decided g.D.Disk c.self.inside.opening.value c.self.inside.store c.self.inside.processes c.self.invariant.right h.well c.args.pid h.within c.in-BeforeTurn.op h.mine c.known.ensures.store c.step-progress.new.self c.in-BeforeTurn.group h.stands reply (h.steps (TaskProgress.Decided reply) is))
still g c TaskProgress.Over is none =
    let h = head g c in
    absurd (not_over g.D.Disk c.self.inside.opening.value c.self.inside.store c.self.inside.processes c.self.invariant.right h.well c.args.pid h.within c.in-BeforeTurn.op h.mine c.known.ensures.store c.step-progress.new.self c.in-BeforeTurn.group h.stands (h.steps TaskProgress.Over is))
still g c (TaskProgress.Sleeping cause) is none =
    let k = c.self.inside in
    let steps = (head g c).steps (TaskProgress.Sleeping cause) is in
    subst (λ (o : StoreState _). Inv g.D.Disk g.I.Intake g.H.Herald (record { store = o; opening = k.opening.value; intake = k.intake; herald = k.herald; world = k.processes })) (sym (steps.waits.sleeping cause refl)) c.self.invariant
still g c (TaskProgress.Fault fault) is none =
    let k = c.self.inside in
    let h = head g c in
    let steps = h.steps (TaskProgress.Fault fault) is in
    let right = right_fault g.D.Disk k.opening.value k.store k.processes c.self.invariant.right h.well c.args.pid h.within c.in-BeforeTurn.op h.mine c.known.ensures.store c.step-progress.new.self c.in-BeforeTurn.group h.stands fault
    (survives_reading g.D.Disk k.opening.value k.store c.step-progress.new.self g.met.D.Disk.counts_now steps.reads.device h.well c.known.ensures.survives) steps in
    record {
      ports = subst (λ (n : ℕ). ArePorts g.I.Intake g.H.Herald k.intake k.herald n k.processes) (sym steps.groups.committed) c.self.invariant.ports;
      right = right;
      since = since g c (TaskProgress.Fault fault) k.processes is refl right;
    }

pub invariant_of-self : goal.invariant_of-self
invariant_of-self g c =
    let k = c.self.inside in
    let h = head g (goal.at.invariant_of-self g c).After-known-2 in
    let t = c.step-progress.new.self in
    let reply = c.in-Turned.reply in
    let steps = h.steps (TaskProgress.Turned reply) c.in-Turned.is in
    let made : c.turn.new.self ≡ turned k.processes c.args.pid reply (is_over (task t.tasks c.args.pid).stage) = c.turn.ensures ∙ ap (λ b. turned k.processes c.args.pid reply b) c.is_over-is_over.ensures in
    let right = subst (λ (z : World). IsRight g.D.Disk k.opening.value t z) (sym made)
    (right_turned g.D.Disk k.opening.value k.store k.processes c.self.invariant.right h.well c.args.pid h.within c.in-BeforeTurn.op h.mine c.known.ensures.store t c.in-BeforeTurn.group h.stands reply steps (h.agreed (TaskProgress.Turned reply) c.in-Turned.is refl)) in
    record {
      right = right;
      since = since g (goal.at.invariant_of-self g c).After-known-2 (TaskProgress.Turned reply) c.turn.new.self c.in-Turned.is made right;
      ports = subst (λ (n : ℕ). ArePorts g.I.Intake g.H.Herald k.intake k.herald n c.turn.new.self) (sym steps.groups.committed)
          (ports_turned g.I.Intake g.H.Herald k.intake k.herald k.store.volume.log.committed k.processes c.turn.new.self c.args.pid c.in-BeforeTurn.group c.in-BeforeTurn.op reply (is_over (task t.tasks c.args.pid).stage) c.self.invariant.ports h.within h.stands made);
    }

pub invariant_of-self-in_default-progress : goal.invariant_of-self-in_default-progress
invariant_of-self-in_default-progress g c = still g (goal.at.invariant_of-self-in_default-progress g c).After-known-2 c.step-progress.result refl c.in_default-progress.not-Turned

pub returns-in-Turned : goal.returns-in-Turned
returns-in-Turned g c = acts g (goal.at.returns-in-Turned g c).After-known-2 (TaskProgress.Turned c.in-Turned.reply) c.turn.new.self c.in-Turned.is
    (c.turn.ensures ∙ ap (λ b. turned c.self.inside.processes c.args.pid c.in-Turned.reply b) c.is_over-is_over.ensures)

pub returns-in_default-progress : goal.returns-in_default-progress
returns-in_default-progress g c =
    let past = (goal.at.returns-in_default-progress g c).After-known-2 in
    let k = c.self.inside in
    let r = c.step-progress.result in
    subst (λ (a : Step). Acts g.D.Disk g.I.Intake g.H.Herald c.args.pid a c.args.self.now (record { store = c.step-progress.new.self; opening = k.opening.value; intake = k.intake; herald = k.herald; world = k.processes })) (sym c.step_of.ensures)
    (acts g past r k.processes refl (unturned r (is_over (task c.step-progress.new.self.tasks c.args.pid).stage) k.processes c.args.pid c.in_default-progress.not-Turned))
