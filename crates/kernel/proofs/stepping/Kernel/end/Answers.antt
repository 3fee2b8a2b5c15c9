use Rattle.std.proofs.Common.{rules, refl, ◌≡◌, ◌<◌, ℕ, length, true, None, ap, subst, sym, ◌∙◌}
use Rattle.kernel.specs.Common.{Acts, CanAnswer, closed_uncommitted, end_answer, Ended, ended, ending_there, Image, is_ending, IsRight, Joint, KeepsFiles, last_answer, LeavesSince, Phase, process, State, Step, step_of_end, StoreState, with_log, World, world_ended}
use Rattle.kernel.proofs.Acting.{acts_ended, same_unasked, sides_same}
use Rattle.kernel.proofs.Answering.{answer_ends}
use Rattle.kernel.proofs.Closing.{right_closed, right_left}
use Rattle.kernel.proofs.Ports.{ports_committing, ports_given, ports_counted}
use Rattle.kernel.proofs.Promising.{since_step}
use Rattle.kernel.proofs.Valid.{HasAgreed, agreed_now}
use Rattle.kernel.proofs.stepping.Kernel.end.Given.{Over}
use Rattle.kernel.proofs.stepping.Kernel.end.Goals.{After-known-2}
use Rattle.kernel.proofs.stepping.Kernel.end.Goals as goal

-- whose operation ends, from store s: it stands so, can be answered, and its end keeps what is on the disk
record Head {D : Type 0} (image : D → Image) (s : StoreState D) (w : World) (p : ℕ) : Type 0 where
  well : s.volume.fault ≡ None
  within : p < length w.processes
  there : (group : ℕ) × (index : ℕ) × ((process w p).at ≡ Phase.Ending group index)
  answer : CanAnswer (last_answer w (process w p).at) (process w p).room
  before : Joint (image s.volume.device) s.volume.buffers s.volume.log
  agreed : HasAgreed image (with_log s (ended s.volume.log p))
  keeps : KeepsFiles image s (with_log s (ended s.volume.log p))

head : (g : Over) (c : After-known-2 g) → Head g.D.Disk.image c.self.inside.store c.self.inside.processes c.args.pid
head g c =
    let k = c.self.inside in
    let disk = g.D.Disk in
    let p = c.args.pid in
    let well : k.store.volume.fault ≡ None = search rules in
    let ends : is_ending (process k.processes p).at ≡ true = search rules in
    let there = ending_there (process k.processes p).at ends in
    let t = c.end-ended.new.self in
    let is : t ≡ with_log k.store (ended k.store.volume.log p) = c.end-ended.ensures.store in
    record {
      well = well;
      within = search rules;
      there = there;
      answer = answer_ends disk k.opening.value k.store k.processes p c.self.invariant.right well ends;
      before = (agreed_now disk.image k.store well c.known.ensures.volume c.known.ensures.store).joint;
      agreed = subst (λ (o : StoreState _). HasAgreed disk.image o) is (agreed_now disk.image t (ap (λ (o : StoreState _). o.volume.fault) is ∙ well) c.known-2.ensures.volume c.known-2.ensures.store);
      keeps = subst (λ (o : StoreState _). KeepsFiles disk.image k.store o) is c.end-ended.ensures.files;
    }

-- what a stop has left since the opening
since : (g : Over) (c : After-known-2 g) (z : World) → z ≡ world_ended (end_answer c.self.inside.store.volume.log) c.self.inside.processes c.args.pid
    → IsRight g.D.Disk c.self.inside.opening.value c.end-ended.new.self z → LeavesSince g.D.Disk c.self.inside.opening.value c.end-ended.new.self z
since g c z made right =
    let k = c.self.inside in
    let h = head g c in
    since_step g.D.Disk g.I.Intake g.H.Herald c.args.pid _ _ _ c.self.invariant c.known.ensures.store c.known.ensures.survives h.within
    (acts_ended g.D.Disk g.I.Intake g.H.Herald c.args.pid k.store c.end-ended.new.self k.opening.value k.intake k.herald k.processes z h.well h.there.0 h.there.1 k.intake k.herald (step_of_end (end_answer k.store.volume.log)) h.there.2
    (record { answer = refl; store = c.end-ended.ensures.store; world = made }) (sides_same g.I.Intake c.args.pid k.intake) refl (same_unasked g.H.Herald k.herald)) right c.known-2.ensures.survives

pub give-requires-clause-over : goal.give-requires-clause-over
give-requires-clause-over g c = (head g (goal.at.give-requires-clause-over g c).After-known-2).answer.0

pub give-requires-clause-fits : goal.give-requires-clause-fits
give-requires-clause-fits g c = (head g (goal.at.give-requires-clause-fits g c).After-known-2).answer.1

pub invariant_of-self : goal.invariant_of-self
invariant_of-self g c =
    let k = c.self.inside in
    let h = head g (goal.at.invariant_of-self g c).After-known-2 in
    let t = c.end-ended.new.self in
    let s : StoreState _ = with_log k.store (ended k.store.volume.log c.args.pid) in
    let is : t ≡ s = c.end-ended.ensures.store in
    let answer : end_answer k.store.volume.log ≡ Ended.Commit = sym c.end-ended.ensures.answer ∙ c.in-Commit.is in
    let right = subst (λ (o : StoreState _). IsRight g.D.Disk k.opening.value o c.commit.new.self) (sym is)
    (subst (λ (w : World). IsRight g.D.Disk k.opening.value s w) (sym c.commit.ensures)
    (right_closed g.D.Disk k.opening.value k.store k.processes c.self.invariant.right h.well c.args.pid h.within h.there.0 h.there.1 h.there.2 h.agreed h.before h.keeps answer)) in
    record {
      right = right;
      since = since g (goal.at.invariant_of-self g c).After-known-2 c.commit.new.self (c.commit.ensures ∙ ap (λ e. world_ended e k.processes c.args.pid) (sym answer)) right;
      ports = ports_committing g.I.Intake g.H.Herald k.intake k.herald t.volume.log.committed k.processes c.commit.new.self c.args.pid h.there.0 h.there.1
          (ports_counted g.I.Intake g.H.Herald k.intake k.herald k.store.volume.log.committed t.volume.log.committed k.processes c.self.invariant.ports
          (ap (λ (o : StoreState _). o.volume.log.committed) is ∙ closed_uncommitted k.store.volume.log c.args.pid answer)) h.within h.there.2 c.commit.ensures;
    }

pub invariant_of-self-in-Left : goal.invariant_of-self-in-Left
invariant_of-self-in-Left g c =
    let k = c.self.inside in
    let h = head g (goal.at.invariant_of-self-in-Left g c).After-known-2 in
    let t = c.end-ended.new.self in
    let s : StoreState _ = with_log k.store (ended k.store.volume.log c.args.pid) in
    let is : t ≡ s = c.end-ended.ensures.store in
    let answer : end_answer k.store.volume.log ≡ Ended.Left = sym c.end-ended.ensures.answer ∙ c.in-Left.is in
    let right = subst (λ (o : StoreState _). IsRight g.D.Disk k.opening.value o c.give.new.processes) (sym is)
    (subst (λ (w : World). IsRight g.D.Disk k.opening.value s w) (sym c.give.ensures.processes)
    (right_left g.D.Disk k.opening.value k.store k.processes c.self.invariant.right h.well c.args.pid h.within h.there.0 h.there.1 h.there.2 h.agreed h.before h.keeps answer)) in
    record {
      right = right;
      since = since g (goal.at.invariant_of-self-in-Left g c).After-known-2 c.give.new.processes (c.give.ensures.processes ∙ ap (λ e. world_ended e k.processes c.args.pid) (sym answer)) right;
      ports = ports_given g.I.Intake g.H.Herald k.intake c.give.new.intake k.herald c.tell.new.herald k.store.volume.log.committed t.volume.log.committed k.processes c.give.new.processes c.args.pid
          c.self.invariant.ports h.within h.answer.0 c.give.ensures.processes c.give.ensures.gives (c.tell.ensures.count ∙ (search rules));
    }

pub returns-in-Commit : goal.returns-in-Commit
returns-in-Commit g c =
    let k = c.self.inside in
    let h = head g (goal.at.returns-in-Commit g c).After-known-2 in
    let t = c.end-ended.new.self in
    let answer : end_answer k.store.volume.log ≡ Ended.Commit = sym c.end-ended.ensures.answer ∙ c.in-Commit.is in
    subst (λ (o : State _ _ _). Acts g.D.Disk g.I.Intake g.H.Herald c.args.pid Step.Moved o (record { store = t; opening = k.opening.value; intake = k.intake; herald = k.herald; world = c.commit.new.self })) c.self.view_is
    (acts_ended g.D.Disk g.I.Intake g.H.Herald c.args.pid k.store t k.opening.value k.intake k.herald k.processes c.commit.new.self h.well h.there.0 h.there.1 k.intake k.herald Step.Moved h.there.2
    (record { answer = ap step_of_end (sym answer); store = c.end-ended.ensures.store; world = c.commit.ensures ∙ ap (λ e. world_ended e k.processes c.args.pid) (sym answer) }) (sides_same g.I.Intake c.args.pid k.intake) refl (same_unasked g.H.Herald k.herald))

pub returns-in-Left : goal.returns-in-Left
returns-in-Left g c =
    let k = c.self.inside in
    let h = head g (goal.at.returns-in-Left g c).After-known-2 in
    let t = c.end-ended.new.self in
    let answer : end_answer k.store.volume.log ≡ Ended.Left = sym c.end-ended.ensures.answer ∙ c.in-Left.is in
    subst (λ (o : State _ _ _). Acts g.D.Disk g.I.Intake g.H.Herald c.args.pid Step.Answered o (record { store = t; opening = k.opening.value; intake = c.give.new.intake; herald = c.tell.new.herald; world = c.give.new.processes })) c.self.view_is
    (acts_ended g.D.Disk g.I.Intake g.H.Herald c.args.pid k.store t k.opening.value k.intake k.herald k.processes c.give.new.processes h.well h.there.0 h.there.1 c.give.new.intake c.tell.new.herald Step.Answered h.there.2
    (record { answer = ap step_of_end (sym answer); store = c.end-ended.ensures.store; world = c.give.ensures.processes ∙ ap (λ e. world_ended e k.processes c.args.pid) (sym answer) }) c.give.ensures.gives.keeps c.give.ensures.gives.ahead c.tell.ensures.unasked)
