use Rattle.std.proofs.Common.{rules, refl, inr, ◌≡◌, ◌<◌, ℕ, length, true, false, None, ap, subst, sym, ◌∙◌}
use Rattle.kernel.specs.Common.{Acts, CanAnswer, commit_fails, Commits, Committed, committing_there, durable_count, fault_of_step, Ghosts, goes_on, HasFacts, is_committing_at, is_quiet, IsRight, Joint, last_answer, LeavesSince, LogState, over_now, Phase, process, same_committed, State, Step, StoreState, task, TaskStands, where_none, World, world_written}
use Rattle.kernel.proofs.Acting.{acts_written, same_unasked, sides_same}
use Rattle.kernel.proofs.Answering.{answer_commits}
use Rattle.kernel.proofs.Committing.{makes_of}
use Rattle.kernel.proofs.Closing.{right_written, right_done, right_unwritten}
use Rattle.kernel.proofs.Ports.{ports_given, ports_counted, ports_stay}
use Rattle.kernel.proofs.Promising.{since_step}
use Rattle.kernel.proofs.Valid.{agreed_now}
use Rattle.kernel.proofs.stepping.Kernel.commit.Given.{Over}
use Rattle.kernel.proofs.stepping.Kernel.commit.Goals.{After-known, After-known-2}
use Rattle.kernel.proofs.stepping.Kernel.commit.Goals as goal

-- who makes a step of a commit: it stands so, a commit is under way, and it can be answered
record Head {D N : Type 0} (disk : Ghosts D N) (s : StoreState D) (w : World) (p : ℕ) : Type 0 where
  well : s.volume.fault ≡ None
  within : p < length w.processes
  there : (group : ℕ) × (index : ℕ) × ((process w p).at ≡ Phase.Committing group index)
  busy : is_quiet s.volume.log.commit ≡ false
  answer : CanAnswer (last_answer w (process w p).at) (process w p).room
  joint : Joint (disk.image s.volume.device) s.volume.buffers s.volume.log

head : (g : Over) (c : After-known g) → Head g.D.Disk c.self.inside.store c.self.inside.processes c.args.pid
head g c =
    let k = c.self.inside in
    let disk = g.D.Disk in
    let p = c.args.pid in
    let right = c.self.invariant.right in
    let well : k.store.volume.fault ≡ None = search rules in
    let commits : is_committing_at (process k.processes p).at ≡ true = search rules in
    let there = committing_there (process k.processes p).at commits in
    let stands : TaskStands k.processes.journal.list (task k.store.tasks p) (Phase.Committing there.0 there.1) = subst (λ (a : Phase). TaskStands k.processes.journal.list (task k.store.tasks p) a) there.2 (right.paired.stand p).stands in
    record {
      well = well;
      within = search rules;
      there = there;
      busy = (where_none {T = HasFacts disk.image (disk.image k.opening.value) k.store k.processes} k.store.volume.fault well right.facts).alone.busy p commits;
      answer = answer_commits disk k.opening.value k.store k.processes p right well there.0 there.1 there.2 stands.1;
      joint = where_none k.store.volume.fault well c.known.ensures.volume;
    }

pub commit_step-committed-requires-clause-busy : goal.commit_step-committed-requires-clause-busy
commit_step-committed-requires-clause-busy g c = (head g (goal.at.commit_step-committed-requires-clause-busy g c).After-known).busy

pub give-requires-clause-over : goal.give-requires-clause-over
give-requires-clause-over g c = (head g (goal.at.give-requires-clause-over g c).After-known).answer.0

pub give-requires-clause-fits : goal.give-requires-clause-fits
give-requires-clause-fits g c = (head g (goal.at.give-requires-clause-fits g c).After-known).answer.1

-- what a stop has left since the opening, where the step came to this
since : (g : Over) (c : After-known-2 g) (r : Committed) (z : World) → c.commit_step-committed.result ≡ r → z ≡ world_written r c.self.inside.processes c.args.pid
    → IsRight g.D.Disk c.self.inside.opening.value c.commit_step-committed.new.self z → LeavesSince g.D.Disk c.self.inside.opening.value c.commit_step-committed.new.self z
since g c r z is made right =
    let k = c.self.inside in
    let h = head g (goal.at.After-known-2 g c).After-known in
    let done : Commits g.D.Disk k.store r c.commit_step-committed.new.self = subst (λ (q : Committed). Commits g.D.Disk k.store q c.commit_step-committed.new.self) is c.commit_step-committed.ensures.commits in
    since_step g.D.Disk g.I.Intake g.H.Herald c.args.pid _ _ _ c.self.invariant c.known.ensures.store c.known.ensures.survives h.within
    (acts_written g.D.Disk g.I.Intake g.H.Herald c.args.pid k.store c.commit_step-committed.new.self k.opening.value k.intake k.herald k.processes z h.well h.there.0 h.there.1 k.intake k.herald r h.there.2 done made
    (sides_same g.I.Intake c.args.pid k.intake) refl (same_unasked g.H.Herald k.herald)) right c.known-2.ensures.survives

pub invariant_of-self : goal.invariant_of-self
invariant_of-self g c =
    let k = c.self.inside in let h = head g (goal.at.invariant_of-self g c).After-known in
    let t = c.commit_step-committed.new.self in let l = k.store.volume.log in
    let made : Commits g.D.Disk k.store Committed.More t = subst (λ (r : Committed). Commits g.D.Disk k.store r t) c.in-More.is c.commit_step-committed.ensures.commits in
    let now : t.volume.fault ≡ fault_of_step Committed.More = made.volume.fault in
    let holds = g.D.Disk.holding (g.D.Disk.name k.store.volume.device) in
    let makes = makes_of g.D.Disk k.store t Committed.More refl made in
    let right = right_written g.D.Disk k.opening.value k.store k.processes c.self.invariant.right h.well c.args.pid h.within h.there.0 h.there.1 h.there.2 t Committed.More made g.met.D.Disk.has_now h.joint
    (agreed_now g.D.Disk.image t now c.known-2.ensures.volume c.known-2.ensures.store) now
    (ap (λ (m : LogState). is_quiet m.commit) makes.log ∙ goes_on holds l.commit l l.opened h.busy (λ done. let both = sym makes.answer ∙ done in absurd (cc both))) makes.faults in
    record {
      right = right;
      since = since g (goal.at.invariant_of-self g c).After-known-2 Committed.More k.processes c.in-More.is refl right;
      ports = ports_counted g.I.Intake g.H.Herald k.intake k.herald l.committed t.volume.log.committed k.processes c.self.invariant.ports (ap (λ (m : LogState). m.committed) makes.log ∙ same_committed holds l.commit l l.opened (λ n durable. let both = sym makes.answer ∙ durable in absurd (cc both)));
    }

pub invariant_of-self-in-Durable : goal.invariant_of-self-in-Durable
invariant_of-self-in-Durable g c =
    let k = c.self.inside in let h = head g (goal.at.invariant_of-self-in-Durable g c).After-known in
    let t = c.commit_step-committed.new.self in let l = k.store.volume.log in
    let made : Commits g.D.Disk k.store (Committed.Durable c.in-Durable.group) t = subst (λ (r : Committed). Commits g.D.Disk k.store r t) c.in-Durable.is c.commit_step-committed.ensures.commits in
    let now : t.volume.fault ≡ fault_of_step (Committed.Durable c.in-Durable.group) = made.volume.fault in
    let holds = g.D.Disk.holding (g.D.Disk.name k.store.volume.device) in
    let makes = makes_of g.D.Disk k.store t (Committed.Durable c.in-Durable.group) refl made in
    let right = right_written g.D.Disk k.opening.value k.store k.processes c.self.invariant.right h.well c.args.pid h.within h.there.0 h.there.1 h.there.2 t (Committed.Durable c.in-Durable.group) made g.met.D.Disk.has_now h.joint
    (agreed_now g.D.Disk.image t now c.known-2.ensures.volume c.known-2.ensures.store) now
    (ap (λ (m : LogState). is_quiet m.commit) makes.log ∙ goes_on holds l.commit l l.opened h.busy (λ done. let both = sym makes.answer ∙ done in absurd (cc both))) makes.faults in
    record {
      right = right;
      since = since g (goal.at.invariant_of-self-in-Durable g c).After-known-2 (Committed.Durable c.in-Durable.group) k.processes c.in-Durable.is refl right;
      ports = ports_stay g.I.Intake g.H.Herald k.intake k.intake k.herald c.durable.new.self l.committed t.volume.log.committed k.processes k.processes c.self.invariant.ports refl refl refl c.self.invariant.ports.room (λ p h fits. fits) (c.durable.ensures.count ∙ durable_count holds l t.volume.log c.in-Durable.group makes.answer makes.log);
    }

pub invariant_of-self-in-Done : goal.invariant_of-self-in-Done
invariant_of-self-in-Done g c =
    let k = c.self.inside in let h = head g (goal.at.invariant_of-self-in-Done g c).After-known in
    let t = c.commit_step-committed.new.self in let l = k.store.volume.log in
    let made : Commits g.D.Disk k.store Committed.Done t = subst (λ (r : Committed). Commits g.D.Disk k.store r t) c.in-Done.is c.commit_step-committed.ensures.commits in
    let now : t.volume.fault ≡ fault_of_step Committed.Done = made.volume.fault in
    let holds = g.D.Disk.holding (g.D.Disk.name k.store.volume.device) in
    let makes = makes_of g.D.Disk k.store t Committed.Done refl made in
    let same : t.volume.log.committed ≡ l.committed = (ap (λ (m : LogState). m.committed) makes.log ∙ same_committed holds l.commit l l.opened (λ n durable. let both = sym makes.answer ∙ durable in absurd (cc both))) in
    let right = subst (λ (w : World). IsRight g.D.Disk k.opening.value t w) (sym c.give.ensures.processes)
    (right_done g.D.Disk k.opening.value k.store k.processes c.self.invariant.right h.well c.args.pid h.within h.there.0 h.there.1 h.there.2 t Committed.Done made g.met.D.Disk.has_now h.joint
    (agreed_now g.D.Disk.image t now c.known-2.ensures.volume c.known-2.ensures.store) now
    (ap (λ (m : LogState). is_quiet m.commit) makes.log ∙ over_now holds l.commit l l.opened makes.answer) makes.faults) in
    record {
      right = right;
      since = since g (goal.at.invariant_of-self-in-Done g c).After-known-2 Committed.Done c.give.new.processes c.in-Done.is c.give.ensures.processes right;
      ports = ports_given g.I.Intake g.H.Herald k.intake c.give.new.intake k.herald k.herald l.committed t.volume.log.committed k.processes c.give.new.processes c.args.pid
          c.self.invariant.ports h.within h.answer.0 c.give.ensures.processes c.give.ensures.gives (c.self.invariant.ports.told ∙ sym same);
    }

pub invariant_of-self-in-Fault : goal.invariant_of-self-in-Fault
invariant_of-self-in-Fault g c =
    let k = c.self.inside in let h = head g (goal.at.invariant_of-self-in-Fault g c).After-known in
    let t = c.commit_step-committed.new.self in let l = k.store.volume.log in
    let made : Commits g.D.Disk k.store (Committed.Fault c.in-Fault.field-0) t = subst (λ (r : Committed). Commits g.D.Disk k.store r t) c.in-Fault.is c.commit_step-committed.ensures.commits in
    let failed = commit_fails g.D.Disk k.store.volume.device k.store.volume.buffers l t.volume.device t.volume.buffers t.volume.log c.in-Fault.field-0 (Committed.Fault c.in-Fault.field-0) refl made.volume.write in
    let right = right_unwritten g.D.Disk k.opening.value k.store k.processes c.self.invariant.right h.well c.args.pid h.within h.there.0 h.there.1 h.there.2 t (Committed.Fault c.in-Fault.field-0) made g.met.D.Disk.has_now h.joint c.known.ensures.store
    c.in-Fault.field-0 refl (where_none k.store.volume.fault h.well c.known.ensures.survives) failed.1 failed.2 in
    record {
      right = right;
      since = since g (goal.at.invariant_of-self-in-Fault g c).After-known-2 (Committed.Fault c.in-Fault.field-0) k.processes c.in-Fault.is refl right;
      ports = ports_counted g.I.Intake g.H.Herald k.intake k.herald l.committed t.volume.log.committed k.processes c.self.invariant.ports (ap (λ (m : LogState). m.committed) failed.1);
    }

pub returns-in-More : goal.returns-in-More
returns-in-More g c =
    let k = c.self.inside in let h = head g (goal.at.returns-in-More g c).After-known in
    let t = c.commit_step-committed.new.self in
    let made : Commits g.D.Disk k.store Committed.More t = subst (λ (r : Committed). Commits g.D.Disk k.store r t) c.in-More.is c.commit_step-committed.ensures.commits in
    subst (λ (o : State _ _ _). Acts g.D.Disk g.I.Intake g.H.Herald c.args.pid Step.Moved o (record { store = t; opening = k.opening.value; intake = k.intake; herald = k.herald; world = k.processes })) c.self.view_is
    (acts_written g.D.Disk g.I.Intake g.H.Herald c.args.pid k.store t k.opening.value k.intake k.herald k.processes k.processes h.well h.there.0 h.there.1 k.intake k.herald Committed.More h.there.2 made refl (sides_same g.I.Intake c.args.pid k.intake) refl (same_unasked g.H.Herald k.herald))

pub returns-in-Durable : goal.returns-in-Durable
returns-in-Durable g c =
    let k = c.self.inside in let h = head g (goal.at.returns-in-Durable g c).After-known in
    let t = c.commit_step-committed.new.self in
    let made : Commits g.D.Disk k.store (Committed.Durable c.in-Durable.group) t = subst (λ (r : Committed). Commits g.D.Disk k.store r t) c.in-Durable.is c.commit_step-committed.ensures.commits in
    subst (λ (o : State _ _ _). Acts g.D.Disk g.I.Intake g.H.Herald c.args.pid Step.Moved o (record { store = t; opening = k.opening.value; intake = k.intake; herald = c.durable.new.self; world = k.processes })) c.self.view_is
    (acts_written g.D.Disk g.I.Intake g.H.Herald c.args.pid k.store t k.opening.value k.intake k.herald k.processes k.processes h.well h.there.0 h.there.1 k.intake c.durable.new.self (Committed.Durable c.in-Durable.group) h.there.2 made refl (sides_same g.I.Intake c.args.pid k.intake) refl (record { board = c.durable.ensures.board; told = c.durable.ensures.told; same = inr c.durable.ensures.hears }))

pub returns-in-Done : goal.returns-in-Done
returns-in-Done g c =
    let k = c.self.inside in let h = head g (goal.at.returns-in-Done g c).After-known in
    let t = c.commit_step-committed.new.self in
    let made : Commits g.D.Disk k.store Committed.Done t = subst (λ (r : Committed). Commits g.D.Disk k.store r t) c.in-Done.is c.commit_step-committed.ensures.commits in
    subst (λ (o : State _ _ _). Acts g.D.Disk g.I.Intake g.H.Herald c.args.pid Step.Answered o (record { store = t; opening = k.opening.value; intake = c.give.new.intake; herald = k.herald; world = c.give.new.processes })) c.self.view_is
    (acts_written g.D.Disk g.I.Intake g.H.Herald c.args.pid k.store t k.opening.value k.intake k.herald k.processes c.give.new.processes h.well h.there.0 h.there.1 c.give.new.intake k.herald Committed.Done h.there.2 made c.give.ensures.processes c.give.ensures.gives.keeps c.give.ensures.gives.ahead (same_unasked g.H.Herald k.herald))

pub returns-in-Fault : goal.returns-in-Fault
returns-in-Fault g c =
    let k = c.self.inside in let h = head g (goal.at.returns-in-Fault g c).After-known in
    let t = c.commit_step-committed.new.self in
    let made : Commits g.D.Disk k.store (Committed.Fault c.in-Fault.field-0) t = subst (λ (r : Committed). Commits g.D.Disk k.store r t) c.in-Fault.is c.commit_step-committed.ensures.commits in
    subst (λ (o : State _ _ _). Acts g.D.Disk g.I.Intake g.H.Herald c.args.pid Step.Halted o (record { store = t; opening = k.opening.value; intake = k.intake; herald = k.herald; world = k.processes })) c.self.view_is
    (acts_written g.D.Disk g.I.Intake g.H.Herald c.args.pid k.store t k.opening.value k.intake k.herald k.processes k.processes h.well h.there.0 h.there.1 k.intake k.herald (Committed.Fault c.in-Fault.field-0) h.there.2 made refl (sides_same g.I.Intake c.args.pid k.intake) refl (same_unasked g.H.Herald k.herald))
