use Rattle.std.proofs.Common.{◌≡◌, ◌∙◌, ◌≤◌, ◌⊎◌, ◌+◌, ◌^◌, length, rules, arith, subst, sym, ap, ⊎_elim}
use Rattle.std.specs.Prelude.{Ok, Err}
use Rattle.blocks.specs.Calls.{OnlyReads}
use Rattle.blocks.specs.Disk.{LeavesOnly}
use Rattle.ports.specs.History.{first_in}
use Rattle.ports.specs.Lanes.{polled_after}
use Rattle.ports.specs.Queues.{polled, waiting}
use Rattle.history.specs.Processes.{process}
use Rattle.model.specs.declared.types.operations.Step.{Step}
use Rattle.model.specs.declared.types.operations.Step.TheVariants as step
use Rattle.calls.specs.declared.fault.CallFault.TheVariants as fault
use Rattle.calls.specs.Calls.{Calls, KeepsCall, image_on}
use Rattle.calls.specs.Lemmas.Reaching.{reached_ports, reached_then}
use Rattle.calls.proofs.Called.{call_failed, call_name, call_opening, given, is_faultless}
use Rattle.calls.proofs.Counting.{is_handed_in}
use Rattle.calls.proofs.Idle.{lone_idle, nothing_logged}
use Rattle.calls.proofs.Leaving.{call_leaves, call_unshown, may_given}
use Rattle.calls.proofs.Rest.{call_made}
use Rattle.calls.proofs.Sole.{EndsSo, IsSole, call_ends, call_looks, call_reached, is_done, is_sole, refused_reads, rests_again, rests_fetched}
use Rattle.calls.proofs.calling.call.Given.{Over}
use Rattle.calls.proofs.calling.call.Goals.{After-sleeps_for_cause}
use Rattle.calls.proofs.calling.call.Goals as goal

-- once its steps are made
called : (g : Over) (c : After-sleeps_for_cause g) → IsSole g.D.Disk c.args.op c.make_steps-step.result c.args.kernel.now c.make_steps-step.new.kernel
called g c =
    is_sole g.D.Disk c.args.op c.make_steps-step.result c.args.kernel.now c.submit.new.self c.make_steps-step.new.kernel c.requires.rests c.requires.few c.submit.ensures.same c.in-Ok.ensures.ok c.submit.ensures.answers.1 c.known.ensures c.known-2.ensures c.known-3.ensures c.make_steps-step.ensures.makes

pub unreachable-requires : goal.unreachable-requires
unreachable-requires g c =
    let k = c.args.kernel.now in
    let full : (16 ≤ length (waiting k.intake 0)) ⊎ ((process k.world 0).begun + length (waiting k.intake 0) + 1 ≡ 2 ^ 64) = search rules in
    let one = c.requires.rests.one in
    is_handed_in g.D.Disk k 0 c.known.ensures (omega (arith, one)) c.requires.rests.idle (rests_fetched g.D.Disk.fault_count k c.requires.rests) c.requires.few full

-- the disk failed
pub returns-in-Some : goal.returns-in-Some
returns-in-Some g c =
    let op = c.args.op in
    let k = c.args.kernel.now in
    let m = c.make_steps-step.new.kernel in
    let r = c.make_steps-step.result in
    let call = called g (goal.at.returns-in-Some g c).After-sleeps_for_cause in
    record {
      rests = search rules;
      calls = search rules;
      refused = call_failed g.D.Disk 0 op r k m call.call c.in-Some.fault (search rules);
      leaves = call_leaves g.D.Disk g.met.D.Disk.has_now op r k m call (Err (fault.Disk _)) (λ e reply list told. tt);
      looks = call_looks g.D.Disk op r k m call;
      opening = call_opening g.D.Disk 0 op r k m call.call;
      name = call_name g.D.Disk 0 op r k m call.call;
      reached = call_reached g.D.Disk op r k m call;
    }

-- memory was refused
pub returns-in-NoMemory : goal.returns-in-NoMemory
returns-in-NoMemory g c =
    let op = c.args.op in
    let k = c.args.kernel.now in
    let m = c.make_steps-step.new.kernel in
    let r = c.make_steps-step.result in
    let call = called g (goal.at.returns-in-NoMemory g c).After-sleeps_for_cause in
    record {
      rests = search rules;
      calls = search rules;
      refused = (refused_reads g.D.Disk op r k m call (search rules), is_faultless g.D.Disk 0 op r k m call.call (search rules));
      leaves = call_leaves g.D.Disk g.met.D.Disk.has_now op r k m call (Err fault.NoMemory) (λ e reply list told. tt);
      looks = call_looks g.D.Disk op r k m call;
      opening = call_opening g.D.Disk 0 op r k m call.call;
      name = call_name g.D.Disk 0 op r k m call.call;
      reached = call_reached g.D.Disk op r k m call;
    }

-- the operation was answered
pub returns-in-Some-poll : goal.returns-in-Some-poll
returns-in-Some-poll g c =
    let op = c.args.op in
    let k = c.args.kernel.now in
    let m = c.make_steps-step.new.kernel in
    let r = c.make_steps-step.result in
    let call = called g (goal.at.returns-in-Some-poll g c).After-sleeps_for_cause in
    let done = is_done g.D.Disk op r k m call (search rules) in
    let same = sym c.in-Some-poll.is ∙ c.poll.ensures.oldest ∙ ap first_in done.is.only in
    let answer : c.in-Some-poll.answer ≡ done.is.answer = cc same in
    let clear = nothing_logged g.D.Disk m c.known-3.ensures (lone_idle m.world done.one done.idle) (search rules) in
    record {
      rests = rests_again g.D.Disk op (given g.D.Disk 0 op r k m call.call) m c.poll.new.self c.known-3.ensures done c.requires.few (search rules) c.poll.ensures.same c.poll.ensures.waiting
          (c.poll.ensures.polled ∙ ap (λ a. polled_after a (polled m.intake 0)) c.poll.ensures.oldest);
      calls = subst (λ n. Calls g.D.Disk.image op k n c.in-Some-poll.answer.reply) (sym c.poll.ensures.same)
          (subst (λ a. Calls g.D.Disk.image op k (record m { intake = c.poll.new.self.intake }) a.reply) (sym answer) (call_made g.D.Disk g.met.D.Disk.has_now op r k m call (search rules) (search rules) done c.poll.new.self.intake
          (call_unshown g.D.Disk g.met.D.Disk.has_now op r k m call (Ok done.is.answer.reply) (λ e reply. may_given op (given g.D.Disk 0 op r k m call.call) m done.is e reply) g.met.D.Disk.counts_now clear)));
      refused = search rules;
      leaves = subst (λ n. LeavesOnly g.D.Disk.moment g.D.Disk.leaves k.store.volume.device n.store.volume.device (KeepsCall (image_on g.D.Disk.image k) op (Ok c.in-Some-poll.answer.reply))) (sym c.poll.ensures.same)
          (subst (λ a. LeavesOnly g.D.Disk.moment g.D.Disk.leaves k.store.volume.device m.store.volume.device (KeepsCall (image_on g.D.Disk.image k) op (Ok a.reply))) (sym answer)
          (call_leaves g.D.Disk g.met.D.Disk.has_now op r k m call (Ok done.is.answer.reply) (λ e reply. may_given op (given g.D.Disk 0 op r k m call.call) m done.is e reply)));
      looks = λ look. subst (λ n. OnlyReads g.D.Disk k.store.volume.device n.store.volume.device) (sym c.poll.ensures.same) (call_looks g.D.Disk op r k m call look);
      opening = ap (λ n. n.opening) c.poll.ensures.same ∙ call_opening g.D.Disk 0 op r k m call.call;
      name = ap (λ n. g.D.Disk.name n.store.volume.device) c.poll.ensures.same ∙ call_name g.D.Disk 0 op r k m call.call;
      reached = reached_then g.D.Disk k m c.poll.new.self (call_reached g.D.Disk op r k m call) (reached_ports g.D.Disk m c.poll.new.self c.poll.ensures.same);
    }

pub unreachable-requires-in-None : goal.unreachable-requires-in-None
unreachable-requires-in-None g c =
    let call = called g (goal.at.unreachable-requires-in-None g c).After-sleeps_for_cause in
    let done = is_done g.D.Disk c.args.op c.make_steps-step.result c.args.kernel.now c.make_steps-step.new.kernel call (search rules) in
    let none = sym c.in-None.is ∙ c.poll.ensures.oldest ∙ ap first_in done.is.only in
    cc none

-- its steps end with its answer, or for want of memory
pub unreachable-requires-in-Moved : goal.unreachable-requires-in-Moved
unreachable-requires-in-Moved g c =
    let m = c.make_steps-step.new.kernel in
    let r = c.make_steps-step.result in
    let call = called g (goal.at.unreachable-requires-in-Moved g c).After-sleeps_for_cause in
    let well = sym c.fault.ensures ∙ c.in_default-fault.is in
    let ends : (q : Step) → r ≡ q → EndsSo q = λ q is. call_ends g.D.Disk c.args.op r c.args.kernel.now m call c.sleeps_for_cause.ensures.sole well q is in
    ⊎_elim (λ moved. ends step.Moved moved)
    (λ o. ⊎_elim (λ asleep. ends (step.Sleeping asleep.0) asleep.1)
    (λ p. ⊎_elim (λ idle. ends step.Idle idle) (λ q. ⊎_elim (λ shut. ends step.ShutDown shut) (λ halted. ends step.Halted halted) q) p) o)
    c.in-Moved.is
