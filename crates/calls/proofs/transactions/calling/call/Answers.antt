use Rattle.std.proofs.Common.{◌≡◌, ◌∙◌, refl, ◌≤◌, ◌⊎◌, ◌+◌, ◌^◌, length, rules, subst, sym, ap, ⊎_elim, arith}
use Rattle.blocks.specs.Lemmas.Reads.{reads_none}
use Rattle.ports.specs.History.{first_in}
use Rattle.ports.specs.Lanes.{polled_after}
use Rattle.ports.specs.Queues.{polled, waiting}
use Rattle.history.specs.Processes.{process}
use Rattle.model.specs.declared.types.operations.Step.{Step}
use Rattle.model.specs.declared.types.operations.Step.TheVariants as step
use Rattle.calls.specs.Lemmas.Reaching.{reached_none}
use Rattle.calls.specs.Transactions.{Adds}
use Rattle.calls.proofs.Adding.{EndsSo, IsAdding, LeavesInside, call_adds, call_done, call_ends, call_inside, call_left, call_stays, call_wakes, fetched_left, is_adding}
use Rattle.calls.proofs.Called.{call_failed}
use Rattle.calls.proofs.Counting.{is_handed_in}
use Rattle.calls.proofs.Keeping.{leaves_still}
use Rattle.calls.proofs.Waiting.{log_is_full}
use Rattle.calls.proofs.transactions.calling.call.Given.{Over}
use Rattle.calls.proofs.transactions.calling.call.Goals.{After-sleeps_for_cause}
use Rattle.calls.proofs.transactions.calling.call.Goals as goal

-- once its steps are made
called : (g : Over) (c : After-sleeps_for_cause g) → IsAdding g.D.Disk c.args.op c.make_steps-step.result c.args.kernel.now c.make_steps-step.new.kernel
called g c =
    is_adding g.D.Disk c.args.op c.make_steps-step.result c.args.kernel.now c.submit.new.self c.make_steps-step.new.kernel c.requires.inside c.requires.few (sym c.has_room.ensures ∙ c.if-not-has_room.false) c.submit.ensures.same c.in-Ok.ensures.ok c.submit.ensures.answers.1 c.submit.ensures.others c.known-2.ensures c.known-3.ensures c.make_steps-step.ensures.makes

pub unreachable-requires : goal.unreachable-requires
unreachable-requires g c =
    let k = c.args.kernel.now in
    let full : (16 ≤ length (waiting k.intake 0)) ⊎ ((process k.world 0).begun + length (waiting k.intake 0) + 1 ≡ 2 ^ 64) = search rules in
    let two = c.requires.inside.pair.two in
    is_handed_in g.D.Disk k 0 c.known.ensures (omega (arith, two)) c.requires.inside.pair.free c.requires.inside.pair.first c.requires.few full

-- the log has no room
pub returns-then-not-has_room : goal.returns-then-not-has_room
returns-then-not-has_room g c =
    let k = c.args.kernel.now in
    let open_one = c.requires.inside.open_one in
    let full = log_is_full k.store.volume.log open_one.outstanding open_one.quiet c.args.op (sym c.has_room.ensures ∙ c.if-not-has_room.true) in
    record {
      inside = search rules;
      adds = search rules;
      refused = record { same = refl; changes = full.0; full = full.1 };
      reads = reads_none g.D.Disk k.store.volume.device;
      leaves = leaves_still g.D.Disk g.met.D.Disk.has_now k c.known.ensures c.requires.inside.pair.well open_one.quiet;
      reached = reached_none g.D.Disk k;
      opening = refl;
      name = refl;
    }

-- however it ends
left : (g : Over) (c : After-sleeps_for_cause g) → LeavesInside g.D.Disk c.args.kernel.now c.make_steps-step.new.kernel
left g c = call_left g.D.Disk c.args.op c.make_steps-step.result c.args.kernel.now c.make_steps-step.new.kernel (called g c) g.met.D.Disk.has_now

-- the disk failed
pub returns-in-Some : goal.returns-in-Some
returns-in-Some g c =
    let at = (goal.at.returns-in-Some g c).After-sleeps_for_cause in
    record {
      inside = search rules;
      adds = search rules;
      refused = call_failed g.D.Disk 0 c.args.op c.make_steps-step.result c.args.kernel.now c.make_steps-step.new.kernel (called g at).call c.in-Some.fault (search rules);
      reads = (left g at).reads;
      leaves = (left g at).leaves;
      reached = (left g at).reached;
      opening = (left g at).opening;
      name = (left g at).name;
    }

-- memory was refused
pub returns-in-NoMemory : goal.returns-in-NoMemory
returns-in-NoMemory g c =
    let at = (goal.at.returns-in-NoMemory g c).After-sleeps_for_cause in
    record {
      inside = search rules;
      adds = search rules;
      refused = call_stays g.D.Disk c.args.op c.make_steps-step.result c.args.kernel.now c.make_steps-step.new.kernel (called g at) (search rules);
      reads = (left g at).reads;
      leaves = (left g at).leaves;
      reached = (left g at).reached;
      opening = (left g at).opening;
      name = (left g at).name;
    }

-- the operation was answered
pub returns-in-Some-poll : goal.returns-in-Some-poll
returns-in-Some-poll g c =
    let at = (goal.at.returns-in-Some-poll g c).After-sleeps_for_cause in
    let op = c.args.op in
    let k = c.args.kernel.now in
    let m = c.make_steps-step.new.kernel in
    let r = c.make_steps-step.result in
    let call = called g at in
    let so : r ≡ step.Answered = search rules in
    let well = sym c.fault.ensures ∙ c.in_default-fault.is in
    let done = call_done g.D.Disk op r k m call so in
    let same = sym c.in-Some-poll.is ∙ c.poll.ensures.oldest ∙ ap first_in done.only in
    let answer : c.in-Some-poll.answer ≡ done.answer = cc same in
    let behind = fetched_left g.D.Disk k m c.poll.new.self c.poll.ensures.same (left g at) in
    record {
      inside = call_inside g.D.Disk op r k m call so c.poll.new.self well c.poll.ensures.same c.poll.ensures.waiting
          (c.poll.ensures.polled ∙ ap (λ a. polled_after a (polled m.intake 0)) c.poll.ensures.oldest) c.poll.ensures.others;
      adds = subst (λ a. Adds g.D.Disk.image op k c.poll.new.self a.reply) (sym answer) (call_adds g.D.Disk op r k m call so g.met.D.Disk.has_now well c.poll.new.self c.poll.ensures.same);
      refused = search rules;
      reads = behind.reads;
      leaves = behind.leaves;
      reached = behind.reached;
      opening = behind.opening;
      name = behind.name;
    }

pub unreachable-requires-in-None : goal.unreachable-requires-in-None
unreachable-requires-in-None g c =
    let call = called g (goal.at.unreachable-requires-in-None g c).After-sleeps_for_cause in
    let done = call_done g.D.Disk c.args.op c.make_steps-step.result c.args.kernel.now c.make_steps-step.new.kernel call (search rules) in
    let none = sym c.in-None.is ∙ c.poll.ensures.oldest ∙ ap first_in done.only in
    cc none

-- its steps end with its answer, or for want of memory
pub unreachable-requires-in-Sleeping : goal.unreachable-requires-in-Sleeping
unreachable-requires-in-Sleeping g c =
    let call = called g (goal.at.unreachable-requires-in-Sleeping g c).After-sleeps_for_cause in
    let k = c.args.kernel.now in
    let m = c.make_steps-step.new.kernel in
    let r = c.make_steps-step.result in
    let well = sym c.fault.ensures ∙ c.in_default-fault.is in
    let ends : (q : Step) → r ≡ q → EndsSo q = λ q is. call_ends g.D.Disk c.args.op r k m call well q is in
    ⊎_elim (λ asleep. call_wakes g.D.Disk c.args.op r k m call c.sleeps_for_cause.ensures.cause asleep.0 asleep.1 well c.room_known.ensures.alone)
    (λ n. ⊎_elim (λ moved. ends step.Moved moved)
    (λ o. ⊎_elim (λ idle. ends step.Idle idle) (λ p. ⊎_elim (λ shut. ends step.ShutDown shut) (λ halted. ends step.Halted halted) p) o) n)
    c.in-Sleeping.is
