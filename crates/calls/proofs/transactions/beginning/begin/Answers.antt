use Rattle.std.proofs.Common.{◌≡◌, ◌∙◌, ◌≤◌, ◌⊎◌, ◌+◌, ◌^◌, ◌∷◌, ◌++◌, [], length, rules, ap, ⊎_elim, arith}
use Rattle.model.specs.declared.types.operations.Op.TheVariants.{Write}
use Rattle.ports.specs.Queues.{waiting}
use Rattle.history.specs.Processes.{process}
use Rattle.model.specs.declared.types.operations.Step.{Step}
use Rattle.model.specs.declared.types.operations.Step.TheVariants as step
use Rattle.calls.proofs.Begun.{EndsSo, IsBeginning, begin_begins, begin_ends, begin_failed, begin_inside, begin_leaves, begin_name, begin_opening, begin_reached, begin_stays, is_beginning}
use Rattle.calls.proofs.Counting.{is_handed_in}
use Rattle.calls.proofs.transactions.beginning.begin.Given.{Over}
use Rattle.calls.proofs.transactions.beginning.begin.Goals.{After-known-3}
use Rattle.calls.proofs.transactions.beginning.begin.Goals as goal

-- once its step is made
begun : (g : Over) (c : After-known-3 g) → IsBeginning g.D.Disk c.step-step.result c.args.kernel.now c.step-step.new.self
begun g c =
    let k = c.args.kernel.now in
    is_beginning g.D.Disk c.step-step.result k c.submit.new.self c.step-step.new.self c.requires.rests c.requires.few c.submit.ensures.same
    (c.in-Ok.ensures.ok ∙ ap (λ bytes. waiting k.intake 1 ++ Write 1 4294967295 bytes ∷ []) (c.new-2.ensures ∙ c.new.ensures.items)) c.submit.ensures.answers.1 c.submit.ensures.others
    c.known.ensures c.room_known.ensures.log c.known-2.ensures c.known-3.ensures
    (record { acts = c.step-step.ensures.acts; progress = c.step-step.ensures.progress; stop = c.step-step.ensures.stop })

pub unreachable-requires : goal.unreachable-requires
unreachable-requires g c =
    let k = c.args.kernel.now in
    let full : (16 ≤ length (waiting k.intake 1)) ⊎ ((process k.world 1).begun + length (waiting k.intake 1) + 1 ≡ 2 ^ 64) = search rules in
    let two = c.requires.rests.pair.two in
    is_handed_in g.D.Disk k 1 c.known.ensures (omega (arith, two)) c.requires.rests.idle c.requires.rests.pair.second c.requires.few full

-- its step moves, or memory is refused
pub unreachable-requires-in-Answered : goal.unreachable-requires-in-Answered
unreachable-requires-in-Answered g c =
    let r = c.step-step.result in
    let call = begun g (goal.at.unreachable-requires-in-Answered g c).After-known-3 in
    let ends : (q : Step) → r ≡ q → EndsSo q = λ q is. begin_ends g.D.Disk g.met.D.Disk.has_now r c.args.kernel.now c.step-step.new.self call q is in
    ⊎_elim (λ answered. ends step.Answered answered)
    (λ o. ⊎_elim (λ asleep. ends (step.Sleeping asleep.0) asleep.1)
    (λ p. ⊎_elim (λ idle. ends step.Idle idle) (λ q. ⊎_elim (λ shut. ends step.ShutDown shut) (λ halted. ends step.Halted halted) q) p) o)
    c.in-Answered.is

-- the disk failed
pub returns-in-Some : goal.returns-in-Some
returns-in-Some g c =
    let k = c.args.kernel.now in
    let m = c.step-step.new.self in
    let r = c.step-step.result in
    let call = begun g (goal.at.returns-in-Some g c).After-known-3 in
    record {
      inside = search rules;
      begins = search rules;
      refused = begin_failed g.D.Disk g.met.D.Disk.has_now r k m call c.in-Some.fault (search rules);
      leaves = begin_leaves g.D.Disk g.met.D.Disk.has_now r k m call;
      reached = begin_reached g.D.Disk g.met.D.Disk.has_now r k m call;
      opening = begin_opening g.D.Disk g.met.D.Disk.has_now r k m call;
      name = begin_name g.D.Disk g.met.D.Disk.has_now r k m call;
    }

-- the group is open
pub returns-in-Moved : goal.returns-in-Moved
returns-in-Moved g c =
    let k = c.args.kernel.now in
    let m = c.step-step.new.self in
    let r = c.step-step.result in
    let call = begun g (goal.at.returns-in-Moved g c).After-known-3 in
    record {
      inside = begin_inside g.D.Disk g.met.D.Disk.has_now r k m call (search rules) (search rules);
      begins = begin_begins g.D.Disk g.met.D.Disk.has_now r k m call (search rules);
      refused = search rules;
      leaves = begin_leaves g.D.Disk g.met.D.Disk.has_now r k m call;
      reached = begin_reached g.D.Disk g.met.D.Disk.has_now r k m call;
      opening = begin_opening g.D.Disk g.met.D.Disk.has_now r k m call;
      name = begin_name g.D.Disk g.met.D.Disk.has_now r k m call;
    }

-- memory was refused
pub returns-in-NoMemory : goal.returns-in-NoMemory
returns-in-NoMemory g c =
    let k = c.args.kernel.now in
    let m = c.step-step.new.self in
    let r = c.step-step.result in
    let call = begun g (goal.at.returns-in-NoMemory g c).After-known-3 in
    record {
      inside = search rules;
      begins = search rules;
      refused = begin_stays g.D.Disk g.met.D.Disk.has_now r k m call (search rules);
      leaves = begin_leaves g.D.Disk g.met.D.Disk.has_now r k m call;
      reached = begin_reached g.D.Disk g.met.D.Disk.has_now r k m call;
      opening = begin_opening g.D.Disk g.met.D.Disk.has_now r k m call;
      name = begin_name g.D.Disk g.met.D.Disk.has_now r k m call;
    }
