use Rattle.std.proofs.Common.{◌≡◌, ◌∙◌, rules, subst, sym, ap, ⊎_elim}
use Rattle.blocks.specs.Disk.{LeavesOnly}
use Rattle.ports.specs.History.{first_in}
use Rattle.ports.specs.Lanes.{polled_after}
use Rattle.ports.specs.Queues.{polled}
use Rattle.model.specs.declared.types.operations.Step.{Step}
use Rattle.model.specs.declared.types.operations.Step.TheVariants as step
use Rattle.calls.specs.Calls.{image_on}
use Rattle.calls.specs.Transactions.{KeepsEither, labels_made}
use Rattle.calls.specs.Lemmas.Reaching.{reached_ports, reached_then}
use Rattle.calls.proofs.Committed.{EndsSo, IsCommit, commit_answered, commit_ends, commit_failed, commit_leaves, commit_made, commit_name, commit_opening, commit_reached, commit_rests}
use Rattle.calls.proofs.transactions.committing.commit.Given.{Over}
use Rattle.calls.proofs.transactions.committing.commit.Goals.{After-sleeps_for_cause}
use Rattle.calls.proofs.transactions.committing.commit.Goals as goal

-- once its steps are made
committed : (g : Over) (c : After-sleeps_for_cause g) → IsCommit g.D.Disk c.make_steps-step.result c.args.kernel.now c.make_steps-step.new.kernel
committed g c = record {
  inside = c.requires.inside;
  few = c.requires.few;
  known_then = c.known.ensures;
  known_now = c.known-2.ensures;
  makes = c.make_steps-step.ensures.makes;
}

-- the disk failed
pub returns-in-Some : goal.returns-in-Some
returns-in-Some g c =
    let k = c.args.kernel.now in
    let m = c.make_steps-step.new.kernel in
    let r = c.make_steps-step.result in
    let call = committed g (goal.at.returns-in-Some g c).After-sleeps_for_cause in
    record {
      rests = search rules;
      commits = search rules;
      refused = commit_failed g.D.Disk r k m call c.in-Some.fault (search rules);
      leaves = λ f has. commit_leaves g.D.Disk r k m call g.met.D.Disk.has_now f has;
      reached = commit_reached g.D.Disk r k m call;
      opening = commit_opening g.D.Disk r k m call;
      name = commit_name g.D.Disk r k m call;
    }

pub unreachable-requires : goal.unreachable-requires
unreachable-requires g c =
    let k = c.args.kernel.now in
    let m = c.make_steps-step.new.kernel in
    let r = c.make_steps-step.result in
    let call = committed g (goal.at.unreachable-requires g c).After-sleeps_for_cause in
    let well = sym c.fault.ensures ∙ c.in_default.is in
    let done = commit_answered g.D.Disk r k m call (search rules) well in
    let none = sym c.in-None.is ∙ c.poll.ensures.oldest ∙ ap first_in done.only in
    cc none

-- its steps end with its answer
pub unreachable-requires-in-Sleeping : goal.unreachable-requires-in-Sleeping
unreachable-requires-in-Sleeping g c =
    let k = c.args.kernel.now in
    let m = c.make_steps-step.new.kernel in
    let r = c.make_steps-step.result in
    let call = committed g (goal.at.unreachable-requires-in-Sleeping g c).After-sleeps_for_cause in
    let well = sym c.fault.ensures ∙ c.in_default.is in
    let ends : (q : Step) → r ≡ q → EndsSo q = λ q is. commit_ends g.D.Disk r k m call c.sleeps_for_cause.ensures.cause well q is in
    ⊎_elim (λ asleep. ends (step.Sleeping asleep.0) asleep.1)
    (λ o. ⊎_elim (λ none. ends step.NoMemory none) (λ p. ⊎_elim (λ moved. ends step.Moved moved)
    (λ q. ⊎_elim (λ idle. ends step.Idle idle) (λ s. ⊎_elim (λ shut. ends step.ShutDown shut) (λ halted. ends step.Halted halted) s) q) p) o)
    c.in-Sleeping.is

-- the group is committed
pub returns : goal.returns
returns g c =
    let k = c.args.kernel.now in
    let m = c.make_steps-step.new.kernel in
    let n = c.poll.new.self in
    let r = c.make_steps-step.result in
    let call = committed g (goal.at.returns g c).After-sleeps_for_cause in
    let so : r ≡ step.Answered = search rules in
    let well = sym c.fault.ensures ∙ c.in_default.is in
    record {
      rests = commit_rests g.D.Disk r k m call so well n c.poll.ensures.same c.poll.ensures.waiting (c.poll.ensures.polled ∙ ap (λ a. polled_after a (polled m.intake 1)) c.poll.ensures.oldest) c.poll.ensures.others;
      commits = commit_made g.D.Disk r k m call so well g.met.D.Disk.has_now n c.poll.ensures.same;
      refused = search rules;
      leaves = λ f has. subst (λ o. LeavesOnly g.D.Disk.moment g.D.Disk.leaves k.store.volume.device o.store.volume.device (KeepsEither (image_on g.D.Disk.image k) f (labels_made g.D.Disk.image k))) (sym c.poll.ensures.same) (commit_leaves g.D.Disk r k m call g.met.D.Disk.has_now f has);
      reached = reached_then g.D.Disk k m n (commit_reached g.D.Disk r k m call) (reached_ports g.D.Disk m n c.poll.ensures.same);
      opening = ap (λ o. o.opening) c.poll.ensures.same ∙ commit_opening g.D.Disk r k m call;
      name = ap (λ o. g.D.Disk.name o.store.volume.device) c.poll.ensures.same ∙ commit_name g.D.Disk r k m call;
    }
