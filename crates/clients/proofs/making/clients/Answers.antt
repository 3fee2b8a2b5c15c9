use Rattle.std.proofs.Common.{◌≡◌, ◌∙◌, [], ◌++◌, append-nil, length, ap, arith, sym}
use Rattle.std.proofs.lemmas.List.{nil_from_length}
use Rattle.std.specs.Prelude.{slice_get}
use Rattle.rings.specs.Callers.{intake_names}
use Rattle.clients.proofs.Pairs.{are_clients, feeder_at}
use Rattle.clients.proofs.making.clients.Goals as goal

pub new-requires : goal.new-requires
new-requires c =
    let yielded = c.loop-feeder.yielded in
    let here = sym c.into_iter-feeder-iterator.ensures.into_iter_gives.0 ∙ c.loop-feeder.invariant.all ∙ ap (λ ss. yielded ++ ss) c.in-Some.ensures.steps.0 in
    (c.in_ok-intake.ensures.feeders.each (length yielded) c.in-Some.feeder (ap (λ ss. slice_get ss (length yielded)) here ∙ feeder_at yielded c.next.new.self.rest.items c.in-Some.feeder)).fresh

pub returns-clause-clients : goal.returns-clause-clients
returns-clause-clients c =
    let yielded = c.loop-feeder.yielded in
    let none : c.loop-feeder.feeder-iterator.rest.items ≡ [] = (let len = c.in-None.ensures.steps.0 in let ok = c.loop-feeder.feeder-iterator.rest.ok in nil_from_length c.loop-feeder.feeder-iterator.rest.items (omega (arith, len, ok))) in
    let all = sym c.into_iter-feeder-iterator.ensures.into_iter_gives.0 ∙ c.loop-feeder.invariant.all ∙ ap (λ ss. yielded ++ ss) none ∙ append-nil yielded in
    are_clients (intake_names c.in_ok-intake.intake) c.args.tasks.items c.args.processes c.loop-feeder.clients.items c.in_ok-intake.feeders.items (c.loop-feeder.invariant.made ∙ sym all) c.in_ok-intake.ensures.feeders
