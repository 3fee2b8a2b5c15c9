use Rattle.std.proofs.Common.{◌∙◌, length, refl, sym}
use Rattle.std.proofs.lemmas.Option.{slice_get_read}
use Rattle.std.specs.Vec.{with_item}
use Rattle.player.proofs.Seats.{polls_none, polls_then, takes, low_in, set_seated}
use Rattle.player.proofs.player.Player.poll.Goals as goal

pub returns-then-answers_known-eq0-clause-polls : goal.returns-then-answers_known-eq0-clause-polls
returns-then-answers_known-eq0-clause-polls g c =
    let met = c.reconcile.new.self in
    let low = low_in c.args.pid c.args.self.now met c.requires.pid c.reconcile.ensures.same c.reconcile.ensures.seated in
    polls_none c.args.pid c.args.self.now.kernel met.kernel c.args.self.now.feeders.items met.feeders.items c.reconcile.ensures.reconciles c.index.result.now
    (slice_get_read met.feeders.items (length met.feeders.items) c.args.pid c.index.result.now refl low c.index.ensures) c.reconcile.ensures.same (sym c.answers_known.ensures ∙ c.if-answers_known-eq0.true)

pub returns-clause-polls : goal.returns-clause-polls
returns-clause-polls g c =
    let met = c.reconcile.new.self in
    let low = low_in c.args.pid c.args.self.now met c.requires.pid c.reconcile.ensures.same c.reconcile.ensures.seated in
    polls_then c.args.pid c.args.self.now.kernel met.kernel c.args.self.now.feeders.items met.feeders.items c.reconcile.ensures.reconciles c.index_mut.result.now c.poll.new.self
    (slice_get_read met.feeders.items (length met.feeders.items) c.args.pid c.index_mut.result.now refl low c.index_mut.ensures.value) c.reconcile.ensures.same c.poll.result (takes c.poll.result c.index_mut.result.now.caller c.poll.new.self.caller c.poll.ensures.some c.poll.ensures.oldest c.poll.ensures.none c.poll.ensures.succeeds) (c.poll.ensures.untouched.0, c.poll.ensures.untouched.1)

pub returns-clause-seated : goal.returns-clause-seated
returns-clause-seated g c =
    let met = c.reconcile.new.self in
    let low = low_in c.args.pid c.args.self.now met c.requires.pid c.reconcile.ensures.same c.reconcile.ensures.seated in
    set_seated met (record { kernel = met.kernel; board = met.board; watch = met.watch; feeders = with_item met.feeders c.args.pid c.poll.new.self }) c.reconcile.ensures.seated (refl, refl) (λ q. refl) refl
    c.args.pid c.index_mut.result.now c.poll.new.self (slice_get_read met.feeders.items (length met.feeders.items) c.args.pid c.index_mut.result.now refl low c.index_mut.ensures.value) c.poll.ensures.same.0 refl
