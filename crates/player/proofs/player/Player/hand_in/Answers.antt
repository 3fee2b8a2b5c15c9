use Rattle.std.proofs.Common.{length, refl}
use Rattle.std.proofs.lemmas.Option.{slice_get_read}
use Rattle.std.specs.Vec.{with_item}
use Rattle.player.proofs.Seats.{hands_in_then, low_in, set_seated}
use Rattle.player.proofs.player.Player.hand_in.Goals as goal

pub returns-clause-hands_in : goal.returns-clause-hands_in
returns-clause-hands_in g c =
    let met = c.reconcile.new.self in
    let low = low_in c.args.pid c.args.self.now met c.requires.pid c.reconcile.ensures.same c.reconcile.ensures.seated in
    hands_in_then c.args.pid c.args.self.now.kernel met.kernel c.args.self.now.feeders.items met.feeders.items c.reconcile.ensures.reconciles c.index_mut.result.now c.hand_in-moved.new.self
    (slice_get_read met.feeders.items (length met.feeders.items) c.args.pid c.index_mut.result.now refl low c.index_mut.ensures.value) c.reconcile.ensures.same c.hand_in-moved.ensures.same c.hand_in-moved.ensures.polled c.hand_in-moved.ensures.all

pub returns-clause-seated : goal.returns-clause-seated
returns-clause-seated g c =
    let met = c.reconcile.new.self in
    let low = low_in c.args.pid c.args.self.now met c.requires.pid c.reconcile.ensures.same c.reconcile.ensures.seated in
    set_seated met (record { kernel = met.kernel; board = met.board; watch = met.watch; feeders = with_item met.feeders c.args.pid c.hand_in-moved.new.self }) c.reconcile.ensures.seated (refl, refl) (λ q. refl) refl
    c.args.pid c.index_mut.result.now c.hand_in-moved.new.self (slice_get_read met.feeders.items (length met.feeders.items) c.args.pid c.index_mut.result.now refl low c.index_mut.ensures.value) c.hand_in-moved.ensures.same.0 refl
