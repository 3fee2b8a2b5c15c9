use Rattle.std.proofs.Common.{refl}
use Rattle.player.proofs.Seats.{still_seated, watch_then}
use Rattle.player.proofs.Steps.{one_turn}
use Rattle.player.proofs.player.Player.make_steps.Goals as goal

pub event-requires-clause-seated : goal.event-requires-clause-seated
event-requires-clause-seated g c =
    let old = c.hand_in.new.self in
    still_seated old (record { kernel = c.make_steps-step.new.kernel; board = old.board; watch = old.watch; feeders = old.feeders }) c.hand_in.ensures.seated (refl, refl) c.make_steps-step.ensures.names c.make_steps-step.ensures.processes refl

pub returns-clause-makes : goal.returns-clause-makes
returns-clause-makes g c =
    let e = c.event.ensures in
    let handed = c.hand_in.new.self in
    one_turn _ _ _ _ _ _ handed.kernel c.make_steps-step.new.kernel handed.feeders.items c.make_steps-step.result e.0
    c.hand_in.ensures.hands_in c.make_steps-step.ensures.makes e.1 e.2
    (watch_then c.args.self.now handed handed c.event.new.self c.hand_in.ensures.watch (refl, refl) e.3)
