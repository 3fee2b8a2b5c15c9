use Rattle.std.proofs.Common.{subst}
use Rattle.player.specs.Stepping.{Polls}
use Rattle.player.proofs.Seats.{watch_then}
use Rattle.player.proofs.Steps.{one_turn}
use Rattle.player.proofs.player.Player.make_step.Goals as goal

pub returns-clause-makes : goal.returns-clause-makes
returns-clause-makes g c =
    let e = c.event.ensures in
    one_turn _ _ _ _ _ _ c.hand_in.new.self.kernel c.step-step.new.self.kernel c.hand_in.new.self.feeders.items c.step-step.result e.0
    c.hand_in.ensures.hands_in c.step-step.ensures.makes
    (subst (λ v. Polls c.args.pid e.0 c.step-step.new.self.kernel v.items c.event.new.self.kernel c.event.new.self.feeders.items) c.step-step.ensures.feeders e.1) e.2
    (watch_then c.args.self.now c.hand_in.new.self c.step-step.new.self c.event.new.self c.hand_in.ensures.watch c.step-step.ensures.watch e.3)
