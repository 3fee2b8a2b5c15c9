use Rattle.std.proofs.Common.{subst}
use Rattle.player.specs.Stepping.{Polls}
use Rattle.player.proofs.Seats.{watch_then}
use Rattle.player.proofs.Steps.{one_turn}
use Rattle.player.proofs.player.Player.told_steps.Goals as goal

pub returns-clause-makes : goal.returns-clause-makes
returns-clause-makes g c =
    let e = c.event.ensures in
    one_turn _ _ _ _ _ _ c.hand_in.new.self.kernel c.noted_steps-step.new.self.kernel c.hand_in.new.self.feeders.items c.noted_steps-step.result e.0
    c.hand_in.ensures.hands_in c.noted_steps-step.ensures.notes
    (subst (λ v. Polls c.args.pid e.0 c.noted_steps-step.new.self.kernel v.items c.event.new.self.kernel c.event.new.self.feeders.items) c.noted_steps-step.ensures.feeders e.1) e.2
    (watch_then c.args.self.now c.hand_in.new.self c.noted_steps-step.new.self c.event.new.self c.hand_in.ensures.watch c.noted_steps-step.ensures.watch e.3)
