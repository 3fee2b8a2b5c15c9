use Rattle.std.proofs.Common.{List, [], ◌∷◌, ◌++◌, ◌∙◌, ap, subst}
use Rattle.messages.specs.declared.deeds.StepNote.{StepNote}
use Rattle.player.specs.Disks.{faulty}
use Rattle.player.specs.Stepping.{Polls}
use Rattle.player.specs.Told.{note_of}
use Rattle.player.proofs.Seats.{watch_then}
use Rattle.player.proofs.Steps.{one_turn}
use Rattle.player.proofs.player.Player.told_step.Goals as goal

pub returns-clause-makes : goal.returns-clause-makes
returns-clause-makes g c =
    let e = c.event.ensures in
    one_turn _ _ _ _ _ _ c.hand_in.new.self.kernel c.noted_step-step.new.self.kernel c.hand_in.new.self.feeders.items c.noted_step-step.result e.0
    c.hand_in.ensures.hands_in (record { made = c.noted_step-step.ensures.makes; note = c.noted_step-step.ensures.note ∙ ap (λ (ns : List StepNote). ns ++ note_of (faulty g.D.Disk) c.args.base c.args.pid c.noted_step-step.result c.hand_in.new.self.kernel c.noted_step-step.new.self.kernel ∷ []) c.requires.none })
    (subst (λ v. Polls c.args.pid e.0 c.noted_step-step.new.self.kernel v.items c.event.new.self.kernel c.event.new.self.feeders.items) c.noted_step-step.ensures.feeders e.1) e.2
    (watch_then c.args.self.now c.hand_in.new.self c.noted_step-step.new.self c.event.new.self c.hand_in.ensures.watch c.noted_step-step.ensures.watch e.3)
