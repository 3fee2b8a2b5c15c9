use Rattle.std.proofs.Common.{◌∙◌, Bool, ap}
use Rattle.std.specs.Prelude.{◌||◌}
use Rattle.commands_runs.proofs.mute.MuteTeller.turn.Goals as goal

pub returns-clause-heard : goal.returns-clause-heard
returns-clause-heard g c =
    let turn = c.turn-event.ensures.heard in
    record {
      notes = turn.notes;
      turn = turn.turn;
      heard = c.either-self.ensures ∙ ap (λ (b : Bool). c.args.self.now.refused || b) c.wants_in.ensures;
    }
