use Rattle.std.proofs.Common.{◌∙◌, List, ap}
use Rattle.messages.specs.declared.deeds.StepNote.{StepNote}
use Rattle.pictures.specs.Recorders.{heard}
use Rattle.commands_runs.proofs.picture_teller.PictureTellerTeller.turn.Goals as goal

pub returns-clause-heard : goal.returns-clause-heard
returns-clause-heard g c =
    let turn = c.turn-event.ensures.heard in
    record {
      notes = turn.notes;
      turn = turn.turn;
      heard = (turn.heard.0, turn.heard.1, c.hear.ensures ∙ ap (λ (notes : List StepNote). heard c.turn-event.result notes c.args.self.now.recorder) (c.notes.ensures ∙ turn.heard.1));
    }
