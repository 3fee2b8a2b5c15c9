use Rattle.std.proofs.Common.{◌∙◌, Bool, List, ap, subst}
use Rattle.std.specs.Prelude.{◌||◌}
use Rattle.messages.specs.declared.deeds.StepNote.{StepNote}
use Rattle.commands_runs.specs.Explored.{HearsObjects}
use Rattle.commands_runs.proofs.explorer_teller.ExplorerTellerTeller.turn.Goals as goal

pub returns-clause-heard : goal.returns-clause-heard
returns-clause-heard g c =
    let turn = c.turn-event.ensures.heard in
    record {
      notes = turn.notes;
      turn = turn.turn;
      heard = (
        turn.heard.0,
        turn.heard.1,
        c.either-self.ensures ∙ ap (λ (b : Bool). c.args.self.now.refused || b) c.wants_in.ensures,
        subst (λ (notes : List StepNote). HearsObjects (record { event = c.turn-event.result; notes = notes }) c.args.self.now.run c.hear.new.self) (c.notes.ensures ∙ turn.heard.1) c.hear.ensures,
      );
    }
