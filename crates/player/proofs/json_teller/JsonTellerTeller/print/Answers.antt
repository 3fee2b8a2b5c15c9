use Rattle.std.proofs.Common.{List, ◌++◌, ◌∙◌, sym, subst}
use Rattle.std.specs.Io.KnownBytes.{Appends}
use Rattle.std.proofs.lemmas.Result.{on_ok_weaker}
use Rattle.std.proofs.KnownBytes.{Appends-trans}
use Rattle.json_lines.specs.Events.{event_object}
use Rattle.json_lines.specs.Steps.{step_objects}
use Rattle.json_lines.specs.declared.written.Written.{Written}
use Rattle.messages.specs.declared.deeds.StepNote.{StepNote}
use Rattle.messages.specs.declared.events.Event.{Event}
use Rattle.player.proofs.json_teller.JsonTellerTeller.print.Goals as goal

pub returns : goal.returns
returns g c =
    let old = g.O.Write.contents c.args.out.now in
    let new = g.O.Write.contents c.print_event_object.new.out in
    let n = c.args.inode_count in
    let written = c.args.self.now.written.items in
    on_ok_weaker c.print_event_object.result
    (λ event word told was heard same.
    subst (λ (e : Event). Appends old new (step_objects n written told.notes ++ event_object e)) (sym same)
    (subst (λ (ws : List Written). Appends old new (step_objects n ws told.notes ++ event_object c.args.event.now)) c.as_slice.ensures.value
    (subst (λ (ns : List StepNote). Appends old new (step_objects n c.as_slice.result.now ns ++ event_object c.args.event.now)) (c.as_slice-2.ensures ∙ heard)
    (Appends-trans old _ new _ _ c.in_ok-print_step_objects.ensures.ok event))))
    c.print_event_object.ensures.ok
