use Rattle.std.proofs.Common.{List, ◌++◌, ◌∙◌, sym, subst}
use Rattle.std.specs.Prelude.{flat_map}
use Rattle.std.specs.Io.KnownBytes.{Appends}
use Rattle.std.proofs.lemmas.Result.{on_ok_weaker}
use Rattle.std.proofs.KnownBytes.{Appends-trans}
use Rattle.messages.specs.Deeds.{note_text}
use Rattle.messages.specs.Events.{event_line}
use Rattle.messages.specs.declared.deeds.StepNote.{StepNote}
use Rattle.messages.specs.declared.events.Event.{Event}
use Rattle.player.proofs.tellers.StepTellerTeller.print.Goals as goal

pub returns : goal.returns
returns g c =
    let old = g.O.Write.contents c.args.out.now in
    let new = g.O.Write.contents c.print_notes.new.out in
    let below = note_text c.args.self.now.detail c.args.inode_count in
    on_ok_weaker c.print_notes.result
    (λ notes word told was heard same.
    subst (λ (e : Event). Appends old new (event_line e ++ flat_map below told.notes)) (sym same)
    (subst (λ (ns : List StepNote). Appends old new (event_line c.args.event.now ++ flat_map below ns)) (c.as_slice.ensures ∙ heard.1)
    (Appends-trans old _ new _ _ c.in_ok-print_event.ensures.ok notes)))
    c.print_notes.ensures.ok
