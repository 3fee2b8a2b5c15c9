use Rattle.std.proofs.Common.{◌≡◌, List, None, Some, subst}
use Rattle.std.specs.Prelude.{IfErr, OnOk}
use Rattle.pictures.specs.declared.stops.Column.{Column}
use Rattle.commands_stops.proofs.Drawn.{checked_so, drawn_or, unchecked_so, undrawn_so}
use Rattle.commands_stops.specs.StopsDrawn.{DrawsRefused, DrawsStops, IsUndrawn}
use Rattle.commands_stops.proofs.stopping.stops_pictured.Goals as goal

pub returns-in-Ok-draw_passed-clause-checked : goal.returns-in-Ok-draw_passed-clause-checked
returns-in-Ok-draw_passed-clause-checked g c =
    let s = c.in-Ok-read_scenario.scenario in
    let passed = c.stops_of-checked.new.tried.items in
    checked_so g.R.File.Write.contents c.args.json c.args.held c.args.plain _ _ (Some c.args.path) passed s.tasks.items s.processes s.words.items c.in-Ok-checked.ensures.checked
    (subst (λ (columns : List Column). DrawsStops g.R.File.Write.contents c.args.plain c.args.held s.tasks.items s.processes s.words.items columns None) c.as_slice.ensures.value c.in-Ok-draw_passed.ensures.drawn)

pub returns-in-Ok-checked-clause-refused : goal.returns-in-Ok-checked-clause-refused
returns-in-Ok-checked-clause-refused g c =
    let s = c.in-Ok-read_scenario.scenario in
    let passed = c.stops_of-checked.new.tried.items in
    undrawn_so g.R.File.Write.contents c.args.json c.args.held c.args.plain _ _ (c.stops_of-checked.new.out ≡ c.args.out.now) c.args.path passed s.tasks.items s.processes s.words.items c.in-Err-draw_passed.undrawn
    c.in-Ok-checked.ensures.checked
    (subst (λ (columns : List Column). IsUndrawn c.args.plain c.args.held s.tasks.items s.processes s.words.items columns c.in-Err-draw_passed.undrawn) c.as_slice.ensures.value c.in-Err-draw_passed.ensures.undrawn)

pub returns-clause-refused : goal.returns-clause-refused
returns-clause-refused g c =
    let s = c.in-Ok-read_scenario.scenario in
    let passed = c.stops_of-checked.new.tried.items in
    let ended = c.draw_refused-drawn.result in
    unchecked_so g.R.File.Write.contents c.args.json c.args.held c.args.plain (g.O.Write.contents c.args.out.now) (g.O.Write.contents c.stops_of-checked.new.out) (c.stops_of-checked.new.out ≡ c.args.out.now) (Some c.args.path) passed s.tasks.items s.processes s.words.items c.in-Err-checked.refusal ended
    c.in-Err-checked.ensures.refused
    (drawn_or ended _ _
    (subst (λ (columns : List Column). OnOk ended (DrawsRefused g.R.File.Write.contents c.args.plain c.args.held s.tasks.items s.processes s.words.items columns c.in-Err-checked.refusal)) c.as_slice-columns.ensures.value c.draw_refused-drawn.ensures.drawn)
    (subst (λ (columns : List Column). IfErr ended (IsUndrawn c.args.plain c.args.held s.tasks.items s.processes s.words.items columns)) c.as_slice-columns.ensures.value c.draw_refused-drawn.ensures.undrawn))
