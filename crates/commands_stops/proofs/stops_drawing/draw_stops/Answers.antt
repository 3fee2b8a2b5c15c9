use Rattle.std.proofs.Common.{Bool, subst, sym}
use Rattle.std.specs.Prelude.{IfErr, OnOk}
use Rattle.commands_stops.proofs.Drawn.{unbegun, unexplored}
use Rattle.commands_stops.specs.StopsDrawn.{DrawsStops, HasNoFile, IsUndrawn, undrawn_of}
use Rattle.commands_stops.specs.declared.stops_drawing.Undrawn.{Undrawn}
use Rattle.commands_stops.proofs.stops_drawing.draw_stops.Goals as goal

pub returns-then-plain-clause-drawn : goal.returns-then-plain-clause-drawn
returns-then-plain-clause-drawn g c =
    let s = c.args.scenario.now in
    subst (λ (plain : Bool). OnOk c.draw_plain.result (DrawsStops g.R.File.Write.contents plain c.args.held s.tasks.items s.processes s.words.items c.args.columns.now c.args.lost)) (sym c.if-plain.true) c.draw_plain.ensures.drawn

pub returns-then-plain-clause-undrawn : goal.returns-then-plain-clause-undrawn
returns-then-plain-clause-undrawn g c =
    let s = c.args.scenario.now in
    subst (λ (plain : Bool). IfErr c.draw_plain.result (IsUndrawn plain c.args.held s.tasks.items s.processes s.words.items c.args.columns.now)) (sym c.if-plain.true) c.draw_plain.ensures.undrawn

pub returns-in-Ok-clause-drawn : goal.returns-in-Ok-clause-drawn
returns-in-Ok-clause-drawn g c =
    let s = c.args.scenario.now in
    subst (λ (plain : Bool). DrawsStops g.R.File.Write.contents plain c.args.held s.tasks.items s.processes s.words.items c.args.columns.now c.args.lost) (sym c.if-plain.false) c.in-Ok.ensures.explored

pub returns-in-Err-clause-undrawn : goal.returns-in-Err-clause-undrawn
returns-in-Err-clause-undrawn g c =
    let s = c.args.scenario.now in
    subst (λ (u : Undrawn). IsUndrawn c.args.plain c.args.held s.tasks.items s.processes s.words.items c.args.columns.now u) (sym c.undrawn_of.ensures)
    (subst (λ (plain : Bool). IsUndrawn plain c.args.held s.tasks.items s.processes s.words.items c.args.columns.now (undrawn_of c.in-Err.refusal)) (sym c.if-plain.false)
    (unexplored c.args.held s.tasks.items s.processes s.words.items c.args.columns.now c.in-Err.refusal c.in-Err.ensures.refused))

pub returns-in-Err-clause-unbegun : goal.returns-in-Err-clause-unbegun
returns-in-Err-clause-unbegun g c = λ none. c.in-Err.ensures.unbegun (unbegun c.in-Err.refusal (subst HasNoFile c.undrawn_of.ensures none))
