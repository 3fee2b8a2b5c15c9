use Rattle.std.proofs.Common.{◌≡◌, subst, sym}
use Rattle.std.specs.Prelude.{IfErr, OnOk}
use Rattle.commands_stops.proofs.Drawn.{unasked, unchecked_so}
use Rattle.commands_stops.specs.StopsDrawn.{ChecksInto, DrawsRefused, IsUncheckedInto, IsUndrawn}
use Rattle.commands_stops.proofs.stopping.stops_into.Goals as goal

pub returns-in-Some-clause-checked : goal.returns-in-Some-clause-checked
returns-in-Some-clause-checked g c =
    subst (λ picture. OnOk c.stops_pictured.result (ChecksInto g.R.File.Write.contents c.args.json c.args.held c.args.plain (g.O.Write.contents c.args.out.now) (g.O.Write.contents c.stops_pictured.new.out) picture)) (sym c.in-Some.is)
    c.stops_pictured.ensures.checked

pub returns-in-Some-clause-refused : goal.returns-in-Some-clause-refused
returns-in-Some-clause-refused g c =
    subst
    (λ picture. IfErr c.stops_pictured.result (IsUncheckedInto g.R.File.Write.contents c.args.json c.args.held c.args.plain (g.O.Write.contents c.args.out.now) (g.O.Write.contents c.stops_pictured.new.out) (c.stops_pictured.new.out ≡ c.args.out.now) picture))
    (sym c.in-Some.is)
    c.stops_pictured.ensures.refused

pub returns-clause-refused : goal.returns-clause-refused
returns-clause-refused g c =
    let s = c.in-Ok.scenario in
    let tried = c.stops_of.new.tried.items in
    unchecked_so g.R.File.Write.contents c.args.json c.args.held c.args.plain (g.O.Write.contents c.args.out.now) (g.O.Write.contents c.stops_of.new.out) (c.stops_of.new.out ≡ c.args.out.now) c.args.picture tried s.tasks.items s.processes s.words.items c.in-Err-stops_of.refusal _
    c.in-Err-stops_of.ensures.refused
    (unasked c.args.picture (IsUndrawn c.args.plain c.args.held s.tasks.items s.processes s.words.items tried)
    (DrawsRefused g.R.File.Write.contents c.args.plain c.args.held s.tasks.items s.processes s.words.items tried c.in-Err-stops_of.refusal) c.in_default.not-Some)
