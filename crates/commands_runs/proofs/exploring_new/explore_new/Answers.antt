use Rattle.std.proofs.Common.{sym, subst}
use Rattle.std.proofs.lemmas.Result.{IfErr-weaker}
use Rattle.commands_runs.proofs.Recording.{both_done}
use Rattle.commands_runs.proofs.WholeRuns.{explored_new, unexplored_new}
use Rattle.commands_runs.specs.Tried.{IsHeardOf}
use Rattle.commands_runs.specs.declared.gathered.Gathered.{Gathered}
use Rattle.commands_runs.proofs.exploring_new.explore_new.Goals as goal

pub returns-clause-explored : goal.returns-clause-explored
returns-clause-explored g c =
    let known = c.in-Ok.ensures in
    let s = c.args.scenario.now in
    let heard = subst (λ (b : Gathered). IsHeardOf c.args.holds s.tasks.items s.processes s.words.items c.in-Ok.taken.0.inode_count b) (sym c.run.ensures) known.heard in
    both_done c.make_page.result _ _ _
    (explored_new g.R.File.Write.contents c.args.holds s.tasks.items s.processes s.words.items c.in-Ok.taken.0 c.run.result.now known.made known.count heard c.args.columns.now c.args.lost)
    c.make_page.ensures.few c.make_page.ensures.made

pub returns-clause-refused : goal.returns-clause-refused
returns-clause-refused g c =
    let known = c.in-Ok.ensures in
    let s = c.args.scenario.now in
    let heard = subst (λ (b : Gathered). IsHeardOf c.args.holds s.tasks.items s.processes s.words.items c.in-Ok.taken.0.inode_count b) (sym c.run.ensures) known.heard in
    IfErr-weaker c.make_page.result _ _
    (unexplored_new g.R.File.Write.contents c.args.holds s.tasks.items s.processes s.words.items c.in-Ok.taken.0 c.run.result.now known.made known.count heard)
    c.make_page.ensures.untold
