use Rattle.std.proofs.Common.{Bool, subst, sym}
use Rattle.std.specs.Prelude.{IfOk, unwrap_or}
use Rattle.commands_runs.proofs.Leaving.{writes_of_scenario}
use Rattle.commands.specs.Copied.{memory}
use Rattle.commands_runs.specs.Images.{opened_image}
use Rattle.commands_runs.specs.Filed.{held_memory}
use Rattle.commands_runs.specs.Writes.{AreItsWrites}
use Rattle.commands_runs.proofs.anew.Anew.writes.Goals as goal

pub returns-then-self : goal.returns-then-self
returns-then-self c =
    let run = c.args.self.now in
    let known = c.in_ok-scenario.ensures in
    subst (λ (h : Bool). IfOk c.writes_held.result (λ v. AreItsWrites h (opened_image run.opened) run.tasks.items run.processes run.words.items (unwrap_or c.args.stop 0) v.items)) (sym c.if-self.true)
    (writes_of_scenario (λ v. v.items) c.writes_held.result held_memory _ (opened_image run.opened) c.in_ok-scenario.scenario run.tasks.items run.processes run.words.items c.args.stop c.in_ok-disk.ensures known.tasks known.processes known.words known.stop c.writes_held.ensures)

pub returns : goal.returns
returns c =
    let run = c.args.self.now in
    let known = c.in_ok-scenario.ensures in
    subst (λ (h : Bool). IfOk c.writes_over.result (λ v. AreItsWrites h (opened_image run.opened) run.tasks.items run.processes run.words.items (unwrap_or c.args.stop 0) v.items)) (sym c.if-self.false)
    (writes_of_scenario (λ v. v.items) c.writes_over.result memory _ (opened_image run.opened) c.in_ok-scenario.scenario run.tasks.items run.processes run.words.items c.args.stop c.in_ok-disk.ensures known.tasks known.processes known.words known.stop c.writes_over.ensures)
