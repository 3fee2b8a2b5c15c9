use Rattle.std.proofs.Common.{Bool, subst, sym}
use Rattle.std.specs.Prelude.{OnOk}
use Rattle.commands.specs.Copied.{memory}
use Rattle.commands_runs.proofs.WholeRuns.{heard_scenario}
use Rattle.commands_runs.specs.Filed.{held_memory}
use Rattle.commands_runs.specs.Images.{opened_image}
use Rattle.commands_runs.specs.Tried.{HearsOfRun}
use Rattle.commands_runs.proofs.anew.Anew.tell.Goals as goal

pub returns-then-self : goal.returns-then-self
returns-then-self c =
    let run = c.args.self.now in
    let known = c.in_ok-scenario.ensures in
    subst (λ (h : Bool). OnOk c.tell_held.result (HearsOfRun h (opened_image run.opened) run.tasks.items run.processes run.words.items c.args.teller.now.run c.tell_held.new.teller.run)) (sym c.if-self.true)
    (heard_scenario c.tell_held.result held_memory _ (opened_image run.opened) c.in_ok-scenario.scenario run.tasks.items run.processes run.words.items _ _ c.in_ok-disk.ensures known.tasks known.processes known.words c.tell_held.ensures)

pub returns : goal.returns
returns c =
    let run = c.args.self.now in
    let known = c.in_ok-scenario.ensures in
    subst (λ (h : Bool). OnOk c.tell_over.result (HearsOfRun h (opened_image run.opened) run.tasks.items run.processes run.words.items c.args.teller.now.run c.tell_over.new.teller.run)) (sym c.if-self.false)
    (heard_scenario c.tell_over.result memory _ (opened_image run.opened) c.in_ok-scenario.scenario run.tasks.items run.processes run.words.items _ _ c.in_ok-disk.ensures known.tasks known.processes known.words c.tell_over.ensures)
