use Rattle.std.proofs.Common.{Bool, subst, sym}
use Rattle.std.specs.Prelude.{IfOk}
use Rattle.commands_runs.proofs.Leaving.{left_of}
use Rattle.commands.specs.Copied.{memory}
use Rattle.commands_runs.specs.Images.{opened_image}
use Rattle.commands_runs.specs.Filed.{LeavesFiles, held_memory}
use Rattle.commands_runs.proofs.anew.Anew.lines.Goals as goal

pub returns-then-self : goal.returns-then-self
returns-then-self c =
    let run = c.args.self.now in
    let known = c.in_ok-scenario.ensures in
    subst (λ (h : Bool). IfOk c.lines_held.result (λ v. LeavesFiles h (opened_image run.opened) run.tasks.items run.processes run.words.items c.args.write v.items)) (sym c.if-self.true)
    (left_of (λ v. v.items) c.lines_held.result held_memory _ (opened_image run.opened) c.in_ok-scenario.scenario run.tasks.items run.processes run.words.items c.args.write c.in_ok-disk.ensures known.tasks known.processes known.words known.stop c.lines_held.ensures)

pub returns : goal.returns
returns c =
    let run = c.args.self.now in
    let known = c.in_ok-scenario.ensures in
    subst (λ (h : Bool). IfOk c.lines_left.result (λ v. LeavesFiles h (opened_image run.opened) run.tasks.items run.processes run.words.items c.args.write v.items)) (sym c.if-self.false)
    (left_of (λ v. v.items) c.lines_left.result memory _ (opened_image run.opened) c.in_ok-scenario.scenario run.tasks.items run.processes run.words.items c.args.write c.in_ok-disk.ensures known.tasks known.processes known.words known.stop c.lines_left.ensures)
