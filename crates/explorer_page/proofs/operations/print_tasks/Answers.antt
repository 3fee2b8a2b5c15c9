use Rattle.std.proofs.Common.{subst}
use Rattle.std.specs.Io.KnownBytes.{Appends}
use Rattle.messages.specs.Lemmas.Texts.{printed_more}
use Rattle.scripts.specs.declared.script.Task.{Task}
use Rattle.explorer_page.specs.Operations.{task_object}
use Rattle.explorer_page.proofs.operations.print_tasks.Goals as goal

pub loop-task-preserved : goal.loop-task-preserved
loop-task-preserved g c =
    let one = subst (λ (item : Task). Appends (g.O.Write.contents c.loop-task.out) (g.O.Write.contents c.print_task.new.out) (task_object item)) c.task-item.is c.in_ok-print_task.ensures.ok in
    printed_more task_object c.args.tasks.now c.loop-task.task-index c.task-item.result _ _ _ c.loop-task-test.true c.loop-task.invariant one
