use Rattle.std.proofs.Common.{take}
use Rattle.std.specs.List.{flat_map}
use Rattle.std.specs.Io.KnownBytes.{Appends}
use Rattle.explorer_page.specs.Operations.{task_object}
use Rattle.explorer_page.proofs.operations.print_tasks.Given as goal

abbrev pub invariant-loop-task : goal.invariant-loop-task
invariant-loop-task g l = Appends (g.O.Write.contents l.initial.out) (g.O.Write.contents l.out) (flat_map task_object (take l.task-index l.tasks))
