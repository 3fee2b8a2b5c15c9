use Rattle.std.proofs.Common.{◌≡◌, take}
use Rattle.player.proofs.copying.copies_of.Given as goal

abbrev pub invariant-loop-task : goal.invariant-loop-task
invariant-loop-task l = l.copies.items ≡ take l.task-index l.tasks
