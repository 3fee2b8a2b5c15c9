use Rattle.std.proofs.Common.{◌≡◌, replicate}
use Rattle.inodes.specs.Common.{no_task}
use Rattle.inodes.proofs.tasks.Tasks.new.Given as goal

abbrev pub invariant-loop-process : goal.invariant-loop-process
invariant-loop-process l = l.tasks.items ≡ replicate l._process no_task
