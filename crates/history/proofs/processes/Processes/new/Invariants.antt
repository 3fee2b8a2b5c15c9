use Rattle.std.proofs.Common.{◌≡◌, replicate, None}
use Rattle.history.specs.Changing.{no_changes}
use Rattle.history.specs.Processes.{idle}
use Rattle.history.proofs.processes.Processes.new.Given as goal

abbrev pub invariant-loop-process : goal.invariant-loop-process
invariant-loop-process l = (l.processes.items ≡ replicate l._process idle) × (l.held.items ≡ replicate l._process None) × (l.changes.items ≡ replicate l._process no_changes)
