use Rattle.names.proofs.Rising.{HasRisen}
use Rattle.names.proofs.tree.Tree.is_outside.Given as goal

abbrev pub invariant-loop-step : goal.invariant-loop-step
invariant-loop-step g l = HasRisen g.D.Disk l.initial.self.kernel l.self.kernel l.self.calls_left l._step l.number l.from l.at
