use Rattle.std.proofs.Common.{drop}
use Rattle.names.proofs.SeenLooks.{HasWalked}
use Rattle.names.proofs.tree.Tree.walk.Given as goal

abbrev pub invariant-loop-name : goal.invariant-loop-name
invariant-loop-name g l =
    HasWalked g.D.Disk l.initial.self.kernel l.self.kernel l.initial.self.calls_left l.self.calls_left l.number (drop l.name-index l.names) l.names
