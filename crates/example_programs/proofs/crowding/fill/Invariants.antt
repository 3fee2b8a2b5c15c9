use Rattle.names.specs.Ready.{MayGoOn}
use Rattle.example_programs.proofs.crowding.fill.Given as goal

-- the tree may go on
abbrev pub invariant-loop-file : goal.invariant-loop-file
invariant-loop-file g l = MayGoOn g.D.Disk l.tree.kernel l.tree.calls_left
