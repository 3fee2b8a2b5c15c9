use Rattle.tree_puts.specs.Gathering.{AreBelow}
use Rattle.tree_puts.proofs.gathering.gather.Given as goal

-- what was found so far is below the path
abbrev pub invariant-loop-place : goal.invariant-loop-place
invariant-loop-place g l = AreBelow l.path l.found.items.items
