use Rattle.inodes.specs.Common.{AreUsed}
use Rattle.inodes.proofs.ialloc.are_used.Given as goal

abbrev pub invariant-loop-place : goal.invariant-loop-place
invariant-loop-place l = AreUsed l.block l.place
