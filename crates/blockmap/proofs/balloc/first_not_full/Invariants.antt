use Rattle.blockmap.specs.Common.{AreFull}
use Rattle.blockmap.proofs.balloc.first_not_full.Given as goal

abbrev pub invariant-loop-place : goal.invariant-loop-place
invariant-loop-place l = AreFull l.bytes 0 l.place
