use Rattle.std.proofs.Common.{◌≡◌, true}
use Rattle.blockmap.specs.Common.{AreFull}
use Rattle.blockmap.proofs.balloc.is_full.Given as goal

abbrev pub invariant-loop-place : goal.invariant-loop-place
invariant-loop-place l = l.full ≡ true → AreFull l.bytes l.at l.place
