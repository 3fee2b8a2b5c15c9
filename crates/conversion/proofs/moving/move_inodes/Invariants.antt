use Rattle.std.proofs.Common.{◌≡◌}
use Rattle.conversion.specs.Common.{overwritten}
use Rattle.conversion.proofs.StepLemmas.{first_inodes}
use Rattle.conversion.proofs.moving.move_inodes.Given as goal

abbrev pub invariant-loop-k : goal.invariant-loop-k
invariant-loop-k l = l.block ≡ overwritten l.initial.block 0 (first_inodes l.from l.to l.initial.block l.k)
