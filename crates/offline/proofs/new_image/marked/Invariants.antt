use Rattle.std.proofs.Common.{◌≡◌}
use Rattle.offline.specs.Common.{first_bits}
use Rattle.offline.proofs.new_image.marked.Given as goal

abbrev pub invariant-loop-k : goal.invariant-loop-k
invariant-loop-k l = l.block ≡ first_bits l.k
