use Rattle.std.proofs.Common.{◌*◌}
use Rattle.blockmap.specs.Common.{AreFull}
use Rattle.blockmap.proofs.balloc.full_groups.Given as goal

abbrev pub invariant-loop-group : goal.invariant-loop-group
invariant-loop-group l = AreFull l.bytes 0 (l.group * 32)
