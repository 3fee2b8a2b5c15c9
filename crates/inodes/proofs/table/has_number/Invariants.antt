use Rattle.std.proofs.Common.{◌≡◌, false}
use Rattle.inodes.specs.Common.{HasNot}
use Rattle.inodes.proofs.table.has_number.Given as goal

abbrev pub invariant-loop-place : goal.invariant-loop-place
invariant-loop-place l = l.found ≡ false → HasNot l.numbers l.number l.place
