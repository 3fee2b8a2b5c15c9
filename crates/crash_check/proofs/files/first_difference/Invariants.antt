use Rattle.std.proofs.Common.{◌≡◌, take}
use Rattle.crash_check.proofs.files.first_difference.Given as goal

abbrev pub invariant-loop-k : goal.invariant-loop-k
invariant-loop-k l = take l.k l.a ≡ take l.k l.b
