use Rattle.std.proofs.Common.{◌≡◌, None, replicate}
use Rattle.crash_check.proofs.files.no_files.Given as goal

abbrev pub invariant-loop-number : goal.invariant-loop-number
invariant-loop-number l = l.files.items ≡ replicate l._number None
