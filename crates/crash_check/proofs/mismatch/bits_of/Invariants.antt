use Rattle.std.proofs.Common.{◌≡◌, drop, ◌-◌, length}
use Rattle.crash_check.specs.Mismatches.{bits_value}
use Rattle.crash_check.proofs.mismatch.bits_of.Given as goal

abbrev pub invariant-loop-done : goal.invariant-loop-done
invariant-loop-done l = l.bits ≡ bits_value (drop (length l.keep - l.done) l.keep)
