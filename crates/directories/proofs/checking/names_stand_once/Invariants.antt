use Rattle.std.proofs.Common.{ℕ, ◌<◌}
use Rattle.directories.specs.Checks.{IsFirst}
use Rattle.directories.proofs.checking.names_stand_once.Given as goal

abbrev pub invariant-loop-place : goal.invariant-loop-place
invariant-loop-place l = (k : ℕ) → k < l.place → IsFirst l.entries k
