use Rattle.std.proofs.Common.{◌≡◌, ◌<◌, ◌≤◌, ◌-◌, ℕ, get_or}
use Rattle.directories.proofs.tallying.turn_over.Given as goal

abbrev pub invariant-loop-n : goal.invariant-loop-n
invariant-loop-n l = record {
  turned : (k : ℕ) → k < l.n-index → get_or l.left k 0 ≡ 32767 - get_or l.initial.left k 0;
  others : (k : ℕ) → l.n-index ≤ k → get_or l.left k 0 ≡ get_or l.initial.left k 0;
}
