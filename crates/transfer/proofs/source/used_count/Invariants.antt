use Rattle.std.proofs.Common.{◌≡◌, ◌≤◌, ◌<◌, ℕ, get_or}
use Rattle.transfer.proofs.source.used_count.Given as goal

abbrev pub invariant-loop-k : goal.invariant-loop-k
invariant-loop-k l = record {
  few : l.used ≤ l.k;
  rest : (j : ℕ) → l.used ≤ j → j < l.k → get_or l.kinds j 0 ≡ 0;
}
