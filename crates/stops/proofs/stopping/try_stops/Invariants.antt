use Rattle.std.proofs.Common.{◌≡◌, ℕ, ◌<◌}
use Rattle.stops.specs.Trials.{Passes, tried_writes}
use Rattle.stops.proofs.stopping.try_stops.Given as goal

-- those so far passed, and were told
abbrev pub invariant-loop-before : goal.invariant-loop-before
invariant-loop-before g l = record {
  passed : (before : ℕ) → before < l.before → Passes l.tasks l.processes l.words before;
  told : l.tried.items ≡ tried_writes l.before;
}
