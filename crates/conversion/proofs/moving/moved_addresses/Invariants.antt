use Rattle.std.proofs.Common.{◌≡◌, ℕ, ◌<◌, get_or, length}
use Rattle.conversion.specs.Common.{moved}
use Rattle.conversion.proofs.moving.moved_addresses.Given as goal

abbrev pub invariant-loop-k : goal.invariant-loop-k
invariant-loop-k l = record {
  len : length l.all ≡ 13;
  filled : (k : ℕ) → k < l.k → get_or l.all k 0 ≡ moved l.from l.to (get_or l.addresses k 0);
}
