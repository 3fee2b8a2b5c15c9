use Rattle.std.proofs.Common.{◌≡◌, ℕ, ◌<◌, false, get_or}
use Rattle.second_lines.specs.Addresses.{is_wrong}
use Rattle.second_lines.proofs.addresses.wrong_place.Given as goal

abbrev pub invariant-loop-k : goal.invariant-loop-k
invariant-loop-k l = (j : ℕ) → j < l.k → is_wrong l.wanted j (get_or l.addresses j 0) ≡ false
