use Rattle.std.proofs.Common.{◌≡◌, ◌<◌, ℕ, length, take, slice_index}
use Rattle.inspect.specs.Signs.{owner_among, owner_sign}
use Rattle.inspect.proofs.signs.sign_owned.Given as goal

abbrev pub invariant-loop-block : goal.invariant-loop-block
invariant-loop-block l = record {
  signed : (b : ℕ) → b < length l.signs → slice_index l.signs b ≡ owner_sign (owner_among (take l.block-index l.owned) b);
}
