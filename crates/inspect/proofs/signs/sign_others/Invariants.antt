use Rattle.std.proofs.Common.{◌≡◌, ◌<◌, ◌≤◌, ℕ, slice_index}
use Rattle.inspect.specs.Signs.{sign_among}
use Rattle.inspect.proofs.signs.sign_others.Given as goal

abbrev pub invariant-loop-b : goal.invariant-loop-b
invariant-loop-b l = record {
  signed : (b : ℕ) → b < l.b → slice_index l.signs b ≡ sign_among l.image.header.homes.items l.image.sup b (slice_index l.initial.signs b);
  others : (b : ℕ) → l.b ≤ b → slice_index l.signs b ≡ slice_index l.initial.signs b;
}
