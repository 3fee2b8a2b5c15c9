use Rattle.std.proofs.Common.{◌≡◌, ◌⊎◌, ℕ, ◌+◌, ◌<◌, ◌≤◌, length, slice_index}
use Rattle.xvnames.proofs.making.last_part.Given as goal

-- the part behind the last slash so far
abbrev pub invariant-loop-i : goal.invariant-loop-i
invariant-loop-i l = record {
  within : l.from ≤ l.i;
  begins : (l.from ≡ 0) ⊎ ((k : ℕ) × (l.from ≡ k + 1) × (k < length l.path) × (slice_index l.path k ≡ 47));
  whole : (k : ℕ) → l.from ≤ k → k < l.i → slice_index l.path k ≡ 47 → ⊥;
}
