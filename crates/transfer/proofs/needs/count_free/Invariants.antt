use Rattle.std.proofs.Common.{◌≡◌, ◌≤◌, ◌+◌, ◌-◌, ℕ, not, count_by}
use Rattle.std.specs.List.{range_with_len}
use Rattle.model.specs.Fields.{has_bit}
use Rattle.transfer.proofs.needs.count_free.Given as goal

-- the free ones so far, and those that are left
abbrev pub invariant-loop-b : goal.invariant-loop-b
invariant-loop-b l = record {
  few : l.free ≤ l.b;
  counted : l.free + count_by (λ (b : ℕ). not (has_bit l.bitmap b)) (range_with_len l.b (l.size - l.b))
      ≡ count_by (λ (b : ℕ). not (has_bit l.bitmap b)) (range_with_len 0 l.size);
}
