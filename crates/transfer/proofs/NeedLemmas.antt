-- How many blocks are free, block by block.
use Rattle.std.proofs.Common.{◌≡◌, ℕ, ◌+◌, ◌-◌, ◌<◌, Bool, cond, count_by, arith}
use Rattle.std.specs.List.{range_with_len}
use Rattle.std.proofs.lemmas.List.Sums.{sum_by-cons}
use Rattle.model.specs.Lemmas.Verdict.{range_more}

count_next : (p : ℕ → Bool) (b end : ℕ) → b < end →
    count_by p (range_with_len b (end - b)) ≡ cond (p b) 1 0 + count_by p (range_with_len (b + 1) (end - (b + 1)))
count_next p b end h =
    rw (range_more b end h) (sum_by-cons (λ (x : ℕ). cond (p x) 1 0) b (range_with_len (b + 1) (end - (b + 1))))

-- those that were counted and those that are left are all, once one more was counted or not
pub counted_next : (p : ℕ → Bool) (b end count new all : ℕ) → b < end →
    count + count_by p (range_with_len b (end - b)) ≡ all → new ≡ count + cond (p b) 1 0 →
    new + count_by p (range_with_len (b + 1) (end - (b + 1))) ≡ all
counted_next p b end count new all h before here = omega (arith, count_next p b end h)
