-- A list in pieces.
use Rattle.std.proofs.Common.{◌≡◌, ◌∙◌, ℕ, ◌+◌, ◌-◌, ◌*◌, ◌<◌, ◌≤◌, List, ◌++◌, length, take, drop, sym, ap, ⊎_elim, arith}
use Rattle.std.specs.Int.{div_ceil}
use Rattle.std.specs.Prelude.{min}
use Rattle.std.proofs.Math.Nat.{add-mul, mul-le-mul_right}
use Rattle.std.proofs.Math.Seq.{take-add}
use Rattle.std.proofs.lemmas.Bool.{cases_lt}
use Rattle.std.proofs.lemmas.Grind.{div_ceil_times}
use Rattle.std.proofs.lemmas.List.{take_all}

-- each piece begins inside
pub piece_inside : (len n k : ℕ) → 0 < n → k < div_ceil len n → k * n < len
piece_inside len n k some low =
    let all = div_ceil_times len n some in
    let next : (k + 1) * n ≤ div_ceil len n * n = mul-le-mul_right n (omega (arith, low)) in
    omega (arith, all.1, next, add-mul k 1 n)

-- n elements more, or those that are left
pub piece_joined : (xs : List ℕ) (from to n : ℕ) → from ≤ length xs → to ≡ min (from + n) (length xs) →
    take from xs ++ take (to - from) (drop from xs) ≡ take (from + n) xs
piece_joined xs from to n within is =
    let whole : from + (to - from) ≡ to = omega (arith, is, within) in
    sym (take-add from (to - from) xs) ∙ ap (λ (k : ℕ). take k xs) whole
    ∙ ⊎_elim
    (λ (more : from + n < length xs). let e : to ≡ from + n = omega (arith, is, more) in ap (λ (k : ℕ). take k xs) e)
    (λ (last : length xs ≤ from + n). take_all to xs (omega (arith, is, last)) ∙ sym (take_all (from + n) xs last))
    (cases_lt (from + n) (length xs))
