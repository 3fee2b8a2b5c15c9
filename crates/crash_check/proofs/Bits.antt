-- Truth values as the bits of a number.
use Rattle.std.proofs.Common.{◌<◌, ◌≤◌, ◌+◌, ◌*◌, ◌^◌, suc, Bool, true, false, List, [], ◌∷◌, length, arith, lit<}
use Rattle.std.proofs.Math.Nat.{pow-suc, pow-le-pow_right}
use Rattle.crash_check.specs.Mismatches.{bits_value}

-- it has no more bits than there are
pub bits_below : (keep : List Bool) → bits_value keep < 2 ^ length keep
bits_below [] = lit< tt
bits_below (true ∷ rest) = omega (arith, bits_below rest, pow-suc 2 (length rest))
bits_below (false ∷ rest) = omega (arith, bits_below rest, pow-suc 2 (length rest))

-- there is room for one more
pub one_more_bit : (keep : List Bool) → length keep < 64 → bits_value keep * 2 + 1 < 2 ^ 64
one_more_bit keep few =
    let most : 2 ^ (suc (length keep)) ≤ 2 ^ 64 = pow-le-pow_right (lit< tt) few in
    omega (arith, bits_below keep, pow-suc 2 (length keep), most)
