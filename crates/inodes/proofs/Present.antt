-- The first number of a list that is there lies before the end.
use Rattle.std.proofs.Common.{◌≡◌, ℕ, ◌-◌, ◌<◌, not, eqb, List, get_or, arith, Some}
use Rattle.inodes.specs.Common.{present_from}
use Rattle.inodes.specs.Lemmas.Looks.{find-range}

pub present_before : (numbers : List ℕ) (from end k : ℕ) → present_from numbers from end ≡ Some k → k < end
present_before numbers from end k found =
    let at = find-range (λ (j : ℕ). not (eqb (get_or numbers j 0) 0)) from (end - from) k found in
    omega (arith, at.0, at.1)
