-- An address is 0 or there.
use Rattle.std.proofs.Common.{◌≡◌, ◌≢◌, ⊎_elim, sym, ℕ, refl}
use Rattle.blockmap.specs.Common.{cases_eq, eq-eqb, ne_eqb}
use Rattle.blockmap.specs.Bmap.{some_address}
use Rattle.blockmap.specs.Map.{address_or_zero}

pub address_or_zero_of : (a : ℕ) → address_or_zero (some_address a) ≡ a
address_or_zero_of a =
    ⊎_elim (λ (none : a ≡ 0). rw (eq-eqb a 0 none) (sym none)) (λ (some : a ≢ 0). rw (ne_eqb a 0 some) refl) (cases_eq a 0)
