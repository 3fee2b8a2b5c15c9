-- A disk of the size of a plan.
use Rattle.std.proofs.Common.{◌≡◌, ℕ, Bool, true, false, ◌&&◌, eqb, sym}
use Rattle.std.proofs.lemmas.Bool.{eqb-false}

-- a size that fits is no other than the disk's
pub not_off : (fits : Bool) (size long : ℕ) → fits ≡ true → long ≡ size
    → (fits && eqb size long) ≡ false → ⊥
not_off true size long fit same off = eqb-false size long off (sym same)
not_off false size long fit same off = absurd (cc fit)
