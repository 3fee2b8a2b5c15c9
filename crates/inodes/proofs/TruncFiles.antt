-- The claims of tasks, with another one of one number.
use Rattle.std.proofs.Common.{◌≡◌, ◌≢◌, ℕ, cond, eqb, refl, sym, ◌∙◌, ap, ⊎_elim, Option, Some}
use Rattle.inodes.specs.Common.{cases_eq, Claim, Claims, cond-false, cond-true, eq-eqb, Files, FitsHeld, frees, Held, held_alike, Image, IsClaimedNow, IsHeldIn, ne_eqb}

-- the claims with another one of number i
abbrev pub with_claim : Claims → ℕ → Option Claim → Claims
with_claim claims i claim j = cond (eqb j i) claim (claims j)

pub with_claim_is : (claims : Claims) (i : ℕ) (claim : Option Claim) → IsClaimedNow claims i claim (with_claim claims i claim)
with_claim_is claims i claim = record {
  own = cond-true (eqb i i) claim (claims i) (eq-eqb i i refl);
  others = λ j apart. cond-false (eqb j i) claim (claims j) (ne_eqb j i apart);
}

-- the same claim of number i
pub same_claims : (claims new : Claims) (i : ℕ) (claim : Option Claim) → claims i ≡ claim → IsClaimedNow claims i claim new → (j : ℕ) → new j ≡ claims j
same_claims claims new i claim was now j = ⊎_elim
    (λ (here : j ≡ i). ap new here ∙ now.own ∙ sym was ∙ ap claims (sym here))
    (λ (apart : j ≢ i). now.others j apart)
    (cases_eq j i)

pub fits_still : (files : Files) (x : Image) (claims new : Claims) (i : ℕ) (h : Held) → IsHeldIn files x claims i (frees h) → IsClaimedNow claims i (Some (frees h)) new → FitsHeld files x new
fits_still files x claims new i h g now = held_alike files x claims new (same_claims claims new i (Some (frees h)) g.holds now) g.fits
