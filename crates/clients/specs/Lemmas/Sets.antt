-- One element of a list is set, and what is true of each stays so.
use Rattle.std.proofs.Common.{◌≡◌, ◌∙◌, ℕ, List, set, Some, sym, ap, subst, ⊎_elim}
use Rattle.std.specs.Prelude.{slice_get}
use Rattle.std.proofs.lemmas.Bool.Decides.{eqb_tells}
use Rattle.std.proofs.lemmas.Option.{slice_get_within, same_Some}
use Rattle.ports.specs.Lemmas.Lanes.{slice_get-set_here, slice_get-set_other}

module _ {A : Type 0} (P : ℕ → A → Type 0) (xs : List A) (i : ℕ) (x d : A)
    (here : slice_get xs i ≡ Some x) (new : P i d)
    (each : (p : ℕ) (e : A) → slice_get xs p ≡ Some e → P p e) where
  itself : (p : ℕ) (e : A) → i ≡ p → slice_get (set xs i d) p ≡ Some e → P p e
  itself p e eq at =
      let low = slice_get_within xs i x here in
      let is : Some d ≡ Some e = sym (slice_get-set_here xs i d low)
      ∙ ap (slice_get (set xs i d)) eq ∙ at in
      subst (λ (q : ℕ). P q e) eq (subst (P i) (same_Some d e is) new)

  pub each_set : (p : ℕ) (e : A) → slice_get (set xs i d) p ≡ Some e → P p e
  each_set p e at = ⊎_elim (λ eq. itself p e eq.1 at)
      (λ other. each p e (sym (slice_get-set_other xs i p d (λ q. other.1 (sym q))) ∙ at))
      (eqb_tells i p)
