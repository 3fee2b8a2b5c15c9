-- Which of a list passes a test that what lies past its end fails; and that a place that passes one
-- so is not over.
use Rattle.std.proofs.Common.{◌≡◌, ℕ, zero, suc, Bool, true, false, List, [], ◌∷◌, get_or, refl, inl, inr, ◌⊎◌}
use Rattle.inodes.specs.Common.{both_ways, is_over, Stage}

-- one passes, or none does
abbrev pub Sought : {A : Type 0} → (A → Bool) → A → List A → Type 0
Sought test none xs =
    ((q : ℕ) × (test (get_or xs q none) ≡ true)) ⊎ ((q : ℕ) → test (get_or xs q none) ≡ false)

pub sought : {A : Type 0} (test : A → Bool) (none : A) (xs : List A) → test none ≡ false →
    Sought test none xs
sought test none [] fails = inr (λ q. fails)
sought test none (x ∷ xs) fails = by (test x) refl (sought test none xs fails)
  where
    each : test x ≡ false → ((q : ℕ) → test (get_or xs q none) ≡ false) →
        (q : ℕ) → test (get_or (x ∷ xs) q none) ≡ false
    each here rest zero = here
    each here rest (suc q) = rest q

    by : (b : Bool) → test x ≡ b → Sought test none xs → Sought test none (x ∷ xs)
    by true is rest = inl (0, is)
    by false is (inl found) = inl (suc found.0, found.1)
    by false is (inr rest) = inr (each is rest)

-- a task at a stage that passes a test is under way
pub passes_busy : (test : Stage → Bool) → test Stage.Nowhere ≡ false → (a : Stage) →
    test a ≡ true → is_over a ≡ false
passes_busy test fails Stage.Nowhere is = absurd (both_ways _ fails is)
passes_busy test fails (Stage.Creating m) is = refl
passes_busy test fails (Stage.Taking m) is = refl
passes_busy test fails (Stage.Reading k m) is = refl
passes_busy test fails (Stage.Delivering k) is = refl
passes_busy test fails (Stage.Truncating k m) is = refl
passes_busy test fails (Stage.Writing k m) is = refl
passes_busy test fails (Stage.Setting k d u) is = refl
passes_busy test fails (Stage.Leaving k) is = refl
