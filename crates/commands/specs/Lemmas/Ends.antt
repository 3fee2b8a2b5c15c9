-- How a command ended, by its exit status.
use Rattle.std.proofs.Common.{◌≡◌, ◌≢◌, ℕ, zero, suc, List, Option, refl, inl, inr, arith}
use Rattle.std.specs.Prelude.{◌≤◌}
use Rattle.cli.specs.Asking.{Wording}
use Rattle.cli.specs.declared.explanation.Explanation.{Explanation}
use Rattle.commands.specs.Words.{IsMisused, IsNotDone}

-- one that ended with 1 or 2 was not done
pub not_done : {Q : Type 0} (wording : Wording Q)
    (Refused : List (List ℕ) → Option (List ℕ) → Option (List ℕ) → Type 0 → Type 0)
    (words : List (List ℕ)) (old new : Option (List ℕ)) (none : Type 0) (status : ℕ)
    → status ≤ 2 → status ≢ 0 → (status ≡ 1 → Refused words old new none)
    → (status ≡ 2 → (e : Explanation) × IsMisused wording words none e)
    → IsNotDone wording Refused words old new none
not_done wording Refused words old new none zero few other refused wrong = absurd (other refl)
not_done wording Refused words old new none (suc zero) few other refused wrong = inl (refused refl)
not_done wording Refused words old new none (suc (suc zero)) few other refused wrong =
    inr (wrong refl)
not_done wording Refused words old new none (suc (suc (suc n))) few other refused wrong =
    absurd (omega (arith, few))
