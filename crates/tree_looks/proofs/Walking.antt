-- Names that are walked one after the other.
use Rattle.std.proofs.Common.{◌≡◌, ◌∙◌, ℕ, suc, ◌+◌, ◌<◌, ◌≤◌, List, length, get_or, drop, drop-cons, add-one, Ok, Err, ap, sym}
use Rattle.std.proofs.Math.ListN.{drop_of_length-le}
use Rattle.model.specs.Files.{Files}
use Rattle.directories.specs.Trees.{root}
use Rattle.directories.specs.Walks.{and_on, stepped, walked}
use Rattle.directories.specs.declared.refusal.Refusal.{Refusal}

module _ (files : Files) (number : ℕ) (names : List (List ℕ)) (i : ℕ) where
  next_is : (d : List ℕ) → i < length names → walked files number (drop i names) ≡ and_on (stepped files number (get_or names i d)) (λ n. walked files n (drop (suc i) names))
  next_is d low = ap (walked files number) (drop-cons names i d low)

  pub walks_on : (next : ℕ) (d : List ℕ) → i < length names → stepped files number (get_or names i d) ≡ Ok next → walked files number (drop i names) ≡ walked files root names → walked files next (drop (i + 1) names) ≡ walked files root names
  walks_on next d low step before =
      ap (λ (n : ℕ). walked files next (drop n names)) (add-one i)
      ∙ sym (ap (λ r. and_on r (λ n. walked files n (drop (suc i) names))) step)
      ∙ sym (next_is d low) ∙ before

  pub walks_no_more : (cause : Refusal) (d : List ℕ) → i < length names → stepped files number (get_or names i d) ≡ Err cause → walked files number (drop i names) ≡ walked files root names → Err cause ≡ walked files root names
  walks_no_more cause d low step before =
      sym (ap (λ r. and_on r (λ n. walked files n (drop (suc i) names))) step) ∙ sym (next_is d low) ∙ before

  pub walked_all : length names ≤ i → walked files number (drop i names) ≡ walked files root names → Ok number ≡ walked files root names
  walked_all past before = sym (ap (walked files number) (drop_of_length-le names past)) ∙ before
