-- Commands of lines, which a program does one after the other.
use Rattle.std.specs.Prelude.{◌≡◌, ℕ, List, [], ◌∷◌, ◌++◌, Option}

-- each was done; `Done` says what the command of some words prints where it is done
abbrev pub AreDone : (List (List ℕ) → Option (List ℕ) → Option (List ℕ) → Type 0)
    → List (List (List ℕ)) → Option (List ℕ) → Option (List ℕ) → Type 0
AreDone Done [] old new = new ≡ old
AreDone Done (words ∷ rest) old new =
    (mid : Option (List ℕ)) × Done words old mid × AreDone Done rest mid new

-- They were done up to one that was not, and none after it was begun. `Undone` says what that
-- prints; its fact, that nothing was printed.
pub record StopsAmong {O : Type 0} (Done : List (List ℕ) → Option (List ℕ) → Option (List ℕ) → Type 0)
    (Undone : List (List ℕ) → Option (List ℕ) → Option (List ℕ) → Type 0 → Type 0)
    (contents : O → Option (List ℕ)) (lines : List (List (List ℕ))) (old new : O) : Type 0 where
  pub before : List (List (List ℕ))
  pub words : List (List ℕ)
  pub after : List (List (List ℕ))
  pub mid : O
  pub split : lines ≡ before ++ words ∷ after
  pub done : AreDone Done before (contents old) (contents mid)
  pub fails : Undone words (contents mid) (contents new) (new ≡ mid)
