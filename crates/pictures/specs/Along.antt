-- What is drawn along the steps of a run, where each is drawn by what those before it left.
use Rattle.std.specs.Prelude.{ℕ, List, [], ◌∷◌, ◌++◌}

-- what is left behind the steps
abbrev pub left_along : {S M : Type 0} → (S → M → S) → S → List M → S
left_along next s [] = s
left_along next s (m ∷ ms) = left_along next (next s m) ms

-- the pieces of the steps
abbrev pub pieces_along : {S M : Type 0} → (S → M → List ℕ) → (S → M → S) → S → List M → List ℕ
pieces_along piece next s [] = []
pieces_along piece next s (m ∷ ms) = piece s m ++ pieces_along piece next (next s m) ms
