-- Hexadecimal digits of bytes, piece by piece.
use Rattle.std.proofs.Common.{◌≡◌, ℕ, ◌/◌, ◌%◌, List, [], ◌∷◌, ◌++◌, slice_index, refl, ap}
use Rattle.hex.specs.Hex.{encode_with}

-- the digits of two pieces are those of the first, and then those of the second
pub encode_with-append : (t xs ys : List ℕ) → encode_with t (xs ++ ys) ≡ encode_with t xs ++ encode_with t ys
unfolding encode_with
encode_with-append t [] ys = refl
encode_with-append t (x ∷ xs) ys = ap (λ rest. slice_index t (x / 16) ∷ slice_index t (x % 16) ∷ rest) (encode_with-append t xs ys)

-- no byte has no digits
pub encode_with-nil : (t : List ℕ) → encode_with t [] ≡ []
unfolding encode_with
encode_with-nil t = refl
