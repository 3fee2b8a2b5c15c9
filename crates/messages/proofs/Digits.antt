-- Hexadecimal digits of bytes, piece by piece.
use Rattle.std.proofs.Common.{◌≡◌, ℕ, zero, suc, ◌+◌, ◌/◌, ◌%◌, ◌<◌, ◌≤◌, ◌==◌, ◌&&◌, Bool, List, [], ◌∷◌, ◌++◌, map, slice_index, true, inl, inr, refl, sym, ap, ◌∙◌, arith, nat_lt}
use Rattle.std.proofs.lemmas.Bool.{and_parts, cases_lt, eqb-true}
use Rattle.std.proofs.lemmas.Bool.Decides.{nat_tests}
use Rattle.std.specs.Prelude.{flat_map, if◌then◌else◌}
use Rattle.std.proofs.lemmas.List.Sums.{AllPass-from_list_all}
use Rattle.std.proofs.lemmas.Str.{IsUtf8-from_ascii}
use Rattle.std.proofs.lemmas.Str.Ascii.{IsAscii-from_all}
use Rattle.std.specs.List.{list_all}
use Rattle.std.specs.Str.{IsAscii, IsUtf8}
use Rattle.hex.specs.Hex.{encode_lower, encode_with, lower_digits}
use Rattle.hex.proofs.HexLemmas.{IsAscii-encode_with}
use Rattle.messages.specs.Digits.{pair_of}

-- the digits of two pieces are those of the first, and then those of the second
pub encode_with-append : (t xs ys : List ℕ) → encode_with t (xs ++ ys) ≡ encode_with t xs ++ encode_with t ys
unfolding encode_with
encode_with-append t [] ys = refl
encode_with-append t (x ∷ xs) ys = ap (λ rest. slice_index t (x / 16) ∷ slice_index t (x % 16) ∷ rest) (encode_with-append t xs ys)

-- no byte has no digits
pub encode_with-nil : (t : List ℕ) → encode_with t [] ≡ []
unfolding encode_with
encode_with-nil t = refl

-- bytes below 128 are ASCII
ascii_from_test : (xs : List ℕ) → list_all (λ byte. nat_lt byte 128) xs ≡ true → IsAscii xs
ascii_from_test xs test =
    IsAscii-from_all xs (λ k other inside. let passed = AllPass-from_list_all (λ byte. nat_lt byte 128) xs test k other inside in grind (arith, nat_tests))

-- digits are text
pub IsUtf8-encode_lower : (xs : List ℕ) → IsUtf8 (encode_lower xs)
IsUtf8-encode_lower xs =
    IsUtf8-from_ascii (encode_lower xs) (IsAscii-encode_with lower_digits xs (ascii_from_test lower_digits refl))

-- the pairs of digits of bytes, joined
pub pairs_joined : (xs : List ℕ) → flat_map (λ pair. pair) (map pair_of xs) ≡ encode_lower xs
unfolding encode_with
pairs_joined [] = refl
pairs_joined (x ∷ xs) = ap (λ rest. slice_index lower_digits (x / 16) ∷ slice_index lower_digits (x % 16) ∷ rest) (pairs_joined xs)

-- two functions agree below n, which computes
abbrev agree : (ℕ → ℕ) → (ℕ → ℕ) → ℕ → Bool
agree f g zero = true
agree f g (suc n) = (f n == g n) && agree f g n

agree-at : (f g : ℕ → ℕ) (n k : ℕ) → agree f g n ≡ true → k < n → f k ≡ g k
agree-at f g zero k h low = absurd (omega arith)
agree-at f g (suc n) k h low =
    let parts = and_parts (f n == g n) (agree f g n) h in
    elim (cases_lt k n) [
      | inl below ↦ agree-at f g n k parts.1 below
      | inr top ↦
          let e : k ≡ n = omega arith in
          rw e (eqb-true (f n) (g n) parts.0)
    ]

-- the digit of a number below ten, and of one below sixteen
pub figure : (value : ℕ) → value < 10 → 48 + value ≡ slice_index lower_digits value
figure value low = agree-at (λ v. 48 + v) (slice_index lower_digits) 10 value refl low

abbrev letter_or_figure : ℕ → ℕ
letter_or_figure v = if nat_lt v 10 then 48 + v else 87 + v

pub letter : (value : ℕ) → value < 16 → 10 ≤ value → 87 + value ≡ slice_index lower_digits value
letter value low high =
    let same : letter_or_figure value ≡ slice_index lower_digits value = agree-at letter_or_figure (slice_index lower_digits) 16 value refl low in
    let here : letter_or_figure value ≡ 87 + value = grind (arith, nat_tests) in
    sym here ∙ same
