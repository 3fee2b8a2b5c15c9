-- What `hex` decodes into one byte is the byte of two hexadecimal digits.
use Rattle.std.proofs.Common.{◌≡◌, ℕ, ◌+◌, ◌*◌, ◌/◌, ◌%◌, ◌≤◌, ◌==◌, Bool, true, false, cond, List, [], ◌∷◌, length, slice_index, Result, Ok, Err, Option, Some, None, option_map, option_and_then, refl, sym, ap, ◌∙◌, arith}
use Rattle.std.proofs.lemmas.Bool.Decides.{nat_tests}
use Rattle.std.specs.Result.{result_ok}
use Rattle.hex.specs.declared.error.FromHexError.{FromHexError}
use Rattle.hex.specs.declared.error.FromHexError.TheVariants.{OddLength, InvalidStringLength}
use Rattle.hex.specs.Hex.{decode_pairs, decode_sized, digit_or_error, hex_digit_value, ◌>>=◌}
use Rattle.scripts.specs.Field.{byte_of}

abbrev first_byte : Result (List ℕ) FromHexError → Option ℕ
first_byte r = option_map (λ bytes. slice_index bytes 0) (result_ok r)

-- the first byte of what a text decodes to, in room for one
abbrev one_byte : List ℕ → Option ℕ
one_byte text = first_byte (decode_sized text 1)

refused : (odd one : Bool) (r : Result (List ℕ) FromHexError) → (odd ≡ false → one ≡ false) → first_byte (cond odd (Err OddLength) (cond one r (Err InvalidStringLength))) ≡ None
refused true one r h = refl
refused false false r h = refl
refused false true r h = absurd (let e : true ≡ false = h refl in cc)

-- three digits and more are not one byte
not_one : (n : ℕ) → 3 ≤ n → (n % 2 == 1) ≡ false → (n / 2 == 1) ≡ false
not_one n h even = grind (arith, nat_tests)

two : (x y : ℕ) (a b : Option ℕ) → option_and_then (λ high. option_and_then (λ low. Some (high * 16 + low)) b) a ≡ first_byte ((digit_or_error x 0 a >>= (λ h. digit_or_error y 1 b >>= (λ l. Ok (h * 16 + l)))) >>= (λ byte. Ok (byte ∷ [])))
two x y (Some a) (Some b) = refl
two x y (Some a) None = refl
two x y None b = refl

byte_of-decode_sized : (text : List ℕ) → byte_of text ≡ one_byte text
unfolding byte_of decode_pairs
byte_of-decode_sized [] = refl
byte_of-decode_sized (x ∷ []) = refl
byte_of-decode_sized (x ∷ y ∷ []) = two x y (hex_digit_value x) (hex_digit_value y)
byte_of-decode_sized (x ∷ y ∷ z ∷ rest) = sym (refused _ _ _ (not_one (length (x ∷ y ∷ z ∷ rest)) (omega arith)))

pub byte_of-decoded : (text : List ℕ) (r : Result (List ℕ) FromHexError) (o : Option (List ℕ)) → r ≡ decode_sized text 1 → o ≡ result_ok r → option_map (λ bytes. slice_index bytes 0) o ≡ byte_of text
byte_of-decoded text r o decoded gave =
    let e = byte_of-decode_sized text in
    ap (option_map (λ bytes. slice_index bytes 0)) (gave ∙ ap result_ok decoded) ∙ sym e
