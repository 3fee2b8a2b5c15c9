-- The number that digits write, one after the other.
use Rattle.std.proofs.Common.{◌≡◌, ◌≢◌, ℕ, zero, suc, take, ◌+◌, ◌-◌, ◌*◌, ◌≤◌, ◌<◌, ◌^◌, true, nat_lt, List, [], ◌∷◌, length, get_or, Some, None, refl, subst, arith, rules, tests}
use Rattle.std.proofs.lemmas.Bool.Decides.{nat_tests}
use Rattle.std.proofs.lemmas.Int.Digits.{digits_value_more}
use Rattle.std.proofs.lemmas.Str.Parse.{digits_value-take-le}
use Rattle.std.specs.Char.{digit_value, is_ascii_digit}
use Rattle.std.specs.List.{list_all}
use Rattle.std.specs.Str.Parse.{digits_value}
use Rattle.scripts.specs.Number.{is_numeral, number_of}

abbrev AreDigits : List ℕ → Type 0
AreDigits text = list_all is_ascii_digit text ≡ true

-- a text of digits, not empty and with no zero in front of others, is a number
is_numeral-digits : (text : List ℕ) → AreDigits text → (1 < length text → get_or text 0 0 ≢ 48) → is_numeral text ≡ nat_lt 0 (length text)
is_numeral-digits [] digits first = refl
is_numeral-digits (x ∷ []) digits first = grind (arith, nat_tests)
is_numeral-digits (x ∷ y ∷ rest) digits first = let ne : x ≢ 48 = first (omega arith) in grind (arith, nat_tests)

-- one digit more
pub all_more : (text : List ℕ) (i : ℕ) → i < length text → AreDigits (take i text) → is_ascii_digit (get_or text i 0) ≡ true → AreDigits (take (i + 1) text)
all_more [] i within all digit = absurd (omega (arith, within))
all_more (x ∷ xs) zero within all digit = search (rules, tests)
all_more (x ∷ xs) (suc i) within all digit =
    let rest = all_more xs i (omega (arith, within)) (search (rules, tests)) digit in
    let one : suc (i + 1) ≡ suc i + 1 = omega arith in
    subst (λ (k : ℕ). AreDigits (take k (x ∷ xs))) one (search (rules, tests))

value_of : (c : ℕ) → is_ascii_digit c ≡ true → digit_value c ≡ c - 48
value_of c digit = grind (arith, nat_tests)

pub value_more : (text : List ℕ) (i : ℕ) → i < length text → is_ascii_digit (get_or text i 0) ≡ true → digits_value 10 (take i text) * 10 + (get_or text i 0 - 48) ≡ digits_value 10 (take (i + 1) text)
value_more text i within digit = let last = value_of (get_or text i 0) digit in let more = digits_value_more 10 text i within in omega (arith, last, more)

-- the first digits have a value that is too large
pub number_of-large : (text : List ℕ) (i : ℕ) → i < length text → is_ascii_digit (get_or text i 0) ≡ true → 2 ^ 32 ≤ digits_value 10 (take i text) * 10 + (get_or text i 0 - 48) → number_of text ≡ None
unfolding number_of
number_of-large text i within digit large =
    let grows = digits_value-take-le 10 text (i + 1) (omega arith) in
    let whole : 4294967295 < digits_value 10 text = omega (arith, large, value_more text i within digit, grows) in
    grind (arith, nat_tests)

pub number_of-digits : (text : List ℕ) → AreDigits text → 0 < length text → (1 < length text → get_or text 0 0 ≢ 48) → digits_value 10 text < 2 ^ 32 → number_of text ≡ Some (digits_value 10 text)
unfolding number_of
number_of-digits text digits some first small = rw (is_numeral-digits text digits first) (grind (arith, nat_tests))
