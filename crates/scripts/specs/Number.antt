-- Numbers, as scripts and schedules write them.
use Rattle.std.specs.Prelude.{ℕ, List, [], ◌∷◌, Option, Some, None, Bool, false, ◌==◌, ◌&&◌, ◌||◌, not, length, nat_le, if◌then◌else◌}
use Rattle.std.specs.Char.{is_ascii_digit}
use Rattle.std.specs.List.{list_all}
use Rattle.std.specs.Str.Parse.{digits_value}

-- decimal digits, of which the first of several is no zero
abbrev pub is_numeral : List ℕ → Bool
is_numeral [] = false
is_numeral (first ∷ digits) =
    list_all is_ascii_digit (first ∷ digits) && ((length digits == 0) || not (first == 48))

-- the number that a text writes
unfoldable pub number_of : List ℕ → Option ℕ
number_of text =
    if is_numeral text && nat_le (digits_value 10 text) 4294967295
    then Some (digits_value 10 text) else None

abbrev pub if_at_most : ℕ → Option ℕ → Option ℕ
if_at_most most (Some value) = if nat_le value most then Some value else None
if_at_most most None = None

-- the number that a text writes, if it is at most `most`
abbrev pub number_up_to : ℕ → List ℕ → Option ℕ
number_up_to most text = if_at_most most (number_of text)
