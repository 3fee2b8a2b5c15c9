-- Paths as a shell reads them, with no byte that a terminal obeys.
use Rattle.std.specs.Prelude.{ℕ, ◌≤◌, ◌<◌, ◌==◌, ◌+◌, ◌/◌, ◌%◌, ◌&&◌, ◌||◌, nat_le, nat_lt, not, false, Bool, if◌then◌else◌, List, [], ◌∷◌, ◌++◌, codes}
use Rattle.std.specs.List.{list_any}

-- a byte of ASCII's that can be seen
abbrev pub is_seen : ℕ → Bool
is_seen byte = nat_le 32 byte && nat_lt byte 127

abbrev pub IsSeen : ℕ → Type 0
IsSeen byte = (32 ≤ byte) × (byte < 127)

-- one that a shell reads as it is: a letter, a digit, or one of nine signs
abbrev pub is_bare : ℕ → Bool
is_bare byte = (nat_le 97 byte && nat_le byte 122) || (nat_le 65 byte && nat_le byte 90) || (nat_le 48 byte && nat_le byte 57) || list_any (λ sign. sign == byte) (codes "_./-+,:@%")

-- the last of a number's eight digits
abbrev pub digit_of : ℕ → ℕ
digit_of number = 48 + number % 8

-- a byte by its number
abbrev pub code_of : ℕ → List ℕ
code_of byte = 92 ∷ digit_of (byte / 64) ∷ digit_of (byte / 8) ∷ digit_of byte ∷ []

-- what is added where it is needed
abbrev pub mark_of : Bool → List ℕ → List ℕ
mark_of needed mark = if needed then mark else []

-- what stands for a byte behind one that is told by its number, or not
abbrev pub piece_of : Bool → ℕ → List ℕ
piece_of coded byte =
    if byte == 39 then codes "'\\''"
    else if is_seen byte then mark_of coded (codes "''") ++ byte ∷ []
    else mark_of (not coded) (codes "'$'") ++ code_of byte

-- and for bytes, with the closing quote
abbrev pub rest_of : Bool → List ℕ → List ℕ
rest_of coded [] = 39 ∷ []
rest_of coded (byte ∷ rest) = piece_of coded byte ++ rest_of (not (is_seen byte)) rest

-- a path as it is, or in quotes
abbrev pub quoted_of : List ℕ → List ℕ
quoted_of [] = codes "''"
quoted_of path = if list_any (λ byte. not (is_bare byte)) path then 39 ∷ rest_of false path else path
