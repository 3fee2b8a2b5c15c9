-- What a writer that colours holds and writes.
use Rattle.std.specs.Prelude.{ℕ, ◌+◌, ◌==◌, ◌&&◌, ◌||◌, not, Bool, false, nat_le, nat_lt, if◌then◌else◌, List, [], ◌∷◌, Option, None}
use Rattle.colours.specs.declared.painting.Place.{Place}
use Rattle.colours.specs.declared.painting.Place.TheVariants.{Row, Text}
use Rattle.colours.specs.declared.painting.Style.{Style}
use Rattle.colours.specs.declared.painting.Style.TheVariants.{Plain}

-- where nothing is coloured, the bytes of the writer behind it; else they aren't told
abbrev pub held : {W : Type 0} → (W → Option (List ℕ)) → Style → W → Option (List ℕ)
held contents Plain out = contents out
held contents style out = None

-- the digits of a sign's weight and colour: a home of the log bold red, data green, log bold yellow,
-- addresses magenta, boot block and superblock bold magenta, inodes cyan, bitmap bold cyan, all else faint
abbrev pub tint_of : ℕ → ℕ × ℕ
tint_of sign =
    if sign == 42 then (49, 49)
    else if nat_le 48 sign && nat_le sign 57 then (48, 50)
    else if sign == 108 then (49, 51)
    else if sign == 97 then (48, 53)
    else if sign == 98 || sign == 115 then (49, 53)
    else if sign == 105 then (48, 54)
    else if sign == 109 then (49, 54)
    else (50, 55)

-- a sign in its colour
abbrev pub coloured : ℕ → List ℕ
coloured sign = 27 ∷ 91 ∷ (tint_of sign).0 ∷ 59 ∷ 51 ∷ (tint_of sign).1 ∷ 109 ∷ sign ∷ 27 ∷ 91 ∷ 48 ∷ 109 ∷ []

-- a row may begin with it: a blank, or a digit
abbrev pub is_of_label : ℕ → Bool
is_of_label byte = byte == 32 || (nat_le 48 byte && nat_le byte 57)

-- where the byte behind one comes: five columns of a row have a block's number
abbrev pub next_place : Place → ℕ → Place
next_place Text byte = if byte == 10 then Row 0 else Text
next_place (Row column) byte =
    if byte == 10 then Row 0
    else if column == 0 && not (is_of_label byte) then Text
    else if nat_lt column 5 then Row (column + 1) else Row column

-- and behind the first of some
abbrev pub place_behind : Place → List ℕ → Place
place_behind place [] = place
place_behind place (byte ∷ rest) = next_place place byte

-- a sign stands there
abbrev pub has_sign : Place → Bool
has_sign Text = false
has_sign (Row column) = nat_le 5 column

-- a sign in its colour, and all else, as line feeds, as it is
abbrev pub painted : Place → ℕ → List ℕ
painted place sign = if has_sign place && not (sign == 10) then coloured sign else sign ∷ []
