-- Fields of hexadecimal digits, and what reading a part of a line tells.
use Rattle.std.specs.Prelude.{◌≡◌, ℕ, ◌+◌, ◌*◌, List, [], ◌∷◌, length, Option, Some, None, Result, Ok, Err, ◌&&◌, nat_le, option_and_then, codes, if◌then◌else◌}
use Rattle.std.specs.Str.{bytes_eq}
use Rattle.hex.specs.declared.error.FromHexError.{FromHexError}
use Rattle.hex.specs.Hex.{decode_of, hex_digit_value}
use Rattle.scripts.specs.declared.field.LineFault.{LineFault}
use Rattle.scripts.specs.declared.field.LineFault.TheVariants.{Bad, NoMemory}

-- what was read is what the text says, want of memory aside
abbrev pub Tells : {T : Type 0} → Result T LineFault → Option T → Type 0
Tells (Ok value) told = told ≡ Some value
Tells (Err Bad) told = told ≡ None
Tells (Err NoMemory) told = Unit {0}

-- the ? of an option
infixl 10 ◌>>=◌
abbrev pub ◌>>=◌ : {A B : Type 0} → Option A → (A → Option B) → Option B
o >>= f = option_and_then f o

abbrev pub decoded : Result (List ℕ) FromHexError → Option (List ℕ)
decoded (Ok bytes) = Some bytes
decoded (Err _) = None

-- the bytes of 2 to 8192 hexadecimal digits, or none at `-`
unfoldable pub content_of : List ℕ → Option (List ℕ)
content_of text =
    if bytes_eq text (codes "-") then Some []
    else if nat_le 2 (length text) && nat_le (length text) 8192 then decoded (decode_of text)
    else None

-- the byte of two hexadecimal digits
unfoldable pub byte_of : List ℕ → Option ℕ
byte_of (first ∷ second ∷ []) = do
  high ← hex_digit_value first
  low ← hex_digit_value second
  Some (high * 16 + low)
byte_of _ = None
