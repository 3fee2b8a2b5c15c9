-- What is told of bytes that a refusal is about.
use Rattle.std.specs.Prelude.{ℕ, ◌&&◌, nat_le, nat_lt, if◌then◌else◌, List, map, take}

-- a byte of ASCII's that can be seen, or a question mark in the place of another
abbrev pub visible_of : ℕ → ℕ
visible_of byte = if nat_le 32 byte && nat_lt byte 127 then byte else 63

-- the first 60 bytes so
abbrev pub shown_of : List ℕ → List ℕ
shown_of bytes = map visible_of (take 60 bytes)
