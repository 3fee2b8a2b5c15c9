-- The fields of an object. A name or a word is one of this crate's own, and has no sign that JSON wants
-- escaped; digits have none.
use Rattle.std.specs.Prelude.{ℕ, List, ◌++◌, codes, decimal}
use Rattle.hex.specs.Hex.{encode_lower}

-- the beginning of an object, with its first field: a number
unfoldable pub first_number : List ℕ → ℕ → List ℕ
first_number name n = codes "{\"" ++ name ++ codes "\":" ++ decimal n

-- a field behind another: a number, and a word
unfoldable pub number_field : List ℕ → ℕ → List ℕ
number_field name n = codes ",\"" ++ name ++ codes "\":" ++ decimal n

unfoldable pub word_field : List ℕ → List ℕ → List ℕ
word_field name word = codes ",\"" ++ name ++ codes "\":\"" ++ word ++ codes "\""

-- bytes, as hexadecimal digits of lower case
unfoldable pub bytes_field : List ℕ → List ℕ
bytes_field bytes = codes ",\"bytes\":\"" ++ encode_lower bytes ++ codes "\""
