-- What is told of files as JSON.
use Rattle.std.specs.Prelude.{ℕ, ◌==◌, ◌&&◌, nat_le, not, if◌then◌else◌, Bool, true, false, List, [], ◌∷◌, ◌++◌, codes, drop, length, Option}
use Rattle.std.specs.List.{flat_map}
use Rattle.hex.specs.Hex.{encode_lower}
use Rattle.model.specs.declared.types.image.File.{File}
use Rattle.directories.specs.Trees.{bytes_of, kind_of, links_of}
use Rattle.json_lines.specs.Fields.{first_number, number_field}

-- ---- strings of bytes, which need be no text

-- a byte that stands for itself: a printable sign of ASCII, but no quote and no backslash
abbrev pub is_plain : ℕ → Bool
is_plain byte =
    nat_le 32 byte && nat_le byte 126 && not (byte == 34) && not (byte == 92)

-- a byte in a string: any other one is the character of that number, by four digits
abbrev pub byte_text : ℕ → List ℕ
byte_text byte =
    if is_plain byte then byte ∷ [] else codes "\\u00" ++ encode_lower (byte ∷ [])

-- THE STRING of these bytes
unfoldable pub string_text : List ℕ → List ℕ
string_text bytes = codes "\"" ++ flat_map byte_text bytes ++ codes "\""

-- ---- objects

-- the beginning of one, with its first field: a string
unfoldable pub first_string : List ℕ → List ℕ → List ℕ
first_string name bytes = codes "{\"" ++ name ++ codes "\":" ++ string_text bytes

-- what is told of a file behind its number: its type, its count of links, and how many bytes it has
unfoldable pub file_fields : Option File → List ℕ
file_fields file =
    number_field (codes "type") (kind_of file) ++ number_field (codes "links") (links_of file)
    ++ number_field (codes "size") (length (bytes_of file)) ++ codes "}"

-- the object of a file by its number
unfoldable pub stat_object : Option File → ℕ → List ℕ
stat_object file number = first_number (codes "number") number ++ file_fields file

-- that of a file by its name or by its path
unfoldable pub named_object : List ℕ → List ℕ → Option File → ℕ → List ℕ
named_object key name file number =
    first_string key name ++ number_field (codes "number") number ++ file_fields file

-- that of a file's count of links, and of how many names lead to it
unfoldable pub count_object : List ℕ → ℕ → ℕ → ℕ → List ℕ
count_object path number links names =
    first_string (codes "path") path ++ number_field (codes "number") number
    ++ number_field (codes "links") links ++ number_field (codes "names") names ++ codes "}"

-- ---- arrays

-- a value behind a comma
abbrev pub element : List ℕ → List ℕ
element value = codes "," ++ value

-- THE ARRAY of elements that stand each behind a comma: the first comma is none, with a line feed
abbrev pub array_of : List ℕ → List ℕ
array_of elements = codes "[" ++ drop 1 elements ++ codes "]\n"

-- what is told of files one after the other: of elements their array, of lines themselves
abbrev pub told_in : Bool → List ℕ → List ℕ
told_in true elements = array_of elements
told_in false lines = lines
