-- How the signs of an image are drawn.
use Rattle.std.specs.Prelude.{ℕ, ◌*◌, Bool, true, false, List, ◌++◌, drop, take, length, codes, decimal}
use Rattle.std.specs.Int.{div_ceil}
use Rattle.std.specs.List.{flat_map, range_with_len}
use Rattle.blocks.specs.Disk.{Image}
use Rattle.inspect.specs.Signs.{signs_of}

-- a number right-aligned in four columns, and a space
abbrev pub label_text : ℕ → List ℕ
label_text n = drop (length (decimal n)) (codes "    ") ++ decimal n ++ codes " "

abbrev pub row_text : ℕ → List ℕ → List ℕ
row_text first signs = label_text first ++ signs ++ codes "\n"

-- the row of that number: 64 signs, or those that are left
abbrev pub row_at : List ℕ → ℕ → List ℕ
row_at signs row = row_text (row * 64) (take 64 (drop (row * 64) signs))

abbrev pub key_text : List ℕ
key_text =
    codes "b boot s super l log i inodes m bitmap a addresses "
    ++ codes "0-9 data by the file's last digit . free * logged\n"

abbrev pub drawing_text : List ℕ → List ℕ
drawing_text signs =
    flat_map (row_at signs) (range_with_len 0 (div_ceil (length signs) 64)) ++ key_text

-- the rows of all signs of an image, and the key
abbrev pub drawing_of : Image → List ℕ
drawing_of x = drawing_text (signs_of x)

-- the object of signs, one for each block
unfoldable pub signs_object : List ℕ → List ℕ
signs_object signs = codes "{\"signs\":\"" ++ signs ++ codes "\"}\n"

-- signs as JSON or as rows of text
abbrev pub signs_in : Bool → List ℕ → List ℕ
signs_in true signs = signs_object signs
signs_in false signs = drawing_text signs

abbrev pub blocks_told : Bool → Image → List ℕ
blocks_told json x = signs_in json (signs_of x)
