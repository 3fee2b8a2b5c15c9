-- The picture of an image's blocks.
use Rattle.std.specs.Prelude.{ℕ, ◌+◌, ◌*◌, ◌/◌, ◌%◌, ◌==◌, ◌||◌, List, [], ◌∷◌, ◌++◌, length, codes, decimal, if◌then◌else◌, Option, Some, None}
use Rattle.std.specs.List.{flat_map}
use Rattle.pictures.specs.Markups.{attribute_text, markup_text}
use Rattle.pictures.specs.Page.{page_open}
use Rattle.pictures.specs.Shapes.{area, area_text, counted_text, label_open, spot}
use Rattle.messages.specs.declared.drawing.Cell.{Cell}
use Rattle.messages.specs.declared.drawing.Owner.{Owner}
use Rattle.pictures.specs.declared.markups.Markup.{Markup}

-- ---- what is told of a block

-- what a sign says of it: each is the code of a character, `b s l i m a . *` or a digit
abbrev pub sign_words : ℕ → List ℕ
sign_words sign =
    if sign == 98 then codes "boot"
    else if sign == 115 then codes "superblock"
    else if sign == 108 then codes "log"
    else if sign == 105 then codes "inodes"
    else if sign == 109 then codes "bitmap"
    else if sign == 97 then codes "addresses"
    else if sign == 46 then codes "free"
    else if sign == 42 then codes "logged block"
    else codes "data"

abbrev pub owner_words : Option Owner → List ℕ
owner_words None = []
owner_words (Some owner) = codes " of file " ++ decimal owner.file

unfoldable pub told_cell : Cell → List ℕ
told_cell c =
    (codes "block " ++ decimal c.block ++ codes ": " ++ sign_words c.sign) ++ owner_words c.owner

unfoldable pub cell_line : Cell → List ℕ
cell_line c = told_cell c ++ codes "\n"

-- ---- where it stands

abbrev pub cell_x : ℕ → ℕ
cell_x b = 56 + 17 * (b % 64)

abbrev pub cell_y : ℕ → ℕ
cell_y b = 4 + 17 * (b / 64)

-- ---- its square

-- the class of a square: of data by the last digit of the file's number
abbrev pub cell_class : ℕ → List ℕ
cell_class sign =
    if (sign == 98) || (sign == 115) then codes "e"
    else if sign == 108 then codes "w"
    else if sign == 105 then codes "b"
    else if sign == 109 then codes "a"
    else if sign == 97 then codes "g"
    else if sign == 46 then codes "k0"
    else if sign == 42 then codes "k5"
    else if (sign == 48) || (sign == 53) then codes "k1"
    else if (sign == 49) || (sign == 54) then codes "k2"
    else if (sign == 50) || (sign == 55) then codes "k3"
    else if (sign == 51) || (sign == 56) then codes "k4"
    else codes "k6"

unfoldable pub square_text : Cell → List ℕ
square_text c =
    area_text (cell_class c.sign) (area (cell_x c.block) (cell_y c.block) 16 16)
    ++ label_open (codes "n") (spot (cell_x c.block + 8) (cell_y c.block + 12))
    ++ c.sign ∷ [] ++ markup_text Markup.LabelClose

-- the number of a row's first block
unfoldable pub row_label : ℕ → List ℕ
row_label b = if b % 64 == 0 then counted_text (codes "r") (spot 8 (cell_y b + 13)) [] b else []

unfoldable pub cell_text : Cell → List ℕ
cell_text c =
    row_label c.block ++ markup_text Markup.Field ++ told_cell c ++ markup_text Markup.TitleEnd
    ++ square_text c ++ markup_text Markup.FieldEnd

-- ---- the page

unfoldable pub blocks_open : ℕ → List ℕ
blocks_open count =
    page_open (codes "xvfs show") ++ markup_text Markup.CellsIntro
    ++ attribute_text Markup.CellsOpen (cell_y count + 21) ++ markup_text Markup.CellsLabel

unfoldable pub blocks_close : List ℕ
blocks_close = markup_text Markup.PageEnd

-- THE PICTURE OF AN IMAGE'S BLOCKS
unfoldable pub blocks_text : List Cell → List ℕ
blocks_text cells =
    blocks_open (length cells) ++ flat_map cell_text cells ++ markup_text Markup.CellsTold
    ++ flat_map cell_line cells ++ blocks_close
