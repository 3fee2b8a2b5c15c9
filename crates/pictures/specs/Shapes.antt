-- The shapes of a drawing, in pixels.
use Rattle.std.specs.Prelude.{ℕ, List, ◌++◌, decimal}
use Rattle.pictures.specs.Markups.{attribute_text, markup_text}
use Rattle.pictures.specs.declared.markups.Markup.{Markup}
use Rattle.pictures.specs.declared.shapes.Area.{Area}
use Rattle.pictures.specs.declared.shapes.Spot.{Spot}

abbrev pub spot : ℕ → ℕ → Spot
spot x y = record { x = x; y = y }

abbrev pub area : ℕ → ℕ → ℕ → ℕ → Area
area x y width height = record { x = x; y = y; width = width; height = height }

-- the beginning of a shape of a class
unfoldable pub opening_text : Markup → List ℕ → Spot → List ℕ
opening_text markup class s =
    markup_text markup ++ class ++ attribute_text Markup.X s.x ++ attribute_text Markup.Y s.y

-- a rectangle
unfoldable pub area_text : List ℕ → Area → List ℕ
area_text class a =
    opening_text Markup.Rect class (spot a.x a.y) ++ attribute_text Markup.Width a.width
    ++ attribute_text Markup.Height a.height ++ markup_text Markup.End

-- a line across the sheet
unfoldable pub line_text : ℕ → ℕ → List ℕ
line_text y width =
    attribute_text Markup.Lane y ++ attribute_text Markup.Across width ++ markup_text Markup.End

unfoldable pub label_open : List ℕ → Spot → List ℕ
label_open class s = opening_text Markup.Label class s ++ markup_text Markup.TagEnd

-- a text of these words
unfoldable pub label_text : List ℕ → Spot → List ℕ → List ℕ
label_text class s words = label_open class s ++ words ++ markup_text Markup.LabelClose

-- a text of words and a number
unfoldable pub counted_text : List ℕ → Spot → List ℕ → ℕ → List ℕ
counted_text class s words n =
    label_open class s ++ words ++ decimal n ++ markup_text Markup.LabelClose
