-- The picture of a run's stops.
use Rattle.std.specs.Prelude.{ℕ, ◌+◌, ◌*◌, List, [], ◌++◌, length, max, min, codes, decimal, Option, Some, None}
use Rattle.std.specs.List.{flat_map, range_with_len}
use Rattle.pictures.specs.Along.{left_along, pieces_along}
use Rattle.pictures.specs.Markups.{attribute_text, markup_text}
use Rattle.pictures.specs.Page.{page_open}
use Rattle.pictures.specs.Shapes.{area, area_text, label_open, spot}
use Rattle.pictures.specs.declared.markups.Markup.{Markup}
use Rattle.pictures.specs.declared.stops.At.{At}
use Rattle.pictures.specs.declared.stops.Column.{Column}
use Rattle.pictures.specs.declared.stops.Lost.{Lost}

-- ---- what a stop is called

abbrev pub stop_words : At → List ℕ
stop_words At.End = codes "the whole run"
stop_words (At.Write n) = codes "stop before write " ++ decimal n
stop_words (At.Sync n) = codes "stop at sync " ++ decimal n

abbrev pub label_words : At → List ℕ
label_words At.End = codes "end"
label_words (At.Write n) = decimal n
label_words (At.Sync n) = codes "s " ++ decimal n

-- ---- its column

abbrev pub stop_x : ℕ → ℕ
stop_x place = 16 + 40 * place

abbrev pub square_at : List ℕ → ℕ → ℕ → List ℕ
square_at class place image = area_text class (area (stop_x place) (24 + 17 * image) 36 16)

unfoldable pub column_label : ℕ → At → List ℕ
column_label place at =
    label_open (codes "n") (spot (stop_x place + 18) 16) ++ label_words at
    ++ markup_text Markup.LabelClose

-- which of so many images it is
unfoldable pub image_words : ℕ → ℕ → List ℕ
image_words images image =
    codes ": image " ++ decimal (image + 1) ++ codes " of " ++ decimal images ++ codes " passed"

unfoldable pub image_square : ℕ → Column → ℕ → List ℕ
image_square place c image =
    markup_text Markup.Field ++ stop_words c.at ++ image_words c.images image
    ++ markup_text Markup.TitleEnd ++ square_at (codes "k1") place image
    ++ markup_text Markup.FieldEnd

-- so many images of a stop are drawn
abbrev pub drawn_of : Column → ℕ
drawn_of c = min c.images 65

-- a square for each of them
unfoldable pub column_text : ℕ → Column → List ℕ
column_text place c =
    column_label place c.at ++ flat_map (image_square place c) (range_with_len 0 (drawn_of c))

-- the place behind a stop
abbrev pub place_behind : ℕ → Column → ℕ
place_behind place c = min (place + 1) 4294967295

unfoldable pub column_line : Column → List ℕ
column_line c = stop_words c.at ++ codes ": passed " ++ decimal c.images ++ codes "\n"

-- ---- the one that didn't pass

unfoldable pub lost_square : ℕ → Lost → List ℕ
lost_square place l =
    column_label place l.at ++ markup_text Markup.Field ++ l.words.now
    ++ markup_text Markup.TitleEnd ++ square_at (codes "x") place 0
    ++ markup_text Markup.FieldEnd

abbrev pub lost_text : ℕ → Option Lost → List ℕ
lost_text place None = []
lost_text place (Some l) = lost_square place l

abbrev pub lost_line : Option Lost → List ℕ
lost_line None = []
lost_line (Some l) = l.words.now

-- ---- the page

abbrev pub higher : ℕ → Column → ℕ
higher most c = max (drawn_of c) most

unfoldable pub stops_open : List Column → List ℕ
stops_open cs =
    page_open (codes "xvfs stops") ++ markup_text Markup.StopsIntro
    ++ attribute_text Markup.StopsOpen (16 + 40 * (min (length cs) 4000 + 1))
    ++ attribute_text Markup.Height (48 + 17 * left_along higher 0 cs)
    ++ markup_text Markup.StopsLabel

unfoldable pub stops_drawn : List Column → Option Lost → List ℕ
stops_drawn cs lost =
    pieces_along column_text place_behind 0 cs ++ lost_text (left_along place_behind 0 cs) lost

-- the stops as text
unfoldable pub stops_told : List Column → Option Lost → List ℕ
stops_told cs lost =
    markup_text Markup.StopsTold ++ flat_map column_line cs ++ lost_line lost
    ++ markup_text Markup.PageEnd

-- THE PICTURE OF A RUN'S STOPS
unfoldable pub stops_text : List Column → Option Lost → List ℕ
stops_text cs lost = stops_open cs ++ stops_drawn cs lost ++ stops_told cs lost
