-- The page of a picture, and what stands round the drawing of a run.
use Rattle.std.specs.Prelude.{ℕ, ◌+◌, List, [], ◌++◌, codes, if◌then◌else◌}
use Rattle.std.specs.List.{flat_map, range_with_len}
use Rattle.pictures.specs.Markups.{attribute_text, markup_text}
use Rattle.pictures.specs.Places.{drawing_height, lane_y, row_y, sheet_width}
use Rattle.pictures.specs.Shapes.{counted_text, label_text, line_text, spot}
use Rattle.pictures.specs.declared.markups.Markup.{Markup}
use Rattle.pictures.specs.declared.types.Frame.{Frame}

-- ---- what is the same on each page

-- how shapes and texts look
unfoldable pub style_text : List ℕ
style_text =
    markup_text Markup.Style ++ markup_text Markup.BodyStyle ++ markup_text Markup.TextStyle
    ++ markup_text Markup.BoxStyle ++ markup_text Markup.BandStyle ++ markup_text Markup.CellStyle

unfoldable pub heading_text : List ℕ → List ℕ
heading_text heading = markup_text Markup.Heading ++ heading ++ markup_text Markup.HeadingEnd

-- the beginning of a page with this heading
unfoldable pub page_open : List ℕ → List ℕ
page_open heading = markup_text Markup.Page ++ heading ++ style_text ++ heading_text heading

-- ---- the names of the lanes and the rows

unfoldable pub names_open : Frame → List ℕ
names_open f = attribute_text Markup.Names (drawing_height f) ++ markup_text Markup.TagEnd

unfoldable pub lane_name : ℕ → List ℕ
lane_name p = counted_text (codes "r") (spot 8 (lane_y p + 24)) (codes "process ") p

unfoldable pub row_name : Frame → ℕ → List ℕ → List ℕ
row_name f below words = label_text (codes "r") (spot 8 (row_y f below)) words

unfoldable pub files_name : Frame → List ℕ
files_name f = if f.has_files then row_name f 121 (codes "files, recovered") else []

unfoldable pub row_names : Frame → List ℕ
row_names f =
    label_text (codes "r") (spot 8 14) (codes "step") ++ row_name f 22 (codes "disk write")
    ++ row_name f 90 (codes "a stop here keeps") ++ files_name f

unfoldable pub names_text : Frame → List ℕ
names_text f =
    names_open f ++ flat_map lane_name (range_with_len 0 f.processes) ++ row_names f
    ++ markup_text Markup.NamesEnd

-- ---- the beginning of the sheet

unfoldable pub sheet_open : Frame → List ℕ
sheet_open f =
    attribute_text Markup.Sheet (sheet_width f) ++ attribute_text Markup.Height (drawing_height f)
    ++ markup_text Markup.SheetLabel

unfoldable pub lane_line : Frame → ℕ → List ℕ
lane_line f p = line_text (lane_y p) (sheet_width f)

unfoldable pub sheet_text : Frame → List ℕ
sheet_text f =
    sheet_open f ++ markup_text Markup.Hatch
    ++ flat_map (lane_line f) (range_with_len 0 f.processes) ++ codes "\n"
