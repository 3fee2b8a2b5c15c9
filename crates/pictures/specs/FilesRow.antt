-- The row of the files that a recovered image has.
use Rattle.std.specs.Prelude.{ℕ, ◌+◌, ◌-◌, ◌==◌, List, [], ◌++◌, length, take, codes, decimal, if◌then◌else◌}
use Rattle.std.specs.List.{flat_map}
use Rattle.pictures.specs.Markups.{attribute_text, markup_text}
use Rattle.pictures.specs.Places.{column_x, row_y}
use Rattle.pictures.specs.declared.markups.Markup.{Markup}
use Rattle.pictures.specs.declared.types.FileLine.{FileLine}
use Rattle.pictures.specs.declared.types.FilesThen.{FilesThen}
use Rattle.pictures.specs.declared.types.Frame.{Frame}

abbrev pub kind_word : ℕ → List ℕ
kind_word kind =
    if kind == 1 then codes "directory" else if kind == 2 then codes "file" else codes "device"

-- what a file is
unfoldable pub line_words : FileLine → List ℕ
line_words line =
    decimal line.number ++ codes " " ++ kind_word line.kind ++ codes ", " ++ decimal line.size
    ++ codes " bytes"

unfoldable pub told_line : FileLine → List ℕ
told_line line = line_words line ++ codes "\n"

-- all of them, as a title
unfoldable pub told_files : List FileLine → List ℕ
told_files lines =
    markup_text Markup.Field ++ codes "files:\n" ++ flat_map told_line lines
    ++ markup_text Markup.TitleEnd

-- the line at the left edge, and the beginning of the text
unfoldable pub mark_text : Frame → ℕ → List ℕ
mark_text f x =
    attribute_text Markup.Mark x ++ codes " " ++ decimal (row_y f 108)
    ++ attribute_text Markup.MarkEnd (row_y f 106) ++ markup_text Markup.TagEnd

unfoldable pub line_open : ℕ → List ℕ
line_open x = attribute_text Markup.Line x ++ markup_text Markup.LineOpen

unfoldable pub none_text : ℕ → List ℕ
none_text x = line_open x ++ codes "no file" ++ markup_text Markup.LineClose

unfoldable pub shown_line : ℕ → FileLine → List ℕ
shown_line x line = line_open x ++ line_words line ++ markup_text Markup.LineClose

-- how many aren't shown
unfoldable pub more_text : ℕ → ℕ → List ℕ
more_text x more =
    if more == 0 then []
    else line_open x ++ codes "and " ++ decimal more ++ codes " more" ++ markup_text Markup.LineClose

-- the first six
unfoldable pub shown_files : ℕ → List FileLine → List ℕ
shown_files x lines =
    if length lines == 0 then none_text x
    else flat_map (shown_line x) (take 6 lines) ++ more_text x (length lines - 6)

-- THE FILES FROM A STEP ON
unfoldable pub files_text : Frame → FilesThen → List ℕ
files_text f files =
    told_files files.lines.items ++ mark_text f (column_x files.column)
    ++ shown_files (column_x files.column + 8) files.lines.items ++ markup_text Markup.FilesClose
