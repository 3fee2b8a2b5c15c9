-- The picture of a run.
use Rattle.std.specs.Prelude.{ℕ, List, ◌++◌, codes}
use Rattle.std.specs.List.{flat_map}
use Rattle.pictures.specs.Bands.{bands_text}
use Rattle.pictures.specs.Boxes.{box_text}
use Rattle.pictures.specs.Brackets.{brackets_text}
use Rattle.pictures.specs.FilesRow.{files_text}
use Rattle.pictures.specs.Markups.{markup_text}
use Rattle.pictures.specs.Page.{names_text, page_open, sheet_text}
use Rattle.pictures.specs.Titles.{title_text, told_text}
use Rattle.pictures.specs.Written.{written_text}
use Rattle.pictures.specs.declared.markups.Markup.{Markup}
use Rattle.pictures.specs.declared.types.FilesThen.{FilesThen}
use Rattle.pictures.specs.declared.types.Frame.{Frame}
use Rattle.pictures.specs.declared.types.Moment.{Moment}

-- the beginning of the page
unfoldable pub page_text : List ℕ
page_text = page_open (codes "xvfs replay") ++ markup_text Markup.Intro

unfoldable pub opening_text : Frame → List ℕ
opening_text f = page_text ++ names_text f ++ sheet_text f

-- the box of a step, and below the lanes what it wrote
unfoldable pub step_text : Frame → Moment → List ℕ
step_text f m = box_text m ++ written_text f m

-- groups, steps, what a stop keeps, files, and what is told of each step
unfoldable pub drawing_text : Frame → List Moment → List FilesThen → List ℕ
drawing_text f ms files =
    brackets_text f ms ++ flat_map (step_text f) ms ++ bands_text f ms
    ++ flat_map (files_text f) files ++ flat_map (title_text f.inode_count) ms

-- the steps as text
unfoldable pub closing_text : Frame → List Moment → List ℕ
closing_text f ms =
    markup_text Markup.ToldOpen ++ flat_map (told_text f.inode_count) ms
    ++ markup_text Markup.PageEnd

-- THE PICTURE OF A RUN
unfoldable pub timeline_text : Frame → List Moment → List FilesThen → List ℕ
timeline_text f ms files = opening_text f ++ drawing_text f ms files ++ closing_text f ms
