-- What is told of a step where its box is pointed at.
use Rattle.std.specs.Prelude.{ℕ, ◌+◌, List, [], ◌++◌, codes, decimal, Option, Some, None}
use Rattle.messages.specs.Deeds.{came_text, deed_text, write_line}
use Rattle.messages.specs.declared.deeds.StepNote.{StepNote}
use Rattle.pictures.specs.Places.{column_x, lane_y}
use Rattle.pictures.specs.Replies.{reply_words}
use Rattle.pictures.specs.Markups.{markup_text}
use Rattle.pictures.specs.Shapes.{area, area_text, label_open, spot}
use Rattle.pictures.specs.declared.markups.Markup.{Markup}
use Rattle.pictures.specs.declared.replies.Gist.{Gist}
use Rattle.pictures.specs.declared.types.Moment.{Moment}

unfoldable pub beginning_text : Moment → List ℕ
beginning_text m =
    codes "step " ++ decimal (m.column + 1) ++ codes ", process " ++ decimal m.note.process ++ codes ": "

-- what it was to do and what it came to, and what it wrote
unfoldable pub did_text : ℕ → StepNote → List ℕ
did_text n note =
    (deed_text note.deed ++ came_text note.step note.holder) ++ codes "\n" ++ write_line n note

abbrev pub answered_text : Option Gist → List ℕ
answered_text None = []
answered_text (Some reply) = codes "answered: " ++ reply_words reply ++ codes "\n"

-- WHAT IS TOLD OF A STEP, over an image of n inode numbers
unfoldable pub told_text : ℕ → Moment → List ℕ
told_text n m = beginning_text m ++ did_text n m.note ++ answered_text m.answer

unfoldable pub tip_text : ℕ → Moment → List ℕ
tip_text n m =
    area_text (codes "q") (area (column_x m.column + 2) (lane_y m.note.process + 3) 68 34)
    ++ label_open (codes "tip") (spot (column_x m.column + 4) (lane_y m.note.process))
    ++ told_text n m ++ markup_text Markup.LabelClose

unfoldable pub title_text : ℕ → Moment → List ℕ
title_text n m =
    markup_text Markup.Step ++ told_text n m ++ markup_text Markup.TitleEnd ++ tip_text n m
    ++ markup_text Markup.FieldEnd
