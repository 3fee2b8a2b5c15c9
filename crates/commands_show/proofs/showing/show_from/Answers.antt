use Rattle.std.proofs.Common.{◌∙◌, List, subst}
use Rattle.pictures.specs.Cells.{blocks_text}
use Rattle.messages.specs.declared.drawing.Cell.{Cell}
use Rattle.commands_drawing.specs.Drawn.{IsDrawn}
use Rattle.commands_show.proofs.showing.show_from.Goals as goal

pub returns-in-Ok-draw_cells-clause-shown : goal.returns-in-Ok-draw_cells-clause-shown
returns-in-Ok-draw_cells-clause-shown g c =
    let shown = c.in-Ok.ensures in (
      c.args.disk.now,
      (
        c.show_cells.new.disk,
        c.requires,
        (
          (shown.reads.image, shown.sound, shown.printed),
          subst (λ (cells : List Cell). IsDrawn g.R.File.Write.contents (blocks_text cells)) (c.as_slice.ensures.value ∙ shown.cells) c.in-Ok-draw_cells.ensures,
        ),
      ),
    )

pub returns-in-Ok-clause-refused : goal.returns-in-Ok-clause-refused
returns-in-Ok-clause-refused g c =
    let shown = c.in-Ok.ensures in
    (c.args.disk.now, (c.show_cells.new.disk, c.requires, (shown.reads.image, shown.sound, shown.printed)))

pub returns-clause-refused : goal.returns-clause-refused
returns-clause-refused g c = (c.args.disk.now, (c.show_cells.new.disk, c.requires, c.in-Err.ensures.refused))
