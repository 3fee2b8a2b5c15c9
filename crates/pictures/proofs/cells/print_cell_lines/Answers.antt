use Rattle.messages.specs.Lemmas.Texts.{printed_more}
use Rattle.pictures.specs.Cells.{cell_line}
use Rattle.pictures.proofs.cells.print_cell_lines.Goals as goal

pub loop-cell-preserved : goal.loop-cell-preserved
loop-cell-preserved g c =
    printed_more cell_line c.args.cells.now c.loop-cell.cell-index _ _ _ _ c.loop-cell-test.true c.loop-cell.invariant c.in_ok-print_cell_line.ensures.ok
