use Rattle.messages.specs.Lemmas.Texts.{printed_more}
use Rattle.pictures.specs.Stops.{column_line}
use Rattle.pictures.proofs.stops.print_column_lines.Goals as goal

pub loop-column-preserved : goal.loop-column-preserved
loop-column-preserved g c =
    printed_more column_line c.args.columns.now c.loop-column.column-index _ _ _ _ c.loop-column-test.true c.loop-column.invariant c.in_ok-print_column_line.ensures.ok
