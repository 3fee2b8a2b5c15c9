use Rattle.std.proofs.Common.{◌∙◌}
use Rattle.pictures.proofs.AlongLemmas.{left_more, pieces_more}
use Rattle.pictures.specs.Stops.{column_text, place_behind}
use Rattle.pictures.specs.declared.stops.At.{At}
use Rattle.pictures.specs.declared.stops.Column.{Column}
use Rattle.pictures.proofs.stops.print_columns.Goals as goal

none : Column
none = record { at = At.End; images = 0 }

pub loop-column-preserved : goal.loop-column-preserved
loop-column-preserved g c =
    let before = c.loop-column.invariant in (
      c.saturating_add-place.ensures ∙ left_more place_behind 0 _ c.args.columns.now c.loop-column.column-index none c.loop-column-test.true before.0,
      pieces_more column_text place_behind 0 _ c.args.columns.now c.loop-column.column-index _ _ _ _ c.loop-column-test.true before.0 before.1 c.in_ok-print_column.ensures.ok,
    )
