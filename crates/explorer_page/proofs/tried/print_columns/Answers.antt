use Rattle.messages.specs.Lemmas.Texts.{printed_more}
use Rattle.explorer_page.specs.Tried.{passed_object}
use Rattle.explorer_page.proofs.tried.print_columns.Goals as goal

pub loop-column-preserved : goal.loop-column-preserved
loop-column-preserved g c =
    printed_more passed_object c.args.columns.now c.loop-column.column-index _ _ _ _ c.loop-column-test.true c.loop-column.invariant c.in_ok-print_passed.ensures.ok
