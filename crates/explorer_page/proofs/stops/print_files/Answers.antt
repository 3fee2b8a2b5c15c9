use Rattle.messages.specs.Lemmas.Texts.{printed_more}
use Rattle.explorer_page.specs.Page.{file_object}
use Rattle.explorer_page.proofs.stops.print_files.Goals as goal

pub loop-line-preserved : goal.loop-line-preserved
loop-line-preserved g c =
    printed_more file_object c.args.lines.now c.loop-line.line-index _ _ _ _ c.loop-line-test.true c.loop-line.invariant c.in_ok-print_file.ensures.ok
