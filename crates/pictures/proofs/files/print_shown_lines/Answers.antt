use Rattle.messages.specs.Lemmas.Texts.{printed_more}
use Rattle.pictures.specs.FilesRow.{shown_line}
use Rattle.pictures.proofs.files.print_shown_lines.Goals as goal

pub loop-line-preserved : goal.loop-line-preserved
loop-line-preserved g c =
    printed_more (shown_line c.args.x) c.args.lines.now c.loop-line.line-index _ _ _ _ c.loop-line-test.true c.loop-line.invariant c.in_ok-print_shown_line.ensures.ok
