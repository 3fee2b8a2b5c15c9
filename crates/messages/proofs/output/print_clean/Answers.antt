use Rattle.messages.specs.Lemmas.Texts.{printed_more}
use Rattle.messages.specs.Output.{rescued_line}
use Rattle.messages.proofs.output.print_clean.Goals as goal

pub loop-number-preserved : goal.loop-number-preserved
loop-number-preserved g c =
    printed_more rescued_line c.args.clean.now c.loop-number.number-index _ _ _ _ c.loop-number-test.true c.loop-number.invariant c.in_ok-print_rescued_line.ensures.ok
