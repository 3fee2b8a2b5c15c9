use Rattle.messages.specs.Lemmas.Texts.{printed_more}
use Rattle.pictures.specs.Titles.{told_text}
use Rattle.pictures.proofs.timeline.print_all_told.Goals as goal

pub loop-moment-preserved : goal.loop-moment-preserved
loop-moment-preserved g c =
    printed_more (told_text c.args.inode_count) c.args.moments.now c.loop-moment.moment-index _ _ _ _ c.loop-moment-test.true c.loop-moment.invariant c.in_ok-print_told.ensures.ok
