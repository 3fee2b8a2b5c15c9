use Rattle.std.proofs.Common.{◌∙◌}
use Rattle.pictures.proofs.AlongLemmas.{left_more, pieces_more}
use Rattle.pictures.specs.Brackets.{first_under, piece_of, under_after}
use Rattle.pictures.proofs.brackets.print_brackets.Goals as goal

pub loop-moment-preserved : goal.loop-moment-preserved
loop-moment-preserved g c =
    let before = c.loop-moment.invariant in (
      c.under_after-under.ensures ∙ left_more (under_after c.args.frame) first_under _ c.args.moments.now c.loop-moment.moment-index _ c.loop-moment-test.true before.0,
      pieces_more (piece_of c.args.frame) (under_after c.args.frame) first_under _ c.args.moments.now c.loop-moment.moment-index _ _ _ _ c.loop-moment-test.true before.0 before.1 c.in_ok-print_piece.ensures.ok,
    )
