use Rattle.std.proofs.Common.{◌∙◌}
use Rattle.pictures.proofs.AlongLemmas.{left_more, pieces_more}
use Rattle.pictures.specs.Bands.{first_kept, kept_after, piece_of}
use Rattle.pictures.proofs.bands.print_bands.Goals as goal

pub loop-moment-preserved : goal.loop-moment-preserved
loop-moment-preserved g c =
    let before = c.loop-moment.invariant in (
      c.kept_after-kept.ensures ∙ left_more kept_after first_kept _ c.args.moments.now c.loop-moment.moment-index _ c.loop-moment-test.true before.0,
      pieces_more (piece_of c.args.frame) kept_after first_kept _ c.args.moments.now c.loop-moment.moment-index _ _ _ _ c.loop-moment-test.true before.0 before.1 c.in_ok-print_piece.ensures.ok,
    )
