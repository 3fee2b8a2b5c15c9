use Rattle.std.proofs.Common.{◌∙◌, ℕ, ap, arith}
use Rattle.std.specs.Prelude.{max}
use Rattle.pictures.specs.Stops.{higher}
use Rattle.pictures.proofs.AlongLemmas.{left_more}
use Rattle.pictures.proofs.stops.most_images.Goals as goal

pub loop-column-preserved : goal.loop-column-preserved
loop-column-preserved c =
    let before = c.loop-column.invariant in (
      c.max-most.ensures
          ∙ ap (λ (n : ℕ). max n c.loop-column.most) c.drawn_of.ensures
          ∙ left_more higher 0 c.loop-column.most c.args.columns.now c.loop-column.column-index _ c.loop-column-test.true before.0,
      omega (arith, c.max-most.ensures, c.drawn_of.ensures, before.1),
    )
