use Rattle.json_lines.specs.Lemmas.Elements.{elements_more}
use Rattle.inspect.specs.Listing.{row_object}
use Rattle.inspect.proofs.objects.print_row_objects.Goals as goal

pub loop-others-preserved : goal.loop-others-preserved
loop-others-preserved g c =
    elements_more row_object c.args.rows.now c.loop-others.others _ _ _ _ c.loop-others-test.true c.loop-others.invariant c.in_ok-print_element.ensures.printed
