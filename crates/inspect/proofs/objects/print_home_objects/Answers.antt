use Rattle.json_lines.specs.Lemmas.Elements.{elements_more}
use Rattle.inspect.specs.Logging.{home_object}
use Rattle.inspect.proofs.objects.print_home_objects.Goals as goal

pub loop-others-preserved : goal.loop-others-preserved
loop-others-preserved g c =
    elements_more (home_object c.args.inode_count) c.args.homes.now c.loop-others.others _ _ _ _ c.loop-others-test.true c.loop-others.invariant c.in_ok-print_home_element.ensures.printed
