use Rattle.tree_puts.proofs.Gathered.{more_added, none_added}
use Rattle.tree_puts.proofs.gathering.add_below.Goals as goal

pub loop-name-init : goal.loop-name-init
loop-name-init g c = none_added c.args.path.now c.args.found.now.items.items

pub loop-name-preserved : goal.loop-name-preserved
loop-name-preserved g c = more_added c.args.path.now _ _ _ c.loop-name.invariant c.in_ok-add_one.ensures.adds
