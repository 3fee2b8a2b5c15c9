use Rattle.inspect.proofs.LogLemmas.{line_more}
use Rattle.inspect.proofs.logging.print_log.Goals as goal

pub loop-place-preserved : goal.loop-place-preserved
loop-place-preserved g c =
    line_more c.args.inode_count c.args.homes.now c.loop-place.place _ _ _ _ c.loop-place-test.true c.loop-place.invariant c.in_ok-print_home.ensures.printed
