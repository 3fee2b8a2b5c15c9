use Rattle.std.proofs.Common.{arith}
use Rattle.commands_runs.proofs.Leaving.{stops_all, stops_more}
use Rattle.commands_runs.proofs.changes.stops_of.Goals as goal

pub loop-moment-preserved : goal.loop-moment-preserved
loop-moment-preserved c =
    stops_more c.loop-moment.committed c.args.moments.now c.loop-moment.moment-index _ c.loop-moment.stops.items c.add_stop.new.stops.items _ c.loop-moment-test.true c.loop-moment.invariant c.in_ok-add_stop.ensures

pub returns : goal.returns
returns c = stops_all c.loop-moment.committed c.args.moments.now c.loop-moment.moment-index c.loop-moment.stops.items _ (omega (arith, c.loop-moment-test.false)) c.loop-moment.invariant
