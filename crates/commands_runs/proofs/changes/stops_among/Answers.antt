use Rattle.std.proofs.Common.{◌+◌, arith}
use Rattle.commands_runs.proofs.Leaving.{stops_all_among, stops_more_among}
use Rattle.commands_runs.proofs.changes.stops_among.Goals as goal

pub loop-write-preserved : goal.loop-write-preserved
loop-write-preserved c = record {
  so_far = stops_more_among c.args.written.now c.loop-write.write-index _ (c.loop-write.number + 1) c.loop-write.stops.items c.add_stop_with.new.stops.items _ c.loop-write-test.true (omega (arith, c.loop-write.invariant.counted)) c.loop-write.invariant.so_far c.in_ok-add_stop_with.ensures;
  counted = omega (arith, c.loop-write.invariant.counted);
}

pub returns : goal.returns
returns c = stops_all_among c.args.written.now c.loop-write.write-index c.loop-write.stops.items _ (omega (arith, c.loop-write-test.false)) c.loop-write.invariant.so_far
