use Rattle.std.proofs.Common.{◌≡◌, length}
use Rattle.std.specs.Prelude.{All}
use Rattle.ports.specs.Lanes.{IsEmptyLane}
use Rattle.ports.proofs.queues.QueueIntake.new.Given as goal

abbrev pub invariant-loop-process : goal.invariant-loop-process
invariant-loop-process l = record {
  empty : All IsEmptyLane l.lanes.items;
  count : length l.lanes.items ≡ l._process;
}
