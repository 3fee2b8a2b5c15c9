use Rattle.std.proofs.Common.{◌≡◌, ◌+◌, ◌++◌, drop}
use Rattle.commands_runs.specs.Explored.{stops_among, stops_from}
use Rattle.commands_runs.proofs.changes.stops_among.Given as goal

abbrev pub invariant-loop-write : goal.invariant-loop-write
invariant-loop-write l = record {
  so_far : l.stops.items ++ stops_from (l.write-index + 1) (drop l.write-index l.written) ≡ stops_among l.written;
  counted : l.number ≡ l.write-index;
}
