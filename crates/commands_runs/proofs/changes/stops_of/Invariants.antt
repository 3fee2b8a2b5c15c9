use Rattle.std.proofs.Common.{◌≡◌, ◌++◌, drop}
use Rattle.commands_runs.specs.Filed.{stops_along, stops_of}
use Rattle.commands_runs.proofs.changes.stops_of.Given as goal

abbrev pub invariant-loop-moment : goal.invariant-loop-moment
invariant-loop-moment l = l.stops.items ++ stops_along l.committed (drop l.moment-index l.moments) ≡ stops_of l.moments
