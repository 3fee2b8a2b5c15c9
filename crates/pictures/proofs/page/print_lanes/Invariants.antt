use Rattle.std.specs.Io.KnownBytes.{Appends}
use Rattle.std.specs.List.{flat_map, range_with_len}
use Rattle.pictures.specs.Page.{lane_line}
use Rattle.pictures.proofs.page.print_lanes.Given as goal

abbrev pub invariant-loop-process : goal.invariant-loop-process
invariant-loop-process g l = Appends (g.O.Write.contents l.initial.out) (g.O.Write.contents l.out) (flat_map (lane_line l.frame) (range_with_len 0 l.process))
