use Rattle.std.proofs.Common.{take}
use Rattle.std.specs.List.{flat_map}
use Rattle.std.specs.Io.KnownBytes.{Appends}
use Rattle.pictures.specs.Stops.{column_line}
use Rattle.pictures.proofs.stops.print_column_lines.Given as goal

abbrev pub invariant-loop-column : goal.invariant-loop-column
invariant-loop-column g l = Appends (g.O.Write.contents l.initial.out) (g.O.Write.contents l.out) (flat_map column_line (take l.column-index l.columns))
