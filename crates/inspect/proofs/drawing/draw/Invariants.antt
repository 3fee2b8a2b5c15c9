use Rattle.std.specs.Io.KnownBytes.{Appends}
use Rattle.std.specs.List.{flat_map, range_with_len}
use Rattle.inspect.specs.Drawing.{row_at}
use Rattle.inspect.proofs.drawing.draw.Given as goal

abbrev pub invariant-loop-row : goal.invariant-loop-row
invariant-loop-row g l = Appends (g.O.Write.contents l.initial.out) (g.O.Write.contents l.out) (flat_map (row_at l.signs) (range_with_len 0 l.row))
