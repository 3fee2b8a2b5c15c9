use Rattle.std.proofs.Common.{◌≡◌, map}
use Rattle.std.specs.List.{range_with_len}
use Rattle.inspect.specs.Cells.{cell_at}
use Rattle.inspect.proofs.cells.cells_among.Given as goal

abbrev pub invariant-loop-b : goal.invariant-loop-b
invariant-loop-b l = l.cells.items ≡ map (cell_at l.signs l.owned) (range_with_len 0 l.b)
