use Rattle.std.proofs.Common.{take}
use Rattle.std.specs.List.{flat_map}
use Rattle.std.specs.Io.KnownBytes.{Appends}
use Rattle.pictures.specs.Cells.{cell_line}
use Rattle.pictures.proofs.cells.print_cell_lines.Given as goal

abbrev pub invariant-loop-cell : goal.invariant-loop-cell
invariant-loop-cell g l = Appends (g.O.Write.contents l.initial.out) (g.O.Write.contents l.out) (flat_map cell_line (take l.cell-index l.cells))
