use Rattle.std.proofs.Common.{take}
use Rattle.std.specs.List.{flat_map}
use Rattle.std.specs.Io.KnownBytes.{Appends}
use Rattle.explorer_page.specs.Tried.{passed_object}
use Rattle.explorer_page.proofs.tried.print_columns.Given as goal

abbrev pub invariant-loop-column : goal.invariant-loop-column
invariant-loop-column g l = Appends (g.O.Write.contents l.initial.out) (g.O.Write.contents l.out) (flat_map passed_object (take l.column-index l.columns))
