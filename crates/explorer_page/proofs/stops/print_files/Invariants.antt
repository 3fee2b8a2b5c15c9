use Rattle.std.proofs.Common.{take}
use Rattle.std.specs.List.{flat_map}
use Rattle.std.specs.Io.KnownBytes.{Appends}
use Rattle.explorer_page.specs.Page.{file_object}
use Rattle.explorer_page.proofs.stops.print_files.Given as goal

abbrev pub invariant-loop-line : goal.invariant-loop-line
invariant-loop-line g l = Appends (g.O.Write.contents l.initial.out) (g.O.Write.contents l.out) (flat_map file_object (take l.line-index l.lines))
