use Rattle.std.proofs.Common.{take}
use Rattle.std.specs.List.{flat_map}
use Rattle.std.specs.Io.KnownBytes.{Appends}
use Rattle.pictures.specs.FilesRow.{shown_line}
use Rattle.pictures.proofs.files.print_shown_lines.Given as goal

abbrev pub invariant-loop-line : goal.invariant-loop-line
invariant-loop-line g l = Appends (g.O.Write.contents l.initial.out) (g.O.Write.contents l.out) (flat_map (shown_line l.x) (take l.line-index l.lines))
