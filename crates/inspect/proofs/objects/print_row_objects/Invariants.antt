use Rattle.std.proofs.Common.{take}
use Rattle.std.specs.Io.KnownBytes.{Appends}
use Rattle.json_lines.specs.Arrays.{elements_behind}
use Rattle.inspect.specs.Listing.{row_object}
use Rattle.inspect.proofs.objects.print_row_objects.Given as goal

-- the objects so far are printed
abbrev pub invariant-loop-others : goal.invariant-loop-others
invariant-loop-others g l = Appends (g.O.Write.contents l.initial.out) (g.O.Write.contents l.out) (elements_behind row_object 0 (take l.others l.rows))
