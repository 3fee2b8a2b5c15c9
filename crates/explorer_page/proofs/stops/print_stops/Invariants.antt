use Rattle.std.proofs.Common.{take}
use Rattle.std.specs.List.{flat_map}
use Rattle.std.specs.Io.KnownBytes.{Appends}
use Rattle.explorer_page.specs.Page.{stop_text}
use Rattle.explorer_page.proofs.stops.print_stops.Given as goal

abbrev pub invariant-loop-stop : goal.invariant-loop-stop
invariant-loop-stop g l = Appends (g.O.Write.contents l.initial.out) (g.O.Write.contents l.out) (flat_map stop_text (take l.stop-index l.files))
