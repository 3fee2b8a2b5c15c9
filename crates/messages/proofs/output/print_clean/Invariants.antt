use Rattle.std.proofs.Common.{take}
use Rattle.std.specs.List.{flat_map}
use Rattle.std.specs.Io.KnownBytes.{Appends}
use Rattle.messages.specs.Output.{rescued_line}
use Rattle.messages.proofs.output.print_clean.Given as goal

abbrev pub invariant-loop-number : goal.invariant-loop-number
invariant-loop-number g l = Appends (g.O.Write.contents l.initial.out) (g.O.Write.contents l.out) (flat_map rescued_line (take l.number-index l.clean))
