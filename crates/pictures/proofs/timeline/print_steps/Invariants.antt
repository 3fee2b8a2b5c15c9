use Rattle.std.proofs.Common.{take}
use Rattle.std.specs.List.{flat_map}
use Rattle.std.specs.Io.KnownBytes.{Appends}
use Rattle.pictures.specs.Timeline.{step_text}
use Rattle.pictures.proofs.timeline.print_steps.Given as goal

abbrev pub invariant-loop-moment : goal.invariant-loop-moment
invariant-loop-moment g l = Appends (g.O.Write.contents l.initial.out) (g.O.Write.contents l.out) (flat_map (step_text l.frame) (take l.moment-index l.moments))
