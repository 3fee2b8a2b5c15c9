use Rattle.std.proofs.Common.{flat_map, take}
use Rattle.std.specs.Io.KnownBytes.{Appends}
use Rattle.messages.specs.Answers.{answer_line}
use Rattle.runner.proofs.reporting.print_answers.Given as goal

-- the lines of the first answers are printed
abbrev pub invariant-loop-answer : goal.invariant-loop-answer
invariant-loop-answer g l =
    Appends (g.O.Write.contents l.initial.out) (g.O.Write.contents l.out) (flat_map (answer_line l.pid) (take l.answer-index l.answers))
