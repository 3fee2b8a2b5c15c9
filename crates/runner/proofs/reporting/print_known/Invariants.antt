use Rattle.std.proofs.Common.{◌≡◌, List, ◌++◌, flat_map, length}
use Rattle.std.specs.Io.KnownBytes.{Appends}
use mathlib.Core.List.{IsPrefix}
use Rattle.model.specs.declared.types.operations.Answer.{Answer}
use Rattle.rings.specs.Callers.{unpolled}
use Rattle.messages.specs.Answers.{answer_line}
use Rattle.runner.proofs.reporting.print_known.Given as goal

-- the first answers are polled and their lines printed, and the caller knows the others
abbrev pub invariant-loop-known : goal.invariant-loop-known
invariant-loop-known g l = record {
  done : List Answer;
  left : List Answer;
  split : unpolled l.fn.caller ≡ done ++ left;
  count : length done ≡ l._known;
  ahead : IsPrefix left (unpolled l.caller);
  printed : Appends (g.O.Write.contents l.initial.out) (g.O.Write.contents l.out) (flat_map (answer_line l.pid) done);
}
