use Rattle.std.proofs.Common.{◌≡◌}
use Rattle.conversion.specs.Common.{is_moved_mark}
use Rattle.conversion.specs.Moving.{bits_below}
use Rattle.conversion.proofs.moving.moved_marks.Given as goal

abbrev pub invariant-loop-b : goal.invariant-loop-b
invariant-loop-b l = l.marks ≡ bits_below (is_moved_mark l.plan.sup l.bitmap l.plan.to l.plan.size) l.b
