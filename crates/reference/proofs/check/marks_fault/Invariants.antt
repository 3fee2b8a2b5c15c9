use Rattle.std.proofs.Common.{◌≡◌, ◌-◌, length}
use Rattle.std.specs.List.{range_with_len}
use Rattle.model.specs.Verdict.{first_of, mark_fault}
use Rattle.reference.proofs.check.marks_fault.Given as goal

abbrev pub invariant-loop-b : goal.invariant-loop-b
invariant-loop-b l =
    first_of (mark_fault l.image) (range_with_len l.b (length l.image - l.b)) ≡ first_of (mark_fault l.image) (range_with_len 0 (length l.image))
