use Rattle.std.proofs.Common.{◌≡◌, ◌-◌, length}
use Rattle.std.specs.List.{range_with_len}
use Rattle.offline.specs.Common.{first_of, Image, mark_fault, marks_fault, places_of, Stand}
use Rattle.offline.proofs.owners.Owners.check_marks.Given as goal

abbrev pub invariant-loop-b : goal.invariant-loop-b
invariant-loop-b l =
    (y : Image) → Stand l.self y (places_of y) → first_of (mark_fault y) (range_with_len l.b (length y - l.b)) ≡ marks_fault y
