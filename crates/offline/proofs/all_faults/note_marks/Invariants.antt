use Rattle.std.specs.List.{flat_map, range_with_len}
use Rattle.offline.specs.Common.{Image, listed, mark_fault, places_of, Stand}
use Rattle.offline.proofs.all_faults.note_marks.Given as goal

abbrev pub invariant-loop-b : goal.invariant-loop-b
invariant-loop-b g l =
    (y : Image) → Stand l.owners y (places_of y) → g.H.HearsFaults.hears l.initial.hearer (flat_map (λ b. listed (mark_fault y b)) (range_with_len 0 l.b)) l.hearer
