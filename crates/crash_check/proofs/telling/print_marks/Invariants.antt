use Rattle.std.proofs.Common.{◌≡◌, ◌-◌, ◌++◌, List, ℕ}
use Rattle.std.specs.Io.KnownBytes.{Appends}
use Rattle.crash_check.specs.Faults.{marks_text}
use Rattle.crash_check.proofs.telling.print_marks.Given as goal

-- those before a place are written, and with the rest they are all
abbrev pub invariant-loop-place : goal.invariant-loop-place
invariant-loop-place g l = (done : List ℕ) × Appends (g.O.Write.contents l.fn.out) (g.O.Write.contents l.out) done
    × (done ++ marks_text l.place (l.fn.choice.held - l.place) l.bits ≡ marks_text 0 l.fn.choice.held l.fn.choice.kept)
