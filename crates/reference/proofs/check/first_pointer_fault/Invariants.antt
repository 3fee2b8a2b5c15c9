use Rattle.std.proofs.Common.{◌≡◌, drop}
use Rattle.model.specs.Verdict.{first_pointer_fault}
use Rattle.reference.proofs.check.first_pointer_fault.Given as goal

abbrev pub invariant-loop-pointer : goal.invariant-loop-pointer
invariant-loop-pointer l =
    first_pointer_fault l.image l.i l.earlier.items (drop l.pointer-index l.pointers) ≡ first_pointer_fault l.image l.i l.initial.earlier.items l.pointers
