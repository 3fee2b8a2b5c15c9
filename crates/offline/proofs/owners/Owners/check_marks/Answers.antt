use Rattle.std.proofs.Common.{◌∙◌, sym, length, arith}
use Rattle.offline.specs.Common.{err_from_is_err_and, first_here, first_later, mark_fault}
use Rattle.offline.proofs.owners.Owners.check_marks.Goals as goal

pub loop-b-preserved : goal.loop-b-preserved
loop-b-preserved c = λ y h.
    sym (first_later (mark_fault y) c.loop-b.b (length y) (omega (arith, h.limits.size)) (c.in_ok-check_mark.ensures y h)) ∙ c.loop-b.invariant y h

pub returns-in_err-check_mark : goal.returns-in_err-check_mark
returns-in_err-check_mark c = λ y h.
    let p = err_from_is_err_and c.from_residual.result c.from_residual.ensures.1 in
    rw (p.1, p.2)
    (sym (c.loop-b.invariant y h)
    ∙ first_here (mark_fault y) c.loop-b.b (length y) c.in_err-check_mark.field-0.0 (omega (arith, h.limits.size)) (c.in_err-check_mark.ensures y h))
