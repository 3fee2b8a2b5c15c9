use Rattle.std.proofs.Common.{true, false, ◌∙◌, sym}
use Rattle.conversion.specs.Common.{is_moved_mark}
use Rattle.conversion.proofs.StepLemmas.{bits_none, marks_more}
use Rattle.conversion.proofs.moving.moved_marks.Goals as goal
use Rattle.conversion.proofs.moving.moved_marks.Goals.{then-is_moved_mark, else-is_moved_mark}

pub loop-b-init : goal.loop-b-init
loop-b-init c =
    let plan = c.args.plan.now in
    c.in_ok-marks.ensures ∙ bits_none (is_moved_mark plan.sup c.args.bitmap.now plan.to plan.size)

pub loop-b-preserved : goal.loop-b-preserved
loop-b-preserved c =
    let plan = c.args.plan.now in
    let test = is_moved_mark plan.sup c.args.bitmap.now plan.to plan.size in
    elim c.if-is_moved_mark.branch [
      | then-is_moved_mark w ↦
          marks_more test c.loop-b.b true c.loop-b.marks c.if-is_moved_mark.marks c.loop-b.invariant
          (sym w.if-is_moved_mark.true ∙ c.is_moved_mark.ensures) (w.marks-is ∙ w.set_bit.ensures)
      | else-is_moved_mark w ↦
          marks_more test c.loop-b.b false c.loop-b.marks c.if-is_moved_mark.marks c.loop-b.invariant
          (sym w.if-is_moved_mark.false ∙ c.is_moved_mark.ensures) w.marks-is
    ]
