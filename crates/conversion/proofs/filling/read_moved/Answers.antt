use Rattle.std.proofs.Common.{ap, sym, ◌∙◌, [], arith}
use Rattle.std.proofs.lemmas.Option.{get_or_from_slice_get}
use Rattle.model.specs.Codec.{super_block}
use Rattle.model.specs.declared.types.image.Form.TheVariants.{One}
use Rattle.conversion.specs.Common.{moved_block, source_in}
use Rattle.conversion.specs.Moving.{moved_inodes}
use Rattle.conversion.proofs.PlannedLemmas.{inodes_planned, log_planned, marks_planned, super_planned}
use Rattle.conversion.proofs.filling.read_moved.Goals as goal

pub returns-then-b-eq1-clause-moved : goal.returns-then-b-eq1-clause-moved
returns-then-b-eq1-clause-moved g c =
    let x = g.D.Disk.image c.args.old.now in
    let plan = c.args.prepared.now.plan in
    c.write.ensures ∙ ap (super_block One) c.super_with-fields.ensures ∙ super_planned x plan c.requires.prepared.planned
    ∙ ap (moved_block x plan.to plan.size) (sym c.if-b-eq1.true)

pub returns-then-b-behind_log-clause-moved : goal.returns-then-b-behind_log-clause-moved
returns-then-b-behind_log-clause-moved g c =
    c.clear.ensures
    ∙ log_planned (g.D.Disk.image c.args.old.now) c.args.prepared.now.plan c.requires.prepared.planned c.args.b c.if-b-eq0.false c.if-b-eq1.false
    (omega (arith, c.if-b-behind_log.true, c.behind_log.ensures))

pub returns-then-b-bitmap-clause-moved : goal.returns-then-b-bitmap-clause-moved
returns-then-b-bitmap-clause-moved g c =
    let x = g.D.Disk.image c.args.old.now in
    let plan = c.args.prepared.now.plan in
    c.move_inodes.ensures
    ∙ ap (moved_inodes plan.sup.nlog plan.to) (sym (get_or_from_slice_get x (source_in plan.sup plan.to c.args.b) c.read-then-b-bitmap.new.into [] c.in_ok-read.ensures.ok))
    ∙ inodes_planned x plan c.requires.prepared.planned c.args.b (omega (arith, c.if-b-behind_log.false, c.behind_log.ensures))
    (omega (arith, c.if-b-bitmap.true, c.bitmap_behind-bitmap.ensures))

pub returns-then-b-bitmap-2-clause-moved : goal.returns-then-b-bitmap-2-clause-moved
returns-then-b-bitmap-2-clause-moved g c =
    let plan = c.args.prepared.now.plan in
    c.copy_from.ensures.copied ∙ c.requires.prepared.marks
    ∙ marks_planned (g.D.Disk.image c.args.old.now) plan c.requires.prepared.planned c.args.b (c.if-b-bitmap-2.true ∙ c.bitmap_behind-bitmap.ensures)
