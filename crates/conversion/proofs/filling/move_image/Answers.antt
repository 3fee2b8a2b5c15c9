use Rattle.std.proofs.Common.{ℕ, ◌∙◌, ap}
use Rattle.conversion.specs.Common.{Image}
use Rattle.conversion.specs.Moving.{moved_image}
use Rattle.conversion.specs.declared.plan.Plan.{Plan}
use Rattle.conversion.proofs.filling.move_image.Goals as goal

pub returns-in-Ok-clause-moved : goal.returns-in-Ok-clause-moved
returns-in-Ok-clause-moved g c =
    let x = g.D.Disk.image c.args.old.now in
    let plan_of = c.in_ok-plan.ensures.plan in
    let prepared = c.in_ok-prepared.prepared in
    c.in-Ok.ensures.filled
    ∙ ap (λ (y : Image). moved_image y prepared.plan.to prepared.plan.size) (c.prepare.ensures.reads.image ∙ c.read_plan.ensures.reads.image)
    ∙ ap (λ (p : Plan). moved_image x p.to p.size) c.in_ok-prepared.ensures.prepared.1
    ∙ ap (λ (to : ℕ). moved_image x to c.in_ok-plan.plan.size) plan_of.log
    ∙ ap (moved_image x c.args.to) plan_of.chosen
