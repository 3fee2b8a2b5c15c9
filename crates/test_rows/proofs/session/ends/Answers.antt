use Rattle.std.proofs.Common.{◌∙◌, ap, sym}
use Rattle.std.specs.Prelude.{slice_get}
use Rattle.test_rows.proofs.Callers.{held_at}
use Rattle.test_rows.proofs.session.ends.Goals as goal

pub returns-in-Ok-clause-callers : goal.returns-in-Ok-clause-callers
returns-in-Ok-clause-callers c = λ p d at. (c.in_ok-intake.ensures.callers p d (held_at c.in_ok-intake.callers.items p d (ap (λ ks. slice_get ks p) (sym c.in-Ok.ensures) ∙ at))).rings
