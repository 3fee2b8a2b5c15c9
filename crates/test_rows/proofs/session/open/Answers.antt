use Rattle.std.proofs.Common.{◌∙◌, ap, Some}
use Rattle.rings.specs.Boards.{kept_board}
use Rattle.rings.specs.Callers.{intake_names}
use Rattle.test_rows.proofs.session.open.Goals as goal

pub open-requires-clause-fits : goal.open-requires-clause-fits
open-requires-clause-fits c p low = c.in-Ok.ensures.fresh p

pub invariant_of-result : goal.invariant_of-result
invariant_of-result c = record {
  kernel_is = ap (λ h. kept_board h.keeper) c.in-Ok-open.ensures.opened.herald ∙ ap kept_board c.new-herald.ensures ∙ ap Some c.requires.keeper.0;
  watches_are = c.requires.watches;
  callers_are = λ p d at. ap (λ i. intake_names i p) c.in-Ok-open.ensures.opened.intake ∙ c.in-Ok.ensures.callers p d at;
}
