use Rattle.std.proofs.Common.{◌∙◌}
use Rattle.test_rows.proofs.session.Session.step.Goals as goal

pub invariant_of-self : goal.invariant_of-self
invariant_of-self c = record {
  kernel_is = c.step.ensures.acts.ports.board ∙ c.args.self.now.kernel_is;
  watches_are = c.args.self.now.watches_are;
  callers_are = λ p d at. c.step.ensures.acts.ports.sides.names p ∙ c.args.self.now.callers_are p d at;
}
