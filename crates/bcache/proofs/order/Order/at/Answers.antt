use Rattle.std.proofs.Common.{get_or, ap, ◌∙◌, arith, ℕ}
use Rattle.bcache.specs.Common.{order_of}
use Rattle.bcache.proofs.LinkLemmas.{after_placed, placed_low}
use Rattle.bcache.proofs.order.Order.at.Goals as goal

pub bounds-self-inside-slot : goal.bounds-self-inside-slot
bounds-self-inside-slot c =
    omega (arith, (placed_low (order_of c.self.inside.links) c.loop-passed.passed c.self.invariant.order (omega arith)), c.loop-passed.invariant)

pub loop-passed-preserved : goal.loop-passed-preserved
loop-passed-preserved c =
    ap (λ (n : ℕ). get_or c.self.inside.links.after n 0) c.loop-passed.invariant
    ∙ after_placed c.self.inside.links c.loop-passed.passed c.self.invariant (omega arith)
    ∙ ap (λ (n : ℕ). get_or (order_of c.self.inside.links) n 40) (omega arith)

pub returns-clause-within : goal.returns-clause-within
returns-clause-within c =
    omega (arith, (placed_low (order_of c.self.inside.links) c.loop-passed.passed c.self.invariant.order (omega arith)), c.loop-passed.invariant)
