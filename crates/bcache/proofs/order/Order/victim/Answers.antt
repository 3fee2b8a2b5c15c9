use Rattle.std.proofs.Common.{◌≡◌, ◌<◌, ◌+◌, ◌==◌, ℕ, suc, List, false, get_or, drop, map, ap, sym, ◌∙◌, arith}
use Rattle.std.specs.Prelude.{reverse}
use Rattle.bcache.specs.Common.{order_of, references_of}
use Rattle.bcache.proofs.LinkLemmas.{before_placed, last_is_placed, placed_low}
use Rattle.bcache.proofs.NextLemmas.{order_reverse}
use Rattle.bcache.proofs.OrderLemmas.{first_unused, references_read, used_passed, victim_back}
use Rattle.bcache.proofs.order.Order.victim.Goals as goal

pub loop-passed-init : goal.loop-passed-init
loop-passed-init c = record {
  at = last_is_placed c.self.inside.links c.self.invariant;
  rest = victim_back (map references_of c.args.buffers.now) (order_of c.self.inside.links);
}

pub bounds-buffers-slot : goal.bounds-buffers-slot
bounds-buffers-slot c =
    let low = placed_low (reverse (order_of c.self.inside.links)) c.loop-passed.passed (order_reverse _ c.self.invariant.order) (omega arith) in
    omega (arith, low, c.loop-passed.invariant.at)

pub returns-then-is_unused-clause-within : goal.returns-then-is_unused-clause-within
returns-then-is_unused-clause-within c =
    let low = placed_low (reverse (order_of c.self.inside.links)) c.loop-passed.passed (order_reverse _ c.self.invariant.order) (omega arith) in
    omega (arith, low, c.loop-passed.invariant.at)

pub bounds-self-inside-slot : goal.bounds-self-inside-slot
bounds-self-inside-slot c =
    let low = placed_low (reverse (order_of c.self.inside.links)) c.loop-passed.passed (order_reverse _ c.self.invariant.order) (omega arith) in
    omega (arith, low, c.loop-passed.invariant.at)

pub loop-passed-preserved : goal.loop-passed-preserved
loop-passed-preserved c =
    let back : List ℕ = reverse (order_of c.self.inside.links) in
    let is = order_reverse (order_of c.self.inside.links) c.self.invariant.order in
    let low : c.loop-passed.passed < 40 = omega arith in
    let slot_low = placed_low back c.loop-passed.passed is low in
    let next : suc c.loop-passed.passed ≡ c.loop-passed.passed + 1 = omega arith in
    let used : (get_or (map references_of c.args.buffers.now) c.loop-passed.slot 0 == 0) ≡ false =
    ap (λ (n : ℕ). n == 0) (references_read c.args.buffers.now c.loop-passed.slot c.index-buffers-slot.result (omega (arith, slot_low, c.loop-passed.invariant.at)) c.index-buffers-slot.is)
    ∙ sym c.is_unused.ensures ∙ c.if-is_unused.false in
    record {
      at =
          ap (λ (n : ℕ). get_or c.self.inside.links.before n 0) c.loop-passed.invariant.at
          ∙ before_placed c.self.inside.links c.loop-passed.passed c.self.invariant low
          ∙ ap (λ (n : ℕ). get_or back n 40) next;
      rest =
          ap (λ (n : ℕ). first_unused (map references_of c.args.buffers.now) (drop n back)) (sym next)
          ∙ used_passed (map references_of c.args.buffers.now) back c.loop-passed.passed c.loop-passed.slot _ (omega (arith, low, is.all)) c.loop-passed.invariant.at used c.loop-passed.invariant.rest;
    }
