use Rattle.std.proofs.Common.{◌≡◌, drop, get_or, map}
use Rattle.std.specs.Prelude.{reverse}
use Rattle.bcache.specs.Common.{order_of, references_of, victim_in}
use Rattle.bcache.proofs.OrderLemmas.{first_unused}
use Rattle.bcache.proofs.order.Order.victim.Given as goal

abbrev pub invariant-loop-passed : goal.invariant-loop-passed
invariant-loop-passed l = record {
  at : l.slot ≡ get_or (reverse (order_of l.self-inside.links)) l.passed 40;
  rest : first_unused (map references_of l.buffers) (drop l.passed (reverse (order_of l.self-inside.links)))
      ≡ victim_in (map references_of l.buffers) (order_of l.self-inside.links);
}
