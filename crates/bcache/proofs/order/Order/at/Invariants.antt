use Rattle.std.proofs.Common.{◌≡◌, get_or}
use Rattle.bcache.specs.Common.{order_of}
use Rattle.bcache.proofs.order.Order.at.Given as goal

abbrev pub invariant-loop-passed : goal.invariant-loop-passed
invariant-loop-passed l = l.slot ≡ get_or (order_of l.self-inside.links) l.passed 40
