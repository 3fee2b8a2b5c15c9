use Rattle.bcache.specs.Common.{first_order}
use Rattle.bcache.specs.Lemmas.Order.{order_first}
use Rattle.bcache.proofs.LinkLemmas.{links_made}
use Rattle.bcache.proofs.order.Order.new.Goals as goal

pub invariant_of-result : goal.invariant_of-result
invariant_of-result c = (links_made c.new.result first_order order_first c.new.ensures).1

pub returns : goal.returns
returns c = (links_made c.new.result first_order order_first c.new.ensures).0
