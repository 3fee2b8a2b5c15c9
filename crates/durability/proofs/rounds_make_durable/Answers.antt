use Rattle.std.proofs.Common.{arith}
use Rattle.durability.proofs.Idle.{few_left}
use Rattle.durability.proofs.rounds_make_durable.Goals as goal

pub returns : goal.returns
returns g c = λ x rounds k m known each many session none works after leaves.
    let few = few_left g.D.Disk g.I.Intake g.H.Herald k known in
    c.idle_is_durable.ensures x m after works
    (c.rounds_end_all.ensures rounds k m known each (omega (arith, few, many)) session none works) leaves
