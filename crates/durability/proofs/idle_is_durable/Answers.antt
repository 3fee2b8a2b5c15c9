use Rattle.durability.proofs.Idle.{idle_is_durable}
use Rattle.durability.proofs.idle_is_durable.Goals as goal

pub returns : goal.returns
returns g c = idle_is_durable g.D.Disk g.I.Intake g.H.Herald c.recovery_theorem.ensures.now
