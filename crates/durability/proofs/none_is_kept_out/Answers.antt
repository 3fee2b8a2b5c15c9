use Rattle.durability.proofs.Beginning.{none_is_kept_out}
use Rattle.durability.proofs.none_is_kept_out.Goals as goal

pub returns : goal.returns
returns g c = none_is_kept_out g.D.Disk g.I.Intake g.H.Herald
