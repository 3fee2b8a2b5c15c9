use Rattle.kernel.proofs.Recovered.{session_keeps}
use Rattle.kernel.proofs.laws.sessions_keep.Goals as goal

pub returns : goal.returns
returns g c = session_keeps g.D.Disk g.I.Intake g.H.Herald
