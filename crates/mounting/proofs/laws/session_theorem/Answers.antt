use Rattle.mounting.proofs.Sessions.{served}
use Rattle.mounting.proofs.laws.session_theorem.Goals as goal

pub returns : goal.returns
returns g c = served g.D.Disk
