use Rattle.kernel.proofs.DeedsDone.{does_its_deed}
use Rattle.kernel.proofs.laws.deeds_are_done.Goals as goal

pub returns : goal.returns
returns g c = does_its_deed g.D.Disk g.I.Intake g.H.Herald
