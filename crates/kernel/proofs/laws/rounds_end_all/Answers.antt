use Rattle.kernel.proofs.Rounds.{rounds_end_all}
use Rattle.kernel.proofs.laws.rounds_end_all.Goals as goal

pub returns : goal.returns
returns g c = rounds_end_all g.D.Disk g.I.Intake g.H.Herald c.sleeps_for_cause.ensures.cause
