use Rattle.lost_writes.proofs.Sessions.{opening_carries, session_carries, session_endures}
use Rattle.lost_writes.proofs.laws.sessions_are_carried.Goals as goal

pub returns-clause-opens : goal.returns-clause-opens
returns-clause-opens g c = opening_carries g.D.Disk g.I.Intake g.H.Herald c.commits_are_carried.ensures.begins

pub returns-clause-turns : goal.returns-clause-turns
returns-clause-turns g c = session_carries g.D.Disk g.I.Intake g.H.Herald c.steps_are_carried.ensures.steps

pub returns-clause-stops : goal.returns-clause-stops
returns-clause-stops g c = session_endures g.D.Disk g.I.Intake g.H.Herald c.steps_are_carried.ensures.steps c.steps_are_carried.ensures.stops
