use Rattle.kernel.proofs.Awaking.{sleeps_for_cause, sole_waits, waits_with_cause}
use Rattle.kernel.proofs.laws.sleeps_for_cause.Goals as goal

pub returns-clause-cause : goal.returns-clause-cause
returns-clause-cause g c = sleeps_for_cause g.D.Disk g.I.Intake g.H.Herald c.sleeps_for_cause.ensures.sleeps

pub returns-clause-waits : goal.returns-clause-waits
returns-clause-waits g c = waits_with_cause g.D.Disk g.I.Intake g.H.Herald c.sleeps_for_cause.ensures.waits

pub returns-clause-sole : goal.returns-clause-sole
returns-clause-sole g c = sole_waits g.D.Disk g.I.Intake g.H.Herald c.sleeps_for_cause.ensures.sleeps
