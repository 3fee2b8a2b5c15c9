use Rattle.std.proofs.Common.{arith}
use Rattle.rings.specs.Callers.{intake_names}
use Rattle.clients.proofs.Pairs.{are_sources}
use Rattle.clients.proofs.making.feeders.Goals as goal

pub returns-clause-feeders : goal.returns-clause-feeders
returns-clause-feeders c = are_sources (intake_names c.in_ok-intake.intake) c.args.tasks.items c.args.processes c.in_ok-intake.callers.items c.in_ok-backlogs.backlogs.items c.in_ok-feeders.feeders.items
    (let count = c.in_ok-intake.ensures.counts.1 in let ok = c.in_ok-intake.callers.ok in omega (arith, count, ok)) c.in_ok-intake.ensures.callers c.in_ok-backlogs.ensures.ops c.in_ok-feeders.ensures
