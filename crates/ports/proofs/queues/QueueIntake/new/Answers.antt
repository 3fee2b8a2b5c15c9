use Rattle.ports.proofs.LaneLemmas.{all_fresh}
use Rattle.ports.proofs.queues.QueueIntake.new.Goals as goal

pub returns-clause-fresh : goal.returns-clause-fresh
returns-clause-fresh c = all_fresh c.loop-process.lanes.items c.loop-process.invariant.empty
