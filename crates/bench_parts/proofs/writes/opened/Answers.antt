use Rattle.bench_parts.proofs.writes.opened.Goals as goal

-- each process's queues are as new
pub open-requires-clause-fits : goal.open-requires-clause-fits
open-requires-clause-fits c = λ p low. c.in-Ok.ensures.fresh p
