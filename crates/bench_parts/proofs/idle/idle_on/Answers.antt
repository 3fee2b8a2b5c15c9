use Rattle.bench_parts.proofs.idle.idle_on.Goals as goal

-- each process's rings are as new
pub open-requires-clause-fits : goal.open-requires-clause-fits
open-requires-clause-fits g c = λ p low. c.in-Ok.ensures.fresh p
