use Rattle.example_programs.proofs.stopping.stop_two.Goals as goal

-- each process's queues are as new
pub open-requires-clause-fits : goal.open-requires-clause-fits
open-requires-clause-fits c = λ p low. c.in-Ok.ensures.fresh p
