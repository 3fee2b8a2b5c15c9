use Rattle.history.specs.Lemmas.Changing.{counts_new}
use Rattle.history.specs.Lemmas.Holding.{held_new}
use Rattle.history.proofs.processes.Processes.new.Goals as goal

pub invariant_of-result : goal.invariant_of-result
invariant_of-result c =
    let l = c.loop-process in
    rw (l.invariant.0, l.invariant.1, l.invariant.2, c.new-2.ensures) (held_new l._process, counts_new l._process)
