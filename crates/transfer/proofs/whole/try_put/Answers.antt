use Rattle.transfer.proofs.MidstLemmas.{stays_then}
use Rattle.transfer.proofs.whole.try_put.Goals as goal

pub returns-in_err-write_first-clause-stays : goal.returns-in_err-write_first-clause-stays
returns-in_err-write_first-clause-stays g c =
    stays_then g.D.Disk c.args.kernel.now c.clear.new.kernel c.write_first.new.kernel c.in_ok-number.ensures.inside.1 c.clear.ensures.stays c.write_first.ensures.stays

pub returns-then-branch-clause-stays : goal.returns-then-branch-clause-stays
returns-then-branch-clause-stays g c =
    stays_then g.D.Disk c.args.kernel.now c.clear.new.kernel c.write_first.new.kernel c.in_ok-number.ensures.inside.1 c.clear.ensures.stays c.write_first.ensures.stays

pub returns-else-branch-clause-stays : goal.returns-else-branch-clause-stays
returns-else-branch-clause-stays g c =
    stays_then g.D.Disk c.args.kernel.now c.clear.new.kernel c.write_first.new.kernel c.in_ok-number.ensures.inside.1 c.clear.ensures.stays c.write_first.ensures.stays
