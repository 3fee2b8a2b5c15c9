use Rattle.std.proofs.Common.{rules}
use Rattle.commands_changes.proofs.Copying.{unplanned_size}
use Rattle.commands_changes.proofs.copies.plan_copy.Goals as goal

pub returns-in-Err-clause-refused : goal.returns-in-Err-clause-refused
returns-in-Err-clause-refused g c =
    unplanned_size g.D.Disk c.args.size c.args.disk.now c.check.new.disk c.match-size.size c.in_ok-report.report.sup.ninodes c.plan.result c.in-Err.fault (search rules) (search rules) (search rules) c.in-Err.is c.plan.ensures.ok c.plan.ensures.size
