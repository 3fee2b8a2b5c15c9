use Rattle.disk_commands.proofs.Arrayed.{array_refused, array_reported}
use Rattle.disk_commands.proofs.checking.check_disk_array.Goals as goal

pub returns-in-true-Ok-clause-reported : goal.returns-in-true-Ok-clause-reported
returns-in-true-Ok-clause-reported g c =
    let walked = c.print_faults-ended in
    array_reported g.O.Write.contents g.D.Disk c.args.disk.now walked.new.disk c.args.out.now c.print.new.out walked.new.out c.end_array.new.out walked.result.1 c.in-Ok.ensures.ok c.in-true-Ok.is-0
    (rw c.in-true-Ok.is-1 at walked.ensures.printed) walked.ensures.reads.image c.end_array.result c.end_array.ensures

pub returns-in-true-Ok-clause-refused : goal.returns-in-true-Ok-clause-refused
returns-in-true-Ok-clause-refused g c =
    let walked = c.print_faults-ended in
    array_refused g.O.Write.contents g.D.Disk c.args.disk.now walked.new.disk c.args.out.now c.print.new.out walked.new.out c.end_array.new.out walked.result.1 c.in-Ok.ensures.ok c.in-true-Ok.is-0
    (rw c.in-true-Ok.is-1 at walked.ensures.printed) c.end_array.result c.end_array.ensures
