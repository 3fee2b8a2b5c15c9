use Rattle.std.proofs.Common.{◌≡◌, subst}
use Rattle.std.proofs.lemmas.Result.{IfErr-weaker}
use Rattle.disk_commands.specs.Causes.{IsUnchecked}
use Rattle.disk_commands.proofs.Checked.{faults_told, none_found, not_false, unchecked_told}
use Rattle.disk_commands.proofs.checking.check_disk_all.Goals as goal

pub returns-in-None-clause-refused : goal.returns-in-None-clause-refused
returns-in-None-clause-refused g c =
    let d = g.D.Disk in
    let contents = g.O.Write.contents in
    let old = c.args.out.now in
    let mid = c.print_faults-ended.new.out in
    let new = c.check_disk.new.out in
    let walked = c.print_faults-ended in
    let none = none_found contents (d.image c.args.disk.now) old mid walked.result.1 (rw c.in-Ok.is at walked.ensures.printed) c.in-None.is in
    IfErr-weaker c.check_disk.result _ _
    (λ r why. unchecked_told contents d c.args.disk.now walked.new.disk c.check_disk.new.disk old new r none.0 walked.ensures.reads.image (rw c.in-Ok.is at walked.ensures.counts)
    (subst (λ o. IsUnchecked d walked.new.disk c.check_disk.new.disk (new ≡ o) r) none.1 why))
    c.check_disk.ensures.refused

pub returns-in-Some-clause-refused : goal.returns-in-Some-clause-refused
returns-in-Some-clause-refused g c =
    let d = g.D.Disk in
    let walked = c.print_faults-ended in
    faults_told g.O.Write.contents d c.args.disk.now walked.new.disk c.args.out.now walked.new.out c.tell_count.new.out walked.result.1 c.in-Some.first c.tell_count.result
    (not_false _ c.if-not-heard.false) (rw c.in-Ok.is at walked.ensures.printed) c.in-Some.is c.tell_count.ensures
