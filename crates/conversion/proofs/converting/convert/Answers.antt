use Rattle.std.proofs.Common.{◌≡◌, ◌∙◌, None, sym, subst}
use Rattle.conversion.specs.Common.{chosen_size, Image, IsConverted}
use Rattle.model.specs.Verdict.{verdict}
use Rattle.conversion.specs.Converted.{IsNewFault}
use Rattle.conversion.proofs.OwnLemmas.{of_no_use}
use Rattle.conversion.proofs.OverLemmas.{files_come_over}
use Rattle.conversion.proofs.converting.convert.Goals as goal

pub returns-in-Ok-clause-converted : goal.returns-in-Ok-clause-converted
returns-in-Ok-clause-converted g c =
    let d = g.D.Disk in
    let x = d.image c.args.old.now in
    let size = chosen_size x 31 c.args.size in
    let whole = c.in_ok-new.ensures.moved in
    let judged = subst (λ (y : Image). verdict y ≡ None) whole c.in-Ok.ensures.sound in
    subst (IsConverted x size) (sym (c.check_new.ensures.same ∙ whole))
    (files_come_over x c.args.size (g.met.D.Disk.is_image c.args.old.now) c.in_ok-new.ensures.taken judged)

pub returns-in-Err-clause-refused : goal.returns-in-Err-clause-refused
returns-in-Err-clause-refused g c =
    let d = g.D.Disk in
    of_no_use (d.image c.args.old.now) c.args.size (d.fault_count c.args.old.now) (d.fault_count c.move_image.new.old) c.in-Err.fault
    (g.met.D.Disk.is_image c.args.old.now) c.in_ok-new.ensures.taken c.in_ok-new.ensures.faults
    (subst (λ (y : Image). IsNewFault y c.in-Err.fault) c.in_ok-new.ensures.moved c.in-Err.ensures.refused)
