use Rattle.std.proofs.Common.{Bool, inl, refl, subst}
use Rattle.std.proofs.lemmas.Result.{err_from_is_err_and}
use Rattle.cmd.specs.Lemmas.Disks.{file_disk}
use Rattle.commands_changes.specs.Copies.{HasFilled, HasNotPlanned}
use Rattle.commands_changes.proofs.Copying.{has_made, uncopied}
use Rattle.commands.specs.Lemmas.Ended.{where_made, where_refused}
use Rattle.commands_changes.proofs.copies.copy_from.Goals as goal

pub returns-in_err-size-clause-refused : goal.returns-in_err-size-clause-refused
returns-in_err-size-clause-refused g c =
    let why : HasNotPlanned g.R.File.Read.remaining file_disk c.args.size c.in_err-size.field-0.0 = record {
      opened = c.args.disk.now;
      read = c.plan_copy.new.disk;
      is = c.requires;
      reads = c.plan_copy.ensures.reads;
      why = c.in_err-size.ensures.refused;
    } in
    let p = err_from_is_err_and c.from_residual.result c.from_residual.ensures.1 in
    rw (p.1, p.2) (inl why, refl {a = c.args.out.now})

pub returns-in_err-files-clause-refused : goal.returns-in_err-files-clause-refused
returns-in_err-files-clause-refused g c =
    let told = uncopied g.R.File.Read.remaining file_disk c.args.size c.in_ok-size.size c.args.disk.now c.plan_copy.new.disk c.fill_file-copied.new.disk _ c.requires c.plan_copy.ensures.reads c.in_ok-size.ensures.planned.asked refl c.args.target.now.sync c.in_err-files.field-0.0 (where_refused c.fill_file-copied.result c.in_err-files.field-0.0 _ c.in_err-files.was c.fill_file-copied.ensures.refused) in
    let p = err_from_is_err_and c.from_residual-in_err-files.result c.from_residual-in_err-files.ensures.1 in
    rw (p.1, p.2) told

pub returns-in-Ok-clause-copied : goal.returns-in-Ok-clause-copied
returns-in-Ok-clause-copied g c =
    let made = has_made g.R.File.Read.remaining file_disk c.args.size c.args.target.now.sync c.in_ok-size.size c.in_ok-files.files c.args.disk.now c.plan_copy.new.disk c.requires c.plan_copy.ensures.reads c.in_ok-size.ensures.planned.asked (subst (λ (sync : Bool). HasFilled file_disk c.in_ok-size.size sync c.plan_copy.new.disk c.in_ok-files.files) c.hold.ensures.sync (where_made c.fill_file-copied.result c.in_ok-files.files _ c.in_ok-files.was c.fill_file-copied.ensures.filled)) in
    record { count = c.in_ok-files.files; made = made; printed = c.in-Ok.ensures.ok }

pub returns-clause-refused : goal.returns-clause-refused
returns-clause-refused g c =
    (c.in_ok-files.files, has_made g.R.File.Read.remaining file_disk c.args.size c.args.target.now.sync c.in_ok-size.size c.in_ok-files.files c.args.disk.now c.plan_copy.new.disk c.requires c.plan_copy.ensures.reads c.in_ok-size.ensures.planned.asked (subst (λ (sync : Bool). HasFilled file_disk c.in_ok-size.size sync c.plan_copy.new.disk c.in_ok-files.files) c.hold.ensures.sync (where_made c.fill_file-copied.result c.in_ok-files.files _ c.in_ok-files.was c.fill_file-copied.ensures.filled)))
