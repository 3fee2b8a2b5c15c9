use Rattle.std.proofs.Common.{◌∙◌, ap}
use Rattle.std.proofs.lemmas.Result.{err_from_is_err_and}
use Rattle.blocks.specs.Disk.{Image}
use Rattle.model.specs.Layout.{inode_count_of}
use Rattle.model.specs.Log.{recovered}
use Rattle.transfer.specs.Source.{chosen_files}
use Rattle.transfer.proofs.CopierLemmas.{uncopied}
use Rattle.transfer.proofs.copier.copy_into.Goals as goal

pub returns-in_err-copy_chosen-clause-refused : goal.returns-in_err-copy_chosen-clause-refused
returns-in_err-copy_chosen-clause-refused g c =
    let d = g.D.Disk in
    let mid = c.read_source.new.old in
    let same = c.read_source.ensures.reads.image in
    let all = c.in_ok-source.ensures.all in
    let kinds = c.in_ok-source.source.kinds.items in
    let p = err_from_is_err_and c.from_residual-in_err-copy_chosen.result c.from_residual-in_err-copy_chosen.ensures.1 in
    rw (p.1, p.2)
    (uncopied d g.E.Disk c.args.size c.args.old.now c.copy_chosen.new.old c.args.new.now mid c.in_ok-source.ensures.faults
    (inode_count_of (d.image mid)) c.in_ok-source.source.form (chosen_files (recovered (d.image mid)) kinds) (ap inode_count_of same)
    same all.sound all.first all.form (ap (λ (z : Image). chosen_files (recovered z) kinds) same ∙ all.files) c.copy_chosen.new.new c.in_err-copy_chosen.field-0.0 c.in_err-copy_chosen.ensures.refused)
