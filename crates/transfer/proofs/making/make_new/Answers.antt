use Rattle.std.proofs.Common.{◌∙◌, ap, eqb, length}
use Rattle.model.specs.Codec.{made_image}
use Rattle.model.specs.Layout.{is_size}
use Rattle.model.specs.Verdict.{verdict}
use Rattle.transfer.proofs.MakingLemmas.{new_kernel, size_fits, unopened, verdict_where_sound}
use Rattle.transfer.proofs.making.make_new.Goals as goal

pub returns-in-Ok-clause-made : goal.returns-in-Ok-clause-made
returns-in-Ok-clause-made g c =
    let size = c.args.size in
    let n = c.args.ninodes in
    let done = c.in_default.ensures in
    let fits = size_fits (is_size size n) (eqb size (length (g.E.Disk.image c.args.new))) (λ off. cc (done.refuses.size_range.1 (c.requires, off))) in
    new_kernel g.E.Disk size n c.args.form c.args.new c.mkfs_as.new.disk c.in-Ok.kernel c.requires fits done.made done.writes.name
    (c.new_image_is_sound.ensures c.args.form size n c.requires fits) c.in-Ok.ensures.opened

pub returns-in-Err-open_sole-clause-refused : goal.returns-in-Err-open_sole-clause-refused
returns-in-Err-open_sole-clause-refused g c =
    let size = c.args.size in
    let n = c.args.ninodes in
    let done = c.in_default.ensures in
    let fits = size_fits (is_size size n) (eqb size (length (g.E.Disk.image c.args.new))) (λ off. cc (done.refuses.size_range.1 (c.requires, off))) in
    let sound = (c.new_image_is_sound.ensures c.args.form size n c.requires fits).sound in
    rw c.fault_of_opening.ensures
    (unopened g.E.Disk size n c.args.new c.mkfs_as.new.disk c.in-Err-open_sole.new (ap verdict done.made.image ∙ verdict_where_sound (made_image c.args.form size n) sound)
    done.made.faults c.in-Err-open_sole.fault c.in-Err-open_sole.ensures.refused)
