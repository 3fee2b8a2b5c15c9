use Rattle.std.proofs.Common.{◌∙◌, ap, length, refl, subst, sym}
use Rattle.blocks.specs.contracts.memory.MemDiskDisk.TheImpl.{ghosts}
use Rattle.model.specs.Layout.{form_of, inode_count_of}
use Rattle.model.specs.Log.{recovered}
use Rattle.transfer.specs.Copies.{HoldsFiles}
use Rattle.transfer.specs.Source.{chosen_files}
use Rattle.transfer.proofs.CopierLemmas.{filled_in_memory, unfilled_in_memory}
use Rattle.transfer.proofs.copying.fill_new.Goals as goal

pub returns-in-Ok-filled-clause-filled : goal.returns-in-Ok-filled-clause-filled
returns-in-Ok-filled-clause-filled g c =
    let form = c.args.source.now.form in
    let files = chosen_files (recovered (g.D.Disk.image c.args.old.now)) c.args.source.now.kinds.items in
    let opening = c.in-Ok-filled.ensures.stays.opening in
    subst (λ d. HoldsFiles c.args.size form files (ghosts.image d)) (sym c.into_disk-memory.ensures)
    (filled_in_memory ghosts c.args.size _ form files c.fill-filled.new.kernel (ap (λ d. length (ghosts.image d)) opening ∙ c.in-Ok.ensures.made.long) (ap (λ d. form_of (ghosts.image d)) opening ∙ c.in-Ok.ensures.made.form)
    c.in-Ok-filled.ensures.filled)

pub returns-in-Err-filled-clause-refused : goal.returns-in-Err-filled-clause-refused
returns-in-Err-filled-clause-refused g c =
    unfilled_in_memory g.D.Disk ghosts (λ e. refl) c.args.size (inode_count_of (g.D.Disk.image c.args.old.now)) c.args.source.now.form (chosen_files (recovered (g.D.Disk.image c.args.old.now)) c.args.source.now.kinds.items)
    c.args.old.now c.fill-filled.new.old c.in-Ok.kernel.opening c.fill-filled.new.kernel.store.volume.device
    c.in-Err-filled.fault c.in-Ok.ensures.made.long c.in-Ok.ensures.made.form c.in-Err-filled.ensures.refused
