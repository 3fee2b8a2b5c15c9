use Rattle.std.proofs.Common.{◌≡◌, ◌∙◌, ℕ, length, ap, subst}
use Rattle.std.proofs.lemmas.Result.{err_from_is_err_and}
use Rattle.blocks.specs.Disk.{Image}
use Rattle.model.specs.Layout.{form_of, inode_count_of}
use Rattle.model.specs.Log.{recovered}
use Rattle.wal.specs.Recovery.{LeavesIfCalm}
use Rattle.transfer.specs.Copies.{IsFilledOut, IsNoneOrFilled}
use Rattle.transfer.specs.Rescues.{IsNoneOrRescued}
use Rattle.transfer.specs.Source.{chosen_files, rescued_files}
use Rattle.transfer.proofs.CopierLemmas.{filled_as, unrescued, whole_as}
use Rattle.transfer.proofs.SourceLemmas.{opened_long, opened_none}
use Rattle.transfer.proofs.rescuer.rescue_into.Given.{Over}
use Rattle.transfer.proofs.rescuer.rescue_into.Goals.{After-copy_chosen}
use Rattle.transfer.proofs.rescuer.rescue_into.Goals as goal

module _ (g : Over) (c : After-copy_chosen g) where
  -- the files that were copied are the clean ones
  are : chosen_files (recovered (g.D.Disk.image c.read_clean.new.old)) c.in_ok-source.source.kinds.items ≡ rescued_files (recovered (g.D.Disk.image c.args.old.now))
  are = ap (λ (z : Image). chosen_files (recovered z) c.in_ok-source.source.kinds.items) c.read_clean.ensures.reads.image ∙ c.in_ok-source.ensures.clean.files

  long : c.in_ok-source.source.image.sup.size ≡ length (g.D.Disk.image c.args.old.now)
  long = opened_long (g.D.Disk.image c.args.old.now) c.in_ok-source.source.image c.in_ok-source.ensures.source.image

  -- what a stop leaves
  whole : LeavesIfCalm g.E.Disk c.args.new.now c.copy_chosen.new.new (IsNoneOrRescued (g.D.Disk.image c.args.old.now) (g.E.Disk.image c.args.new.now))
  whole =
      let x = g.D.Disk.image c.args.old.now in
      subst (λ (n : ℕ). LeavesIfCalm g.E.Disk c.args.new.now c.copy_chosen.new.new (IsNoneOrFilled n (form_of x) (rescued_files (recovered x)) (g.E.Disk.image c.args.new.now))) long
      (whole_as g.E.Disk c.in_ok-source.source.image.sup.size c.in_ok-source.source.form (chosen_files (recovered (g.D.Disk.image c.read_clean.new.old)) c.in_ok-source.source.kinds.items)
      c.args.new.now c.copy_chosen.new.new (form_of x) (rescued_files (recovered x)) c.in_ok-source.ensures.clean.form are c.copy_chosen.ensures.whole)

pub returns-in_err-copy_chosen-clause-refused : goal.returns-in_err-copy_chosen-clause-refused
returns-in_err-copy_chosen-clause-refused g c =
    let here = (goal.at.returns-in_err-copy_chosen-clause-refused g c).After-copy_chosen in
    let d = g.D.Disk in
    let mid = c.read_clean.new.old in
    let source = c.in_ok-source.source in
    let p = err_from_is_err_and c.from_residual-in_err-copy_chosen.result c.from_residual-in_err-copy_chosen.ensures.1 in
    rw (p.1, p.2)
    (unrescued d g.E.Disk source.image.sup.size c.args.old.now c.copy_chosen.new.old c.args.new.now mid c.in_ok-source.ensures.faults
    (inode_count_of (d.image mid)) source.form (chosen_files (recovered (d.image mid)) source.kinds.items) (ap inode_count_of c.read_clean.ensures.reads.image)
    c.read_clean.ensures.reads.image (opened_none (d.image c.args.old.now) source.image c.in_ok-source.ensures.source.image) (long g here) c.in_ok-source.ensures.clean.form (are g here)
    c.copy_chosen.new.new c.in_err-copy_chosen.field-0.0 c.in_err-copy_chosen.ensures.refused)

pub returns-in_err-copy_chosen-clause-whole : goal.returns-in_err-copy_chosen-clause-whole
returns-in_err-copy_chosen-clause-whole g c = whole g (goal.at.returns-in_err-copy_chosen-clause-whole g c).After-copy_chosen

pub returns-clause-rescued : goal.returns-clause-rescued
returns-clause-rescued g c =
    let here = (goal.at.returns-clause-rescued g c).After-copy_chosen in
    let x = g.D.Disk.image c.args.old.now in
    let source = c.in_ok-source.source in
    record {
      opened = opened_none x source.image c.in_ok-source.ensures.source.image;
      rescue = subst (λ (n : ℕ). IsFilledOut g.E.Disk n (form_of x) (rescued_files (recovered x)) c.args.sync c.args.new.now c.copy_chosen.new.new) (long g here)
          (filled_as g.E.Disk source.image.sup.size source.form (chosen_files (recovered (g.D.Disk.image c.read_clean.new.old)) source.kinds.items)
          c.args.new.now c.copy_chosen.new.new (form_of x) (rescued_files (recovered x)) c.in_ok-source.ensures.clean.form (are g here) c.args.sync c.in_ok-copy_chosen.ensures.filled);
      tells = c.in_ok-source.ensures.told;
    }

pub returns-clause-whole : goal.returns-clause-whole
returns-clause-whole g c = whole g (goal.at.returns-clause-whole g c).After-copy_chosen
