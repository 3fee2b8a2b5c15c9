use Rattle.std.proofs.Common.{◌∙◌, ap, sym}
use Rattle.std.specs.Prelude.{is_some}
use Rattle.std.specs.List.{list_all}
use Rattle.offline.specs.Common.{recovered}
use Rattle.offline.specs.Clean.{is_clean_pointer}
use Rattle.offline.specs.Lemmas.Checked.{form_recovered}
use Rattle.offline.proofs.SortingLemmas.{clean_by_pointers, early_not_clean, free_not_clean}
use Rattle.offline.proofs.sorting.is_clean.Goals as goal

pub returns-then-inode-eq0-clause-clean : goal.returns-then-inode-eq0-clause-clean
returns-then-inode-eq0-clause-clean g c = free_not_clean (recovered (g.D.Disk.image c.args.disk.now)) c.args.i c.args.inode.now c.if-inode-eq0.true

pub returns-then-is_some-clause-clean : goal.returns-then-is_some-clause-clean
returns-then-is_some-clause-clean g c =
    let x = g.D.Disk.image c.args.disk.now in
    early_not_clean (recovered x) c.args.i c.args.inode.now c.args.image.now.form (sym (form_recovered x c.args.image.now c.requires.recovered)) c.if-inode-eq0.false
    (ap is_some (sym c.early_fault.ensures) ∙ sym c.is_some.ensures ∙ c.if-is_some.true)

pub returns-clause-clean : goal.returns-clause-clean
returns-clause-clean g c =
    let x = g.D.Disk.image c.args.disk.now in
    let y = recovered x in
    c.are_clean.ensures y c.args.i c.requires.counts
    ∙ ap (list_all (is_clean_pointer y c.args.i)) (c.as_slice.ensures.value ∙ c.in_ok-pointers.ensures.pointers)
    ∙ clean_by_pointers y c.args.i c.args.inode.now c.args.image.now.form (sym (form_recovered x c.args.image.now c.requires.recovered)) c.if-inode-eq0.false
    (ap is_some (sym c.early_fault.ensures) ∙ sym c.is_some.ensures ∙ c.if-is_some.false)
