use Rattle.std.proofs.Common.{◌∙◌, ℕ, Option, refl, sym, ap, subst}
use Rattle.model.specs.Files.{files_of}
use Rattle.model.specs.Layout.{form_of}
use Rattle.model.specs.Log.{recovered}
use Rattle.model.specs.declared.types.image.Dinode.{Dinode}
use Rattle.model.specs.declared.types.image.Form.{Form}
use Rattle.model.specs.Lemmas.FileNumbers.{none_at_zero}
use Rattle.transfer.specs.Judging.{FindsOld}
use Rattle.transfer.specs.Needs.{needed_blocks}
use Rattle.transfer.specs.Places.{IsOtherOld, LacksOld}
use Rattle.transfer.proofs.ImageLemmas.{file_number, form_recovered, free_number, none_past, used_number}
use Rattle.transfer.proofs.judging.old_blocks.Goals as goal
use Rattle.transfer.proofs.judging.old_blocks.Goals.{then-number-eq0-via-then-number-eq0, then-number-eq0-via-else-number-eq0+then-number-image}

pub returns-then-number-eq0-clause-refused : goal.returns-then-number-eq0-clause-refused
returns-then-number-eq0-clause-refused g c =
    let x = g.D.Disk.image c.args.disk.now in (
      subst (LacksOld (files_of (recovered x))) (sym c.in-Some.is)
          (elim c.then-number-eq0.branch [
            | then-number-eq0-via-then-number-eq0 w ↦ none_at_zero (recovered x) c.in-Some.number w.if-number-eq0.true
            | then-number-eq0-via-else-number-eq0+then-number-image w ↦ none_past x c.args.image.now c.requires.checked c.in-Some.number w.if-number-image.true
          ]),
      refl,
    )

pub returns-then-inode-eq0-clause-refused : goal.returns-then-inode-eq0-clause-refused
returns-then-inode-eq0-clause-refused g c =
    let x = g.D.Disk.image c.args.disk.now in (
      subst (LacksOld (files_of (recovered x))) (sym c.in-Some.is)
          (free_number x c.args.image.now c.requires.checked c.in-Some.number c.in-Ok.inode c.if-number-eq0.false c.if-number-image.false c.in-Ok.ensures.ok c.if-inode-eq0.true),
      c.in-Ok.ensures.faults,
    )

pub returns-then-inode-ne-PLAIN-clause-refused : goal.returns-then-inode-ne-PLAIN-clause-refused
returns-then-inode-ne-PLAIN-clause-refused g c =
    let x = g.D.Disk.image c.args.disk.now in (
      subst (IsOtherOld (files_of (recovered x))) (sym c.in-Some.is)
          (_, file_number x c.args.image.now c.requires.checked c.in-Some.number c.in-Ok.inode c.if-number-eq0.false c.if-number-image.false c.in-Ok.ensures.ok c.if-inode-eq0.false, c.if-inode-ne-PLAIN.true),
      c.in-Ok.ensures.faults,
    )

pub returns-clause-found : goal.returns-clause-found
returns-clause-found g c =
    let x = g.D.Disk.image c.args.disk.now in
    let image = c.args.image.now in
    let inode = c.in-Ok.inode in
    let checked = c.requires.checked in
    subst (λ (old : Option ℕ). FindsOld (recovered x) old c.needed_blocks.result) (sym c.in-Some.is)
    (record {
      there = used_number x image checked c.in-Some.number inode c.if-number-eq0.false c.if-number-image.false c.in-Ok.ensures.ok c.if-inode-eq0.false;
      plain = (_, file_number x image checked c.in-Some.number inode c.if-number-eq0.false c.if-number-image.false c.in-Ok.ensures.ok c.if-inode-eq0.false, c.if-inode-ne-PLAIN.false);
      count = c.needed_blocks.ensures.count ∙ ap (λ (form : Form). needed_blocks form inode.size) (form_recovered x image checked)
          ∙ ap (λ (d : Dinode). needed_blocks (form_of (recovered x)) d.size) c.in-Ok.ensures.ok;
      few = c.needed_blocks.ensures.few;
    })
