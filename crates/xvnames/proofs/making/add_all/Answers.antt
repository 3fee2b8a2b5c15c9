use Rattle.std.proofs.Common.{◌+◌, drop, inl, refl, rules, slice_index_or, subst, take}
use Rattle.calls.specs.Calls.{image_on}
use Rattle.model.specs.Files.{files_of}
use Rattle.model.specs.declared.types.image.Form.{Form}
use Rattle.names.specs.Inside.{form_seen}
use Rattle.names.specs.Lemmas.Over.{form_stays, over_on}
use Rattle.names.specs.Ready.{LeavesIfDone}
use Rattle.xvnames.specs.Making.{AddsFile, AddsPart, files_named}
use Rattle.xvnames.specs.Unmade.{IsUnadded, StopsAdding}
use Rattle.xvnames.specs.declared.making.Named.{Named}
use Rattle.xvnames.proofs.Added.{file_more_added, files_split, pair_of}
use Rattle.xvnames.proofs.Stopped.{files_left}
use Rattle.xvnames.proofs.making.add_all.Goals as goal

pub loop-file-init : goal.loop-file-init
loop-file-init g c = record { ready = c.requires; kept = λ is. is; stays = record { opening = refl; name = refl }; added = refl; leaves = inl refl }

pub loop-file-preserved : goal.loop-file-preserved
loop-file-preserved g c =
    let k = c.args.tree.now.kernel in
    let m = c.loop-file.tree.kernel in
    let e = c.add.new.tree.kernel in
    let form = form_seen g.D.Disk.image k in
    let old = files_of (image_on g.D.Disk.image k) in
    let mid = files_of (image_on g.D.Disk.image m) in
    let new = files_of (image_on g.D.Disk.image e) in
    let one_form = form_stays g.D.Disk k m c.loop-file.invariant.stays in
    let one = subst (λ (file : Named). AddsFile (form_seen g.D.Disk.image m) file.name.now file.bytes.items mid new) c.file-item.is c.in_ok-add.ensures.added in
    let file = slice_index_or c.args.files.now c.loop-file.file-index c.file-item.result in
    let in_form = subst (λ (f : Form). AddsFile f file.name.now file.bytes.items mid new) one_form one in
    record {
      ready = c.add.ensures.ready;
      kept = λ is. c.in_ok-add.ensures.done;
      stays = over_on g.D.Disk k m e c.loop-file.invariant.stays c.add.ensures.stays;
      added = file_more_added form c.args.files.now c.loop-file.file-index c.file-item.result old mid new c.loop-file-test.true c.loop-file.invariant.added in_form;
      leaves = files_left g.D.Disk k m e c.args.files.now c.loop-file.file-index c.file-item.result c.loop-file-test.true c.loop-file.invariant.stays c.loop-file.invariant.added c.loop-file.invariant.leaves
          (subst (λ (file : Named). LeavesIfDone g.D.Disk (AddsPart (form_seen g.D.Disk.image m) file.name.now file.bytes.items) m e) c.file-item.is c.add.ensures.leaves);
    }

pub returns-in_err-add-clause-stays : goal.returns-in_err-add-clause-stays
returns-in_err-add-clause-stays g c = over_on g.D.Disk _ c.loop-file.tree.kernel _ c.loop-file.invariant.stays c.add.ensures.stays

pub returns-in_err-add-clause-refused : goal.returns-in_err-add-clause-refused
returns-in_err-add-clause-refused g c = λ ready.
    let files = c.args.files.now in
    let i = c.loop-file.file-index in
    let m = c.loop-file.tree.kernel in
    let e = c.add.new.tree.kernel in
    let refusal = c.in_err-add.field-0.0 in
    let stops : StopsAdding g.D.Disk (files_named files) c.args.tree.now.kernel e refusal
    = record {
      before = files_named (take i files);
      file = pair_of (slice_index_or files i c.file-item.result);
      behind = files_named (drop (i + 1) files);
      split = files_split files i c.file-item.result c.loop-file-test.true;
      mid = m;
      added = c.loop-file.invariant.added;
      why = subst (λ (file : Named). IsUnadded g.D.Disk file.name.now file.bytes.items m e refusal) c.file-item.is (c.in_err-add.ensures.refused (c.loop-file.invariant.kept ready));
    } in
    search rules

pub returns-in_err-add-clause-leaves : goal.returns-in_err-add-clause-leaves
returns-in_err-add-clause-leaves g c =
    let m = c.loop-file.tree.kernel in
    let e = c.add.new.tree.kernel in
    files_left g.D.Disk c.args.tree.now.kernel m e c.args.files.now c.loop-file.file-index c.file-item.result c.loop-file-test.true c.loop-file.invariant.stays c.loop-file.invariant.added c.loop-file.invariant.leaves
    (subst (λ (file : Named). LeavesIfDone g.D.Disk (AddsPart (form_seen g.D.Disk.image m) file.name.now file.bytes.items) m e) c.file-item.is c.add.ensures.leaves)
