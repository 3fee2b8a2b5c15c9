use Rattle.std.proofs.Common.{List, ℕ, IfErr, OnOk, ap, inl, inr, subst}
use Rattle.std.proofs.lemmas.Result.{IfErr-weaker, on_ok_weaker}
use Rattle.calls.specs.Calls.{image_on}
use Rattle.model.specs.Files.{files_of}
use Rattle.model.specs.declared.types.image.Form.{Form}
use Rattle.names.specs.Inside.{form_seen}
use Rattle.names.specs.Lemmas.Over.{form_stays, over_on}
use Rattle.names.specs.Ready.{LeavesIfDone}
use Rattle.tree_changes.specs.Puts.{StopsWriting, WritesPieces, piece_count}
use Rattle.xvnames.specs.Making.{AddsFile, AddsPart}
use Rattle.xvnames.specs.Unmade.{IsUnadded}
use Rattle.xvnames.proofs.Stopped.{file_left, made_left, nothing_at}
use Rattle.xvnames.proofs.making.add.Goals as goal

pub returns-clause-added : goal.returns-clause-added
returns-clause-added g c =
    let k = c.args.tree.now.kernel in
    let m = c.make.new.self.kernel in
    let name = c.args.file.now.name.now in
    let form = form_seen g.D.Disk.image k in
    let old = files_of (image_on g.D.Disk.image k) in
    let made = files_of (image_on g.D.Disk.image m) in
    let new = files_of (image_on g.D.Disk.image c.append_all.new.tree.kernel) in
    let bytes = c.as_slice.result.now in
    let one_form = form_stays g.D.Disk k m c.make.ensures.stays in
    subst (λ (bytes : List ℕ). OnOk c.append_all.result (AddsFile form name bytes old new)) c.as_slice.ensures.value
    (on_ok_weaker c.append_all.result
    (λ writes. (c.in_default.field-0, (made, c.in_default.ensures.makes, subst (λ (f : Form). WritesPieces f name bytes (piece_count bytes) made new) one_form writes)))
    c.append_all.ensures.writes)

pub returns-clause-stays : goal.returns-clause-stays
returns-clause-stays g c = over_on g.D.Disk c.args.tree.now.kernel c.make.new.self.kernel c.append_all.new.tree.kernel c.make.ensures.stays c.append_all.ensures.stays

pub returns-in-Err-clause-refused : goal.returns-in-Err-clause-refused
returns-in-Err-clause-refused g c = λ ready. inl (c.in-Err.ensures.refused ready)

pub returns-clause-refused : goal.returns-clause-refused
returns-clause-refused g c = λ ready.
    let name = c.args.file.now.name.now in
    let bytes = c.as_slice.result.now in
    let k = c.args.tree.now.kernel in
    let m = c.append_all.new.tree.kernel in
    subst (λ (bytes : List ℕ). IfErr c.append_all.result (IsUnadded g.D.Disk name bytes k m)) c.as_slice.ensures.value
    (IfErr-weaker c.append_all.result (StopsWriting g.D.Disk name bytes c.make.new.self.kernel m) (IsUnadded g.D.Disk name bytes k m)
    (λ r stops. inr (c.in_default.field-0, (c.make.new.self.kernel, c.in_default.ensures.makes, stops))) (c.append_all.ensures.undone c.in_default.ensures.done))

pub returns-in-Err-clause-leaves : goal.returns-in-Err-clause-leaves
returns-in-Err-clause-leaves g c =
    let tree = c.args.tree.now in
    let name = c.args.file.now.name.now in
    made_left g.D.Disk tree.kernel c.make.new.self.kernel tree.calls_left (form_seen g.D.Disk.image tree.kernel) name c.args.file.now.bytes.items
    (λ zero. ap (λ t. t.kernel) (nothing_at name tree c.make.new.self c.make.result (c.make.ensures.none zero))) c.make.ensures.leaves

pub returns-clause-leaves : goal.returns-clause-leaves
returns-clause-leaves g c =
    let tree = c.args.tree.now in
    let k = tree.kernel in
    let m = c.make.new.self.kernel in
    let e = c.append_all.new.tree.kernel in
    let name = c.args.file.now.name.now in
    let bytes = c.as_slice.result.now in
    let form = form_seen g.D.Disk.image k in
    let made = made_left g.D.Disk k m tree.calls_left form name bytes
    (λ zero. ap (λ t. t.kernel) (nothing_at name tree c.make.new.self c.make.result (c.make.ensures.none zero))) c.make.ensures.leaves in
    subst (λ (bytes : List ℕ). LeavesIfDone g.D.Disk (AddsPart form name bytes) k e) c.as_slice.ensures.value
    (file_left g.D.Disk k m e name bytes c.in_default.field-0 c.make.ensures.stays c.in_default.ensures.makes made c.append_all.ensures.leaves)
