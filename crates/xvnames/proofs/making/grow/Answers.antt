use Rattle.std.proofs.Common.{inl, inr, subst}
use Rattle.std.proofs.lemmas.Result.{IfErr-weaker, on_ok_weaker}
use Rattle.calls.specs.Calls.{image_on}
use Rattle.model.specs.Files.{files_of}
use Rattle.model.specs.declared.types.image.Form.{Form}
use Rattle.names.specs.Lemmas.Over.{form_stays, over_on}
use Rattle.xvnames.specs.Making.{AddsAll, files_named}
use Rattle.xvnames.specs.Unmade.{IsUngrown, StopsAdding}
use Rattle.xvnames.proofs.Stopped.{grown_left, root_left}
use Rattle.xvnames.proofs.making.grow.Goals as goal

pub returns-in-Ok-clause-grown : goal.returns-in-Ok-clause-grown
returns-in-Ok-clause-grown g c =
    let named = files_named c.args.files.now in
    let root = files_of (image_on g.D.Disk.image c.make_root.new.self.kernel) in
    let new = files_of (image_on g.D.Disk.image c.add_all.new.tree.kernel) in
    let one_form = form_stays g.D.Disk c.args.tree.now.kernel c.make_root.new.self.kernel c.make_root.ensures.stays in
    on_ok_weaker c.add_all.result
    (λ added. record {
      root = root;
      alone = c.in-Ok.ensures.root;
      added = subst (λ (f : Form). AddsAll f named root new) one_form added;
    }) c.add_all.ensures.added

pub returns-in-Err-clause-refused : goal.returns-in-Err-clause-refused
returns-in-Err-clause-refused g c = inl c.in-Err.ensures.refused

pub returns-in-Ok-clause-refused : goal.returns-in-Ok-clause-refused
returns-in-Ok-clause-refused g c =
    let named = files_named c.args.files.now in
    let mid = c.make_root.new.self.kernel in
    let m = c.add_all.new.tree.kernel in
    IfErr-weaker c.add_all.result (StopsAdding g.D.Disk named mid m) (IsUngrown g.D.Disk named c.args.tree.now.kernel m)
    (λ r stops. inr (mid, c.in-Ok.ensures.root, stops)) (c.add_all.ensures.refused c.in-Ok.ensures.ready)

pub returns-in-Ok-clause-stays : goal.returns-in-Ok-clause-stays
returns-in-Ok-clause-stays g c =
    over_on g.D.Disk c.args.tree.now.kernel c.make_root.new.self.kernel c.add_all.new.tree.kernel c.make_root.ensures.stays c.add_all.ensures.stays

pub returns-in-Err-clause-leaves : goal.returns-in-Err-clause-leaves
returns-in-Err-clause-leaves g c = λ some.
    root_left g.D.Disk (files_named c.args.files.now) c.args.tree.now.kernel c.make_root.new.self.kernel (c.make_root.ensures.leaves some)

pub returns-in-Ok-clause-leaves : goal.returns-in-Ok-clause-leaves
returns-in-Ok-clause-leaves g c = λ some.
    let named = files_named c.args.files.now in
    let k = c.args.tree.now.kernel in
    let m = c.make_root.new.self.kernel in
    grown_left g.D.Disk named k m c.add_all.new.tree.kernel c.make_root.ensures.stays c.in-Ok.ensures.root (root_left g.D.Disk named k m (c.make_root.ensures.leaves some)) c.add_all.ensures.leaves
