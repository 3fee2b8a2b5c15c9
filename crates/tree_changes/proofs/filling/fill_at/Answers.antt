use Rattle.std.proofs.Common.{inr, subst}
use Rattle.std.proofs.lemmas.Result.{IfErr-weaker, on_ok_weaker}
use Rattle.calls.specs.Calls.{image_on}
use Rattle.directories.specs.Paths.{names_of}
use Rattle.model.specs.Files.{files_of}
use Rattle.model.specs.declared.types.image.Form.{Form}
use Rattle.names.specs.Inside.{form_seen}
use Rattle.names.specs.Lemmas.Over.{form_stays, over_on}
use Rattle.tree_changes.specs.Filling.{PutsEach}
use Rattle.tree_changes.proofs.Filled.{filled_left, unentered_left}
use Rattle.tree_changes.proofs.filling.fill_at.Goals as goal

pub returns-in-Ok-clause-fills : goal.returns-in-Ok-clause-fills
returns-in-Ok-clause-fills g c =
    let disk = g.D.Disk in
    let k = c.args.tree.now.kernel in
    let m = c.enter_at.new.tree.kernel in
    let mid = files_of (image_on disk.image m) in
    let new = files_of (image_on disk.image c.put_each.new.tree.kernel) in
    on_ok_weaker c.put_each.result
    (λ puts. (mid, c.in-Ok.ensures.enters, subst (λ (f : Form). PutsEach f c.args.items.now mid new) (form_stays disk k m c.enter_at.ensures.stays) puts))
    c.put_each.ensures.puts

pub returns-in-Ok-clause-undone : goal.returns-in-Ok-clause-undone
returns-in-Ok-clause-undone g c =
    IfErr-weaker c.put_each.result _ _ (λ r why. inr (c.enter_at.new.tree.kernel, c.in-Ok.ensures.enters, why)) (c.put_each.ensures.undone c.in-Ok.ensures.done)

pub returns-in-Ok-clause-stays : goal.returns-in-Ok-clause-stays
returns-in-Ok-clause-stays g c = over_on g.D.Disk c.args.tree.now.kernel c.enter_at.new.tree.kernel c.put_each.new.tree.kernel c.enter_at.ensures.stays c.put_each.ensures.stays

pub returns-in-Ok-clause-leaves : goal.returns-in-Ok-clause-leaves
returns-in-Ok-clause-leaves g c =
    filled_left g.D.Disk c.args.tree.now.kernel c.enter_at.new.tree.kernel c.put_each.new.tree.kernel c.args.items.now (names_of c.args.path.now) c.enter_at.ensures.stays c.in-Ok.ensures.enters c.enter_at.ensures.leaves c.put_each.ensures.leaves

pub returns-in-Err-clause-leaves : goal.returns-in-Err-clause-leaves
returns-in-Err-clause-leaves g c =
    let k = c.args.tree.now.kernel in
    let m = c.enter_at.new.tree.kernel in
    unentered_left g.D.Disk k m m c.args.items.now (form_seen g.D.Disk.image k) (names_of c.args.path.now) c.enter_at.ensures.leaves
