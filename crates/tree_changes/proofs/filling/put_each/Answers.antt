use Rattle.std.proofs.Common.{◌+◌, drop, inl, refl, rules, slice_index_or, subst, take}
use Rattle.calls.specs.Calls.{image_on}
use Rattle.model.specs.Files.{files_of}
use Rattle.model.specs.declared.types.image.Form.{Form}
use Rattle.names.specs.Inside.{form_seen}
use Rattle.names.specs.Lemmas.Over.{form_stays, over_on}
use Rattle.names.specs.Ready.{LeavesIfDone}
use Rattle.tree_changes.specs.Filling.{IsUnputItem, PutsItem, PutsItemSome, StopsPutting}
use Rattle.tree_changes.specs.declared.filling.Item.{Item}
use Rattle.tree_changes.proofs.Filled.{item_left, item_more_put, items_left, items_split}
use Rattle.tree_changes.proofs.filling.put_each.Goals as goal

pub loop-item-init : goal.loop-item-init
loop-item-init g c = record { ready = c.requires.ready; kept = λ is. is; stays = record { opening = refl; name = refl }; leaves = inl refl; puts = refl }

pub loop-item-preserved : goal.loop-item-preserved
loop-item-preserved g c =
    let so_far = c.loop-item.invariant in
    let disk = g.D.Disk in
    let k = c.args.tree.now.kernel in
    let m = c.loop-item.tree.kernel in
    let e = c.put_item.new.tree.kernel in
    let form = form_seen disk.image k in
    let items = c.args.items.now in
    let i = c.loop-item.item-index in
    let d = c.item-item.result in
    let lt = c.loop-item-test.true in
    let old = files_of (image_on disk.image k) in
    let mid = files_of (image_on disk.image m) in
    let new = files_of (image_on disk.image e) in
    let one = subst (λ (item : Item). PutsItem (form_seen disk.image m) item mid new) c.item-item.is c.in_ok-put_item.ensures.puts in
    let in_form = subst (λ (f : Form). PutsItem f (slice_index_or items i d) mid new) (form_stays disk k m so_far.stays) one in
    record {
      ready = c.put_item.ensures.ready;
      kept = λ is. c.in_ok-put_item.ensures.done;
      stays = over_on disk k m e so_far.stays c.put_item.ensures.stays;
      leaves = item_left disk k m e items i d lt so_far.stays so_far.puts so_far.leaves (subst (λ (item : Item). LeavesIfDone disk (PutsItemSome (form_seen disk.image m) item) m e) c.item-item.is c.put_item.ensures.leaves);
      puts = item_more_put form items i d old mid new lt so_far.puts in_form;
    }

pub returns-in_err-put_item-clause-stays : goal.returns-in_err-put_item-clause-stays
returns-in_err-put_item-clause-stays g c = over_on g.D.Disk _ c.loop-item.tree.kernel _ c.loop-item.invariant.stays c.put_item.ensures.stays

pub returns-in_err-put_item-clause-undone : goal.returns-in_err-put_item-clause-undone
returns-in_err-put_item-clause-undone g c = λ ready.
    let items = c.args.items.now in
    let i = c.loop-item.item-index in
    let d = c.item-item.result in
    let m = c.loop-item.tree.kernel in
    let e = c.put_item.new.tree.kernel in
    let refusal = c.in_err-put_item.field-0.0 in
    let stops : StopsPutting g.D.Disk items c.args.tree.now.kernel e refusal
    = record {
      before = take i items;
      item = slice_index_or items i d;
      behind = drop (i + 1) items;
      split = items_split items i d c.loop-item-test.true;
      mid = m;
      put = c.loop-item.invariant.puts;
      why = subst (λ (item : Item). IsUnputItem g.D.Disk item m e refusal) c.item-item.is (c.in_err-put_item.ensures.undone (c.loop-item.invariant.kept ready));
    } in
    search rules

pub returns-in_err-put_item-clause-leaves : goal.returns-in_err-put_item-clause-leaves
returns-in_err-put_item-clause-leaves g c =
    let so_far = c.loop-item.invariant in
    let disk = g.D.Disk in
    let k = c.args.tree.now.kernel in
    let m = c.loop-item.tree.kernel in
    let e = c.put_item.new.tree.kernel in
    let items = c.args.items.now in
    let i = c.loop-item.item-index in
    items_left disk k e e items (form_seen disk.image k) (i + 1)
    (item_left disk k m e items i c.item-item.result c.loop-item-test.true so_far.stays so_far.puts so_far.leaves
    (subst (λ (item : Item). LeavesIfDone disk (PutsItemSome (form_seen disk.image m) item) m e) c.item-item.is c.put_item.ensures.leaves))

pub returns-clause-leaves : goal.returns-clause-leaves
returns-clause-leaves g c =
    let k = c.args.tree.now.kernel in
    items_left g.D.Disk k c.loop-item.tree.kernel c.loop-item.tree.kernel c.args.items.now (form_seen g.D.Disk.image k) c.loop-item.item-index c.loop-item.invariant.leaves
