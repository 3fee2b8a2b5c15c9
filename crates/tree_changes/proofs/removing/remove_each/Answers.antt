use Rattle.std.proofs.Common.{rules}
use Rattle.names.specs.Lemmas.Over.{over_on}
use Rattle.tree_changes.specs.Removing.{StopsRemoving}
use Rattle.tree_changes.proofs.Removals.{removed_left, removed_more, stops_at}
use Rattle.tree_changes.proofs.removing.remove_each.Goals as goal

pub loop-place-preserved : goal.loop-place-preserved
loop-place-preserved g c =
    let so_far = c.loop-place.invariant in
    let k = c.args.tree.now.kernel in
    let m = c.loop-place.tree.kernel in
    let e = c.remove_one.new.tree.kernel in
    let one = c.index-below-place.result in
    record {
      ready = c.remove_one.ensures.ready;
      kept = λ was. c.in_ok-remove_one.ensures.done;
      stays = over_on g.D.Disk k m e so_far.stays c.remove_one.ensures.stays;
      leaves = removed_left c.args.below.now c.loop-place.place one c.loop-place-test.true c.loop-place.auto.place c.index-below-place.is g.D.Disk k m e so_far.removed so_far.leaves c.remove_one.ensures.leaves;
      removed = removed_more c.args.below.now c.loop-place.place one c.loop-place-test.true c.loop-place.auto.place c.index-below-place.is _ _ _ so_far.removed c.in_ok-remove_one.ensures.removes;
    }

pub returns-in_err-remove_one-clause-stays : goal.returns-in_err-remove_one-clause-stays
returns-in_err-remove_one-clause-stays g c = over_on g.D.Disk _ c.loop-place.tree.kernel _ c.loop-place.invariant.stays c.remove_one.ensures.stays

pub returns-in_err-remove_one-clause-undone : goal.returns-in_err-remove_one-clause-undone
returns-in_err-remove_one-clause-undone g c = λ ready.
    let stops : StopsRemoving g.D.Disk c.args.below.now c.args.tree.now.kernel c.remove_one.new.tree.kernel c.in_err-remove_one.field-0.0
    = stops_at c.args.below.now c.loop-place.place c.index-below-place.result c.loop-place-test.true c.loop-place.auto.place c.index-below-place.is g.D.Disk c.args.tree.now.kernel c.loop-place.tree.kernel c.remove_one.new.tree.kernel
    c.loop-place.invariant.removed c.in_err-remove_one.field-0.0 (c.in_err-remove_one.ensures.undone (c.loop-place.invariant.kept ready)) in
    search rules

pub returns-in_err-remove_one-clause-leaves : goal.returns-in_err-remove_one-clause-leaves
returns-in_err-remove_one-clause-leaves g c =
    let so_far = c.loop-place.invariant in
    removed_left c.args.below.now c.loop-place.place c.index-below-place.result c.loop-place-test.true c.loop-place.auto.place c.index-below-place.is g.D.Disk c.args.tree.now.kernel c.loop-place.tree.kernel c.remove_one.new.tree.kernel so_far.removed
    so_far.leaves c.remove_one.ensures.leaves
