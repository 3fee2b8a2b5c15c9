use Rattle.std.proofs.Common.{◌≡◌, ◌∙◌, ◌≤◌, ℕ, ◌+◌, List, [], length, inl, refl, rules, subst, arith}
use Rattle.std.proofs.lemmas.List.{get_or_default}
use Rattle.calls.specs.Calls.{image_on}
use Rattle.model.specs.Files.{files_of}
use Rattle.names.specs.Lemmas.Over.{over_on}
use Rattle.tree_changes.specs.Making.{EntersEach, IsNotEntered, StopsEntering}
use Rattle.tree_changes.proofs.Entered.{entered_left, entered_more, left_all}
use Rattle.tree_changes.proofs.making.enter_each.Goals as goal

pub loop-name-init : goal.loop-name-init
loop-name-init g c = record { ready = c.requires.ready; kept = λ is. is; stays = record { opening = refl; name = refl }; leaves = inl refl; entered = (refl, refl) }

pub loop-name-preserved : goal.loop-name-preserved
loop-name-preserved g c =
    let so_far = c.loop-name.invariant in
    let k = c.args.tree.now.kernel in
    let m = c.loop-name.tree.kernel in
    let names = c.args.names.now in
    let is = c.name-item.is ∙ get_or_default names c.loop-name.name-index _ [] c.loop-name-test.true in
    record {
      ready = c.enter.ensures.ready;
      kept = λ was. c.in_ok-number.ensures.done;
      stays = over_on g.D.Disk k m c.enter.new.tree.kernel so_far.stays c.enter.ensures.stays;
      leaves = entered_left g.D.Disk k m c.enter.new.tree.kernel names c.loop-name.name-index c.loop-name.number c.name-item.result is so_far.entered so_far.leaves c.enter.ensures.leaves;
      entered = entered_more names c.loop-name.name-index c.loop-name.number c.in_ok-number.number c.name-item.result _ _ _ is so_far.entered c.in_ok-number.ensures.enters;
    }

pub returns-in_err-number-clause-stays : goal.returns-in_err-number-clause-stays
returns-in_err-number-clause-stays g c = over_on g.D.Disk _ c.loop-name.tree.kernel _ c.loop-name.invariant.stays c.enter.ensures.stays

pub returns-in_err-number-clause-undone : goal.returns-in_err-number-clause-undone
returns-in_err-number-clause-undone g c = λ ready.
    let names = c.args.names.now in
    let is = c.name-item.is ∙ get_or_default names c.loop-name.name-index _ [] c.loop-name-test.true in
    let stops : StopsEntering g.D.Disk names c.args.tree.now.kernel c.enter.new.tree.kernel c.in_err-number.field-0.0
    = record {
      count = c.loop-name.name-index;
      fewer = omega (arith, c.loop-name-test.true);
      from = c.loop-name.number;
      mid = c.loop-name.tree.kernel;
      entered = c.loop-name.invariant.entered;
      why = subst (λ (name : List ℕ). IsNotEntered g.D.Disk c.loop-name.number name c.loop-name.tree.kernel c.enter.new.tree.kernel c.in_err-number.field-0.0) is (c.in_err-number.ensures.undone (c.loop-name.invariant.kept ready));
    } in
    search rules

pub returns-in_err-number-clause-leaves : goal.returns-in_err-number-clause-leaves
returns-in_err-number-clause-leaves g c =
    let so_far = c.loop-name.invariant in
    let k = c.args.tree.now.kernel in
    let names = c.args.names.now in
    let low : c.loop-name.name-index + 1 ≤ length names = omega (arith, c.loop-name-test.true) in
    let is = c.name-item.is ∙ get_or_default names c.loop-name.name-index _ [] c.loop-name-test.true in
    left_all g.D.Disk k c.enter.new.tree.kernel names (c.loop-name.name-index + 1) low
    (entered_left g.D.Disk k c.loop-name.tree.kernel c.enter.new.tree.kernel names c.loop-name.name-index c.loop-name.number c.name-item.result is so_far.entered so_far.leaves c.enter.ensures.leaves)

pub returns-clause-makes : goal.returns-clause-makes
returns-clause-makes g c =
    let names = c.args.names.now in
    let all : c.loop-name.name-index ≡ length names = omega (arith, c.loop-name-test.false, c.loop-name.auto.name-index-end) in
    (c.loop-name.number, subst (λ (n : ℕ). EntersEach names n c.loop-name.number (files_of (image_on g.D.Disk.image c.args.tree.now.kernel)) (files_of (image_on g.D.Disk.image c.loop-name.tree.kernel))) all c.loop-name.invariant.entered)

pub returns-clause-leaves : goal.returns-clause-leaves
returns-clause-leaves g c =
    left_all g.D.Disk c.args.tree.now.kernel c.loop-name.tree.kernel c.args.names.now c.loop-name.name-index (omega (arith, c.loop-name.auto.name-index-end)) c.loop-name.invariant.leaves
