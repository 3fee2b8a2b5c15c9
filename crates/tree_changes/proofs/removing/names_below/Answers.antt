use Rattle.std.proofs.Common.{◌∙◌, ◌<◌, ◌≤◌, length, refl, rules, arith}
use Rattle.std.proofs.lemmas.Grind.{common_steps}
use Rattle.std.proofs.lemmas.Result.{err_from_is_err_and}
use Rattle.calls.specs.Calls.{image_on}
use Rattle.model.specs.Files.{files_of}
use Rattle.names.specs.Lemmas.Over.{over_on}
use Rattle.tree_changes.specs.Removing.{names_in, Stays}
use Rattle.tree_changes.specs.Lemmas.Lefts.{left_if_behind}
use Rattle.tree_changes.proofs.Listed.{all_names, grown_length, grown_names}
use Rattle.tree_changes.proofs.removing.names_below.Goals as goal

pub returns-in_err-add_names-clause-undone : goal.returns-in_err-add_names-clause-undone
returns-in_err-add_names-clause-undone g c = λ ready.
    let p = err_from_is_err_and c.from_residual.result c.from_residual.ensures.1 in
    rw (p.1, p.2) (c.args.tree.now.kernel, refl, c.in_err-add_names.ensures.undone ready)

pub returns-in_err-add_names-2-clause-undone : goal.returns-in_err-add_names-2-clause-undone
returns-in_err-add_names-2-clause-undone g c = λ ready.
    let so_far = c.loop-place.invariant in
    let p = err_from_is_err_and c.from_residual-in_err-add_names-2.result c.from_residual-in_err-add_names-2.ensures.1 in
    rw (p.1, p.2) (c.loop-place.tree.kernel, so_far.same ∙ c.in_ok-add_names.ensures.same, c.in_err-add_names-2.ensures.undone (so_far.kept c.in_ok-add_names.ensures.done))

pub returns-in_err-add_names-2-clause-leaves : goal.returns-in_err-add_names-2-clause-leaves
returns-in_err-add_names-2-clause-leaves g c =
    let so_far = c.loop-place.invariant in
    let disk = g.D.Disk in
    let first = c.add_names.new.tree.kernel in
    left_if_behind disk Stays c.args.tree.now.kernel first c.add_names-in-loop-place.new.tree.kernel c.in_ok-add_names.ensures.same c.add_names.ensures.leaves
    (left_if_behind disk Stays first c.loop-place.tree.kernel c.add_names-in-loop-place.new.tree.kernel so_far.same so_far.leaves c.add_names-in-loop-place.ensures.leaves)

pub loop-place-preserved : goal.loop-place-preserved
loop-place-preserved g c =
    let so_far = c.loop-place.invariant in
    let disk = g.D.Disk in
    let first = c.add_names.new.tree.kernel in
    let m = c.loop-place.tree.kernel in
    let e = c.add_names-in-loop-place.new.tree.kernel in
    let files = files_of (image_on disk.image m) in
    let below = c.loop-place.below.items in
    let low : c.loop-place.place < length below = first_of (search rules, grind (arith, common_steps)) in
    record {
      ready = c.add_names-in-loop-place.ensures.ready;
      kept = λ was. c.in_ok-add_names-2.ensures.done;
      stays = over_on disk first m e so_far.stays c.add_names-in-loop-place.ensures.stays;
      same = c.in_ok-add_names-2.ensures.same ∙ so_far.same;
      leaves = left_if_behind disk Stays first m e so_far.same so_far.leaves c.add_names-in-loop-place.ensures.leaves;
      low = grown_length c.loop-place.place below (names_in files c.index.result.now.number) c.add_names-in-loop-place.new.below.items low c.in_ok-add_names-2.ensures.adds;
      below = grown_names files (files_of (image_on disk.image e)) c.args.number c.index.result.now.number c.loop-place.place below c.add_names-in-loop-place.new.below.items c.index.result.now low c.index.ensures refl so_far.below
          c.in_ok-add_names-2.ensures.adds c.in_ok-add_names-2.ensures.same;
    }

pub returns-clause-below : goal.returns-clause-below
returns-clause-below g c =
    let so_far = c.loop-place.invariant in
    let past : length c.loop-place.below.items ≤ c.loop-place.place = first_of (search rules, grind (arith, common_steps)) in
    all_names (files_of (image_on g.D.Disk.image c.args.tree.now.kernel)) (files_of (image_on g.D.Disk.image c.loop-place.tree.kernel)) c.args.number c.loop-place.place c.loop-place.below.items past so_far.below
    (so_far.same ∙ c.in_ok-add_names.ensures.same)

pub returns-clause-leaves : goal.returns-clause-leaves
returns-clause-leaves g c =
    left_if_behind g.D.Disk Stays c.args.tree.now.kernel c.add_names.new.tree.kernel c.loop-place.tree.kernel c.in_ok-add_names.ensures.same c.add_names.ensures.leaves c.loop-place.invariant.leaves
