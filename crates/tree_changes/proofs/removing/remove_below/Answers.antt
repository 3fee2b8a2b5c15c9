use Rattle.std.proofs.Common.{inl, inr, subst, sym}
use Rattle.std.proofs.lemmas.Result.{IfErr-weaker, on_ok_weaker}
use Rattle.calls.specs.Calls.{image_on}
use Rattle.directories.specs.Paths.{names_of}
use Rattle.model.specs.Files.{Files, files_of}
use Rattle.names.specs.Lemmas.Over.{over_on}
use Rattle.tree_changes.specs.Removing.{AreNamesBelow, RemovesListed, RemovesPartBelow, RemovesPartListed}
use Rattle.tree_changes.specs.Lemmas.Lefts.{left_if_behind, left_more, stays_leaves}
use Rattle.tree_changes.proofs.removing.remove_below.Goals as goal

pub returns-in-Ok-clause-removes : goal.returns-in-Ok-clause-removes
returns-in-Ok-clause-removes g c =
    let names = names_of c.args.path.now in
    let are = subst (AreNamesBelow (files_of (image_on g.D.Disk.image c.args.tree.now.kernel)) c.args.number) (sym c.as_slice.ensures.value) c.in-Ok.ensures.below in
    on_ok_weaker c.remove_listed.result
    (λ removes. (c.as_slice.result.now, are, subst (λ (f : Files). RemovesListed names c.as_slice.result.now f (files_of (image_on g.D.Disk.image c.remove_listed.new.tree.kernel))) c.in-Ok.ensures.same removes))
    c.remove_listed.ensures.removes

pub returns-in-Ok-clause-undone : goal.returns-in-Ok-clause-undone
returns-in-Ok-clause-undone g c = λ ready.
    let are = subst (AreNamesBelow (files_of (image_on g.D.Disk.image c.args.tree.now.kernel)) c.args.number) (sym c.as_slice.ensures.value) c.in-Ok.ensures.below in
    IfErr-weaker c.remove_listed.result _ _ (λ r why. inr (c.names_below.new.tree.kernel, c.in-Ok.ensures.same, (c.as_slice.result.now, are, why))) (c.remove_listed.ensures.undone (c.in-Ok.ensures.kept ready))

pub returns-in-Ok-clause-leaves : goal.returns-in-Ok-clause-leaves
returns-in-Ok-clause-leaves g c =
    let disk = g.D.Disk in
    let k = c.args.tree.now.kernel in
    let m = c.names_below.new.tree.kernel in
    let e = c.remove_listed.new.tree.kernel in
    let names = names_of c.args.path.now in
    let below = c.as_slice.result.now in
    let are = subst (AreNamesBelow (files_of (image_on disk.image k)) c.args.number) (sym c.as_slice.ensures.value) c.in-Ok.ensures.below in
    let there = subst (λ (f : Files). AreNamesBelow f c.args.number below) (sym c.in-Ok.ensures.same) are in
    left_if_behind disk (RemovesPartBelow names c.args.number) k m e c.in-Ok.ensures.same (stays_leaves disk (RemovesPartBelow names c.args.number) k m c.names_below.ensures.leaves)
    (left_more disk (RemovesPartListed names below) (RemovesPartBelow names c.args.number) m e (λ z part. (below, there, part)) c.remove_listed.ensures.leaves)

pub returns-in-Ok-clause-stays : goal.returns-in-Ok-clause-stays
returns-in-Ok-clause-stays g c = over_on g.D.Disk c.args.tree.now.kernel c.names_below.new.tree.kernel c.remove_listed.new.tree.kernel c.names_below.ensures.stays c.remove_listed.ensures.stays

pub returns-in-Err-clause-undone : goal.returns-in-Err-clause-undone
returns-in-Err-clause-undone g c = λ ready. inl (c.in-Err.ensures.undone ready)

pub returns-in-Err-clause-leaves : goal.returns-in-Err-clause-leaves
returns-in-Err-clause-leaves g c = stays_leaves g.D.Disk (RemovesPartBelow (names_of c.args.path.now) c.args.number) c.args.tree.now.kernel c.names_below.new.tree.kernel c.names_below.ensures.leaves
