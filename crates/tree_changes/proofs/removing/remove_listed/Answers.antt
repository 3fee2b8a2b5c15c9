use Rattle.std.proofs.Common.{inl, inr}
use Rattle.std.proofs.lemmas.Result.{IfErr-weaker, on_ok_weaker}
use Rattle.calls.specs.Calls.{image_on}
use Rattle.directories.specs.Paths.{names_of}
use Rattle.model.specs.Files.{files_of}
use Rattle.names.specs.Lemmas.Over.{over_on}
use Rattle.names.specs.Undirecting.{RemovesDirectoryAt}
use Rattle.tree_changes.specs.Removing.{RemovesPartListed, RemovesSome}
use Rattle.tree_changes.specs.Lemmas.Lefts.{left_more, left_on}
use Rattle.tree_changes.proofs.removing.remove_listed.Goals as goal

pub returns-in-Ok-clause-removes : goal.returns-in-Ok-clause-removes
returns-in-Ok-clause-removes g c =
    on_ok_weaker c.remove_emptied.result (λ last. (files_of (image_on g.D.Disk.image c.remove_each.new.tree.kernel), c.in-Ok.ensures.removes, last)) c.remove_emptied.ensures.removes

pub returns-in-Ok-clause-undone : goal.returns-in-Ok-clause-undone
returns-in-Ok-clause-undone g c = λ ready.
    IfErr-weaker c.remove_emptied.result _ _ (λ r why. inr (c.remove_each.new.tree.kernel, c.in-Ok.ensures.removes, why)) (c.remove_emptied.ensures.undone (c.in-Ok.ensures.kept ready))

pub returns-in-Ok-clause-leaves : goal.returns-in-Ok-clause-leaves
returns-in-Ok-clause-leaves g c =
    let names = names_of c.args.path.now in
    let below = c.args.below.now in
    left_on g.D.Disk (RemovesSome below) (RemovesDirectoryAt names tt) (RemovesPartListed names below) c.args.tree.now.kernel c.remove_each.new.tree.kernel c.remove_emptied.new.tree.kernel c.remove_each.ensures.leaves c.remove_emptied.ensures.leaves
    (λ x z some. inl some)
    (inl (0, c.in-Ok.ensures.removes))
    (λ z last. inr (files_of (image_on g.D.Disk.image c.remove_each.new.tree.kernel), c.in-Ok.ensures.removes, last))

pub returns-in-Ok-clause-stays : goal.returns-in-Ok-clause-stays
returns-in-Ok-clause-stays g c = over_on g.D.Disk c.args.tree.now.kernel c.remove_each.new.tree.kernel c.remove_emptied.new.tree.kernel c.remove_each.ensures.stays c.remove_emptied.ensures.stays

pub returns-in-Err-clause-undone : goal.returns-in-Err-clause-undone
returns-in-Err-clause-undone g c = λ ready. inl (c.in-Err.ensures.undone ready)

pub returns-in-Err-clause-leaves : goal.returns-in-Err-clause-leaves
returns-in-Err-clause-leaves g c =
    left_more g.D.Disk (RemovesSome c.args.below.now) (RemovesPartListed (names_of c.args.path.now) c.args.below.now) c.args.tree.now.kernel c.remove_each.new.tree.kernel (λ z some. inl some) c.remove_each.ensures.leaves
