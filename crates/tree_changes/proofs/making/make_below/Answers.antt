use Rattle.std.proofs.Common.{◌∙◌, ℕ, List, inr, subst}
use Rattle.std.specs.Prelude.{OnOk}
use Rattle.std.proofs.lemmas.Result.{IfErr-weaker}
use Rattle.calls.specs.Calls.{image_on}
use Rattle.model.specs.Files.{files_of}
use Rattle.names.specs.Ready.{LeavesIfDone}
use Rattle.tree_changes.specs.Making.{EntersAll, EntersSome, StopsEntering}
use Rattle.tree_changes.proofs.making.make_below.Goals as goal

pub returns-in-Ok-clause-makes : goal.returns-in-Ok-clause-makes
returns-in-Ok-clause-makes g c =
    subst (λ (names : List (List ℕ)). OnOk c.enter_each.result (EntersAll names (files_of (image_on g.D.Disk.image c.args.tree.now.kernel)) (files_of (image_on g.D.Disk.image c.enter_each.new.tree.kernel)))) (c.as_slice.ensures.value ∙ c.in-Ok.ensures.names)
    c.enter_each.ensures.makes

pub returns-in-Ok-clause-undone : goal.returns-in-Ok-clause-undone
returns-in-Ok-clause-undone g c = λ ready.
    IfErr-weaker c.enter_each.result _ _
    (λ r why. inr (subst (λ (names : List (List ℕ)). StopsEntering g.D.Disk names c.args.tree.now.kernel c.enter_each.new.tree.kernel r) (c.as_slice.ensures.value ∙ c.in-Ok.ensures.names) why))
    (c.enter_each.ensures.undone ready)

pub returns-in-Ok-clause-leaves : goal.returns-in-Ok-clause-leaves
returns-in-Ok-clause-leaves g c =
    subst (λ (names : List (List ℕ)). LeavesIfDone g.D.Disk (EntersSome names) c.args.tree.now.kernel c.enter_each.new.tree.kernel) (c.as_slice.ensures.value ∙ c.in-Ok.ensures.names) c.enter_each.ensures.leaves
