use Rattle.std.proofs.Common.{◌≡◌, List, ℕ, subst}
use Rattle.std.specs.Prelude.{IfErr}
use Rattle.tree_changes.specs.Changes.{HasNotChanged, StopsChange}
use Rattle.tree_changes.specs.Puts.{IsUnputAt, Puts, PutsSome}
use Rattle.tree_changes.proofs.copying.put_plan.Goals as goal

pub returns-clause-refused : goal.returns-clause-refused
returns-clause-refused g c =
    let bytes = c.args.plan.bytes.items in
    let now = c.change_disk.result.1 in
    let none = c.change_disk.new.out ≡ c.args.out.now in
    subst (λ (path : List ℕ). IfErr c.change_disk.result.0 (λ r. HasNotChanged g.D.Disk (Puts path bytes) (λ t. IsUnputAt t.disk path bytes t.was t.now) c.args.last c.args.disk now none r × StopsChange g.D.Disk (PutsSome path bytes) c.args.disk now))
    c.as_slice.ensures.value c.change_disk.ensures.refused
