use Rattle.std.proofs.Common.{◌≡◌, subst}
use Rattle.std.specs.Prelude.{IfErr, Result}
use Rattle.tree_changes.specs.Changes.{HasNotChanged, StopsChange}
use Rattle.tree_changes.specs.Puts.{IsUnputAt, Puts, PutsSome}
use Rattle.tree_changes.specs.declared.faults.ChangeRefusal.{ChangeRefusal}
use Rattle.tree_changes.proofs.copying.copy_disk.Goals as goal

pub returns-in-Err-default-clause-refused : goal.returns-in-Err-default-clause-refused
returns-in-Err-default-clause-refused g c =
    let path = c.in-Ok.plan.path.items in
    let bytes = c.in-Ok.plan.bytes.items in
    let read = c.plan_on.new.disk in
    let now = c.put_plan.result.1 in
    let none = c.put_plan.new.out ≡ c.args.out.now in
    let last = c.args.copy.now.last in
    let refused = subst (λ (r : Result (Unit {0}) ChangeRefusal). IfErr r (λ why. HasNotChanged g.D.Disk (Puts path bytes) (λ t. IsUnputAt t.disk path bytes t.was t.now) last read now none why × StopsChange g.D.Disk (PutsSome path bytes) read now)) c.in-Err-default.is-0 c.put_plan.ensures.refused in
    record { path = path; bytes = bytes; read = read; planned = c.in-Ok.ensures.plan; refused = refused.0; stops = refused.1 }
