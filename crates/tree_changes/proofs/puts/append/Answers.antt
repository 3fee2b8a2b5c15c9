use Rattle.names.specs.Lemmas.Midst.{leaves_any}
use Rattle.names.specs.Ready.{AnyOf, LeavesMidst}
use Rattle.std.proofs.Common.{ℕ, inr, refl, subst}
use Rattle.names.specs.Inside.{form_seen}
use Rattle.directories.specs.Paths.{names_of}
use Rattle.names.specs.Writing.{Writes}
use Rattle.tree_changes.proofs.puts.append.Goals as goal

pub returns-in-Ok-Ok-clause-leaves : goal.returns-in-Ok-Ok-clause-leaves
returns-in-Ok-Ok-clause-leaves g c =
    let disk = g.D.Disk in
    let old = c.args.tree.now.kernel in
    let new = c.write.new.self.kernel in
    let writes = λ (from : ℕ). Writes (form_seen disk.image old) (names_of c.args.path.now) from c.args.bytes.now in
    inr (subst (λ (from : ℕ). LeavesMidst disk (AnyOf (writes from)) old new) c.in-Ok.ensures.1 (leaves_any disk (writes c.in-Ok.from) old new (c.write.ensures.leaves (c.if-not-may_call.ensures.0 refl))))

pub returns-in-Ok-Err-clause-leaves : goal.returns-in-Ok-Err-clause-leaves
returns-in-Ok-Err-clause-leaves g c =
    let disk = g.D.Disk in
    let old = c.args.tree.now.kernel in
    let new = c.write.new.self.kernel in
    let writes = λ (from : ℕ). Writes (form_seen disk.image old) (names_of c.args.path.now) from c.args.bytes.now in
    inr (subst (λ (from : ℕ). LeavesMidst disk (AnyOf (writes from)) old new) c.in-Ok.ensures.1 (leaves_any disk (writes c.in-Ok.from) old new (c.write.ensures.leaves (c.if-not-may_call.ensures.0 refl))))

pub returns-in-Err-clause-leaves : goal.returns-in-Err-clause-leaves
returns-in-Err-clause-leaves g c =
    let disk = g.D.Disk in
    let old = c.args.tree.now.kernel in
    let new = c.write.new.self.kernel in
    let writes = λ (from : ℕ). Writes (form_seen disk.image old) (names_of c.args.path.now) from c.args.bytes.now in
    inr (subst (λ (from : ℕ). LeavesMidst disk (AnyOf (writes from)) old new) c.in-Ok.ensures.1 (leaves_any disk (writes c.in-Ok.from) old new (c.write.ensures.leaves (c.if-not-may_call.ensures.0 refl))))
