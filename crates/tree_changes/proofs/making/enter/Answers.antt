use Rattle.std.proofs.Common.{◌∙◌, inl, inr, refl, sym}
use Rattle.std.proofs.lemmas.Result.{IfErr-weaker, IfOk-weaker}
use Rattle.directories.specs.declared.refusal.Refusal.TheVariants.{NotFound}
use Rattle.names.specs.Inside.{Never}
use Rattle.names.specs.Making.{MakesDirectoryIn}
use Rattle.names.specs.Numbered.{IsUnseenIn, LooksIn}
use Rattle.names.specs.Ready.{AnyOf}
use Rattle.names.specs.declared.asking.Found.{Found}
use Rattle.tree_changes.specs.Making.{EntersAny}
use Rattle.tree_changes.proofs.Entered.{absent_is, entered_found, entered_other, refused_ready, refused_same, refused_why}
use Rattle.tree_changes.specs.Lemmas.Lefts.{left_behind, left_more, look_leaves}
use Rattle.tree_changes.proofs.making.enter.Goals as goal

pub returns-in-Ok-clause-enters : goal.returns-in-Ok-clause-enters
returns-in-Ok-clause-enters g c =
    IfOk-weaker c.directory_found.result _ _ (entered_found c.args.from c.args.name.now c.in-Ok.found _ _ c.in-Ok.ensures.looks) c.directory_found.ensures.is

pub returns-in-Ok-clause-undone : goal.returns-in-Ok-clause-undone
returns-in-Ok-clause-undone g c = λ ready.
    IfErr-weaker c.directory_found.result _ _ (λ r is. inr (inl (entered_other c.args.from c.args.name.now c.in-Ok.found _ _ c.in-Ok.ensures.looks g.D.Disk c.args.tree.now.kernel c.look_in.new.self.kernel r refl refl is))) c.directory_found.ensures.none

pub returns-in-Ok-clause-leaves : goal.returns-in-Ok-clause-leaves
returns-in-Ok-clause-leaves g c =
    inr (look_leaves g.D.Disk (LooksIn c.args.from c.args.name.now) (EntersAny c.args.from c.args.name.now) c.args.tree.now.kernel c.look_in.new.self.kernel (λ made z is. is.same) (c.look_in.ensures.leaves (c.if-not-may_call.ensures.0 refl)))

pub returns-then-is_absent-clause-undone : goal.returns-then-is_absent-clause-undone
returns-then-is_absent-clause-undone g c = λ ready.
    let is = absent_is c.in-Err.fault (sym c.is_absent.ensures ∙ c.if-is_absent.true) in
    let same = refused_same g.D.Disk Never (IsUnseenIn c.args.from c.args.name.now) c.args.tree.now.kernel c.look_in.new.self.kernel c.in-Err.fault NotFound is (c.in-Err.ensures.refused ready) in
    let unseen = refused_why g.D.Disk Never (IsUnseenIn c.args.from c.args.name.now) c.args.tree.now.kernel c.look_in.new.self.kernel c.in-Err.fault NotFound is (c.in-Err.ensures.refused ready) in
    IfErr-weaker c.make_new.result _ _ (λ r why. inr (inr (unseen, (c.look_in.new.self.kernel, same, why))))
    (c.make_new.ensures.undone (refused_ready Found g.D.Disk c.look_in.new.self.kernel c.look_in.new.self.calls_left c.in-Err.fault NotFound is c.in-Err.ensures.done))

pub returns-then-is_absent-clause-leaves : goal.returns-then-is_absent-clause-leaves
returns-then-is_absent-clause-leaves g c =
    let disk = g.D.Disk in
    let k = c.args.tree.now.kernel in
    let m = c.look_in.new.self.kernel in
    let from = c.args.from in
    let name = c.args.name.now in
    let some = c.if-not-may_call.ensures.0 refl in
    let is = absent_is c.in-Err.fault (sym c.is_absent.ensures ∙ c.if-is_absent.true) in
    let same = refused_same disk Never (IsUnseenIn from name) k m c.in-Err.fault NotFound is (c.in-Err.ensures.refused (c.requires.ready some)) in
    inr (left_behind disk (EntersAny from name) k m c.make_new.new.tree.kernel same
    (look_leaves disk (LooksIn from name) (EntersAny from name) k m (λ made z looks. looks.same) (c.look_in.ensures.leaves some))
    (left_more disk (AnyOf (MakesDirectoryIn from name)) (EntersAny from name) m c.make_new.new.tree.kernel (λ z any. (any.0, inr any.1)) c.make_new.ensures.leaves))

pub returns-else-is_absent-clause-leaves : goal.returns-else-is_absent-clause-leaves
returns-else-is_absent-clause-leaves g c =
    inr (look_leaves g.D.Disk (LooksIn c.args.from c.args.name.now) (EntersAny c.args.from c.args.name.now) c.args.tree.now.kernel c.look_in.new.self.kernel (λ made z is. is.same) (c.look_in.ensures.leaves (c.if-not-may_call.ensures.0 refl)))
