use Rattle.std.proofs.Common.{◌∙◌, inl, inr, refl, subst, sym}
use Rattle.std.proofs.lemmas.Result.{IfErr-weaker, on_ok_weaker}
use Rattle.calls.specs.Calls.{image_on}
use Rattle.directories.specs.Paths.{names_of}
use Rattle.directories.specs.Walks.{IsUnfound}
use Rattle.directories.specs.declared.refusal.Refusal.TheVariants.{NotFound}
use Rattle.model.specs.Files.{Files, files_of}
use Rattle.names.specs.Looks.{Looks}
use Rattle.names.specs.Making.{MakesDirectoryAt}
use Rattle.names.specs.Ready.{AnyOf}
use Rattle.names.specs.declared.asking.Found.{Found}
use Rattle.tree_changes.specs.Filling.{EntersAt}
use Rattle.tree_changes.proofs.Entered.{absent_is, led_other, refused_ready, refused_same_at}
use Rattle.tree_changes.proofs.Filled.{found_at}
use Rattle.tree_changes.specs.Lemmas.Lefts.{left_behind, left_more, look_leaves}
use Rattle.tree_changes.proofs.filling.enter_at.Goals as goal

pub returns-in-Ok-directory_found-clause-enters : goal.returns-in-Ok-directory_found-clause-enters
returns-in-Ok-directory_found-clause-enters g c =
    found_at (names_of c.args.path.now) c.in-Ok.found c.in-Ok-directory_found._number _ _ c.in-Ok.ensures.looks c.in-Ok-directory_found.ensures.is

pub returns-in-Err-directory_found-clause-undone : goal.returns-in-Err-directory_found-clause-undone
returns-in-Err-directory_found-clause-undone g c =
    inr (inl (led_other (names_of c.args.path.now) c.in-Ok.found _ _ c.in-Ok.ensures.looks g.D.Disk c.args.path.now c.args.tree.now.kernel c.look.new.self.kernel c.in-Err-directory_found.refusal refl refl c.in-Err-directory_found.ensures.none))

pub returns-in-Ok-directory_found-clause-leaves : goal.returns-in-Ok-directory_found-clause-leaves
returns-in-Ok-directory_found-clause-leaves g c =
    look_leaves g.D.Disk (Looks (names_of c.args.path.now)) (EntersAt (names_of c.args.path.now)) c.args.tree.now.kernel c.look.new.self.kernel (λ made z is. is.same) (c.look.ensures.leaves c.requires.some)

pub returns-in-Err-directory_found-clause-leaves : goal.returns-in-Err-directory_found-clause-leaves
returns-in-Err-directory_found-clause-leaves g c =
    look_leaves g.D.Disk (Looks (names_of c.args.path.now)) (EntersAt (names_of c.args.path.now)) c.args.tree.now.kernel c.look.new.self.kernel (λ made z is. is.same) (c.look.ensures.leaves c.requires.some)

pub returns-then-is_absent-clause-undone : goal.returns-then-is_absent-clause-undone
returns-then-is_absent-clause-undone g c =
    let is = absent_is c.in-Err.fault (sym c.is_absent.ensures ∙ c.if-is_absent.true) in
    let same = refused_same_at g.D.Disk c.args.path.now (IsUnfound (names_of c.args.path.now)) c.args.tree.now.kernel c.look.new.self.kernel c.in-Err.fault NotFound is (c.in-Err.ensures.refused c.requires.ready) in
    IfErr-weaker c.make_at.result _ _ (λ r why. inr (inr (c.look.new.self.kernel, same, why)))
    (c.make_at.ensures.undone (refused_ready Found g.D.Disk c.look.new.self.kernel c.look.new.self.calls_left c.in-Err.fault NotFound is c.in-Err.ensures.done))

pub returns-then-is_absent-clause-enters : goal.returns-then-is_absent-clause-enters
returns-then-is_absent-clause-enters g c =
    let names = names_of c.args.path.now in
    let k = c.args.tree.now.kernel in
    let m = c.look.new.self.kernel in
    let is = absent_is c.in-Err.fault (sym c.is_absent.ensures ∙ c.if-is_absent.true) in
    let same = refused_same_at g.D.Disk c.args.path.now (IsUnfound names) k m c.in-Err.fault NotFound is (c.in-Err.ensures.refused c.requires.ready) in
    on_ok_weaker c.make_at.result (λ made. inr (subst (λ (files : Files). AnyOf (MakesDirectoryAt names) files (files_of (image_on g.D.Disk.image c.make_at.new.tree.kernel))) same made)) c.make_at.ensures.makes

pub returns-then-is_absent-clause-leaves : goal.returns-then-is_absent-clause-leaves
returns-then-is_absent-clause-leaves g c =
    let disk = g.D.Disk in
    let names = names_of c.args.path.now in
    let k = c.args.tree.now.kernel in
    let m = c.look.new.self.kernel in
    let is = absent_is c.in-Err.fault (sym c.is_absent.ensures ∙ c.if-is_absent.true) in
    let same = refused_same_at disk c.args.path.now (IsUnfound names) k m c.in-Err.fault NotFound is (c.in-Err.ensures.refused c.requires.ready) in
    left_behind disk (EntersAt names) k m c.make_at.new.tree.kernel same (look_leaves disk (Looks names) (EntersAt names) k m (λ made z looks. looks.same) (c.look.ensures.leaves c.requires.some))
    (left_more disk (AnyOf (MakesDirectoryAt names)) (EntersAt names) m c.make_at.new.tree.kernel (λ z any. inr any) c.make_at.ensures.leaves)

pub returns-else-is_absent-clause-leaves : goal.returns-else-is_absent-clause-leaves
returns-else-is_absent-clause-leaves g c =
    look_leaves g.D.Disk (Looks (names_of c.args.path.now)) (EntersAt (names_of c.args.path.now)) c.args.tree.now.kernel c.look.new.self.kernel (λ made z is. is.same) (c.look.ensures.leaves c.requires.some)
