use Rattle.std.proofs.Common.{◌∙◌, inr, sym}
use Rattle.std.proofs.lemmas.Result.{IfErr-weaker}
use Rattle.directories.specs.Paths.{names_of}
use Rattle.directories.specs.Walks.{IsUnfound}
use Rattle.directories.specs.declared.refusal.Refusal.TheVariants.{NotFound}
use Rattle.names.specs.Looks.{Looks}
use Rattle.names.specs.declared.asking.Found.{Found}
use Rattle.tree_changes.specs.Making.{EntersSome}
use Rattle.tree_changes.proofs.Entered.{absent_is, refused_ready, refused_same_at}
use Rattle.tree_changes.specs.Lemmas.Lefts.{left_behind, look_leaves}
use Rattle.tree_changes.proofs.making.make_all.Goals as goal

pub returns-in-Ok-directory_found-clause-leaves : goal.returns-in-Ok-directory_found-clause-leaves
returns-in-Ok-directory_found-clause-leaves g c =
    look_leaves g.D.Disk (Looks (names_of c.args.path.now)) (EntersSome (names_of c.args.path.now)) c.args.tree.now.kernel c.look.new.self.kernel (λ made z is. is.same) (c.look.ensures.leaves c.requires.some)

pub returns-in-Err-directory_found-clause-leaves : goal.returns-in-Err-directory_found-clause-leaves
returns-in-Err-directory_found-clause-leaves g c =
    look_leaves g.D.Disk (Looks (names_of c.args.path.now)) (EntersSome (names_of c.args.path.now)) c.args.tree.now.kernel c.look.new.self.kernel (λ made z is. is.same) (c.look.ensures.leaves c.requires.some)

pub returns-then-is_absent-clause-undone : goal.returns-then-is_absent-clause-undone
returns-then-is_absent-clause-undone g c =
    let is = absent_is c.in-Err.fault (sym c.is_absent.ensures ∙ c.if-is_absent.true) in
    let same = refused_same_at g.D.Disk c.args.path.now (IsUnfound (names_of c.args.path.now)) c.args.tree.now.kernel c.look.new.self.kernel c.in-Err.fault NotFound is (c.in-Err.ensures.refused c.requires.ready) in
    IfErr-weaker c.make_below.result _ _ (λ r why. inr (inr (c.look.new.self.kernel, same, why)))
    (c.make_below.ensures.undone (refused_ready Found g.D.Disk c.look.new.self.kernel c.look.new.self.calls_left c.in-Err.fault NotFound is c.in-Err.ensures.done))

pub returns-then-is_absent-clause-leaves : goal.returns-then-is_absent-clause-leaves
returns-then-is_absent-clause-leaves g c =
    let disk = g.D.Disk in
    let names = names_of c.args.path.now in
    let k = c.args.tree.now.kernel in
    let m = c.look.new.self.kernel in
    let is = absent_is c.in-Err.fault (sym c.is_absent.ensures ∙ c.if-is_absent.true) in
    let same = refused_same_at disk c.args.path.now (IsUnfound names) k m c.in-Err.fault NotFound is (c.in-Err.ensures.refused c.requires.ready) in
    left_behind disk (EntersSome names) k m c.make_below.new.tree.kernel same (look_leaves disk (Looks names) (EntersSome names) k m (λ made z looks. looks.same) (c.look.ensures.leaves c.requires.some)) c.make_below.ensures.leaves

pub returns-else-is_absent-clause-leaves : goal.returns-else-is_absent-clause-leaves
returns-else-is_absent-clause-leaves g c =
    look_leaves g.D.Disk (Looks (names_of c.args.path.now)) (EntersSome (names_of c.args.path.now)) c.args.tree.now.kernel c.look.new.self.kernel (λ made z is. is.same) (c.look.ensures.leaves c.requires.some)
