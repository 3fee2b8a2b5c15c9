use Rattle.std.proofs.Common.{inl, inr, subst, sym}
use Rattle.std.proofs.lemmas.Result.{IfErr-weaker}
use Rattle.directories.specs.Paths.{names_of}
use Rattle.model.specs.Files.{Files}
use Rattle.names.specs.Looks.{Looks}
use Rattle.names.specs.Removing.{RemovesAt}
use Rattle.tree_changes.specs.Removing.{LeadsToNumber, RemovesPart, RemovesPartBelow}
use Rattle.tree_changes.specs.Lemmas.Lefts.{left_behind, left_more, look_leaves}
use Rattle.tree_changes.proofs.Removals.{looked_file, looked_number}
use Rattle.tree_changes.proofs.removing.remove_all.Goals as goal

pub returns-then-found-eq-DIRECTORY_KIND-clause-undone : goal.returns-then-found-eq-DIRECTORY_KIND-clause-undone
returns-then-found-eq-DIRECTORY_KIND-clause-undone g c =
    let led = looked_number (names_of c.args.path.now) c.in-Ok.found _ _ c.in-Ok.ensures.looks c.if-found-eq-DIRECTORY_KIND.true in
    IfErr-weaker c.remove_tree.result _ _ (λ r why. inr (c.look.new.self.kernel, c.in-Ok.ensures.looks.same, inr (c.in-Ok.found.number, led, why))) (c.remove_tree.ensures.undone c.in-Ok.ensures.done)

pub returns-then-found-eq-DIRECTORY_KIND-clause-leaves : goal.returns-then-found-eq-DIRECTORY_KIND-clause-leaves
returns-then-found-eq-DIRECTORY_KIND-clause-leaves g c =
    let disk = g.D.Disk in
    let names = names_of c.args.path.now in
    let k = c.args.tree.now.kernel in
    let m = c.look.new.self.kernel in
    let number = c.in-Ok.found.number in
    let led = looked_number names c.in-Ok.found _ _ c.in-Ok.ensures.looks c.if-found-eq-DIRECTORY_KIND.true in
    let there = subst (λ (f : Files). LeadsToNumber names f number) (sym c.in-Ok.ensures.looks.same) led in
    left_behind disk (RemovesPart names) k m c.remove_tree.new.tree.kernel c.in-Ok.ensures.looks.same (look_leaves disk (Looks names) (RemovesPart names) k m (λ made z looks. looks.same) (c.look.ensures.leaves c.requires.some))
    (left_more disk (RemovesPartBelow names number) (RemovesPart names) m c.remove_tree.new.tree.kernel (λ z part. inr (number, there, part)) c.remove_tree.ensures.leaves)

pub returns-else-found-eq-DIRECTORY_KIND-clause-undone : goal.returns-else-found-eq-DIRECTORY_KIND-clause-undone
returns-else-found-eq-DIRECTORY_KIND-clause-undone g c =
    IfErr-weaker c.remove_name.result _ _ (λ r why. inr (c.look.new.self.kernel, c.in-Ok.ensures.looks.same, inl (looked_file (names_of c.args.path.now) c.in-Ok.found _ _ c.in-Ok.ensures.looks c.if-found-eq-DIRECTORY_KIND.false, why))) (c.remove_name.ensures.undone c.in-Ok.ensures.done)

pub returns-else-found-eq-DIRECTORY_KIND-clause-leaves : goal.returns-else-found-eq-DIRECTORY_KIND-clause-leaves
returns-else-found-eq-DIRECTORY_KIND-clause-leaves g c =
    let disk = g.D.Disk in
    let names = names_of c.args.path.now in
    let k = c.args.tree.now.kernel in
    let m = c.look.new.self.kernel in
    left_behind disk (RemovesPart names) k m c.remove_name.new.tree.kernel c.in-Ok.ensures.looks.same (look_leaves disk (Looks names) (RemovesPart names) k m (λ made z looks. looks.same) (c.look.ensures.leaves c.requires.some))
    (left_more disk (RemovesAt names tt) (RemovesPart names) m c.remove_name.new.tree.kernel (λ z removed. inl removed) c.remove_name.ensures.leaves)

pub returns-in-Err-clause-undone : goal.returns-in-Err-clause-undone
returns-in-Err-clause-undone g c = inl (c.in-Err.ensures.refused c.requires.ready)

pub returns-in-Err-clause-leaves : goal.returns-in-Err-clause-leaves
returns-in-Err-clause-leaves g c =
    look_leaves g.D.Disk (Looks (names_of c.args.path.now)) (RemovesPart (names_of c.args.path.now)) c.args.tree.now.kernel c.look.new.self.kernel (λ made z is. is.same) (c.look.ensures.leaves c.requires.some)
