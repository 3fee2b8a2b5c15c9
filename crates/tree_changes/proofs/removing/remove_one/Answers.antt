use Rattle.std.proofs.Common.{◌∙◌, inl, inr, refl, subst, sym}
use Rattle.std.proofs.lemmas.Result.{IfErr-weaker, on_ok_weaker}
use Rattle.calls.specs.Calls.{image_on}
use Rattle.directories.specs.declared.refusal.Refusal.TheVariants.{IsADirectory}
use Rattle.model.specs.Files.{Files, files_of}
use Rattle.names.specs.Inside.{Never}
use Rattle.names.specs.Lemmas.Over.{over_on}
use Rattle.names.specs.Removing.{IsUnremovedIn, RemovesIn}
use Rattle.names.specs.Undirecting.{RemovesDirectoryIn}
use Rattle.tree_changes.specs.Removing.{RemovesOne}
use Rattle.tree_changes.proofs.Entered.{refused_ready, refused_same, refused_why}
use Rattle.tree_changes.specs.Lemmas.Lefts.{call_leaves, left_behind, left_more}
use Rattle.tree_changes.proofs.Removals.{directory_is}
use Rattle.tree_changes.proofs.removing.remove_one.Goals as goal

pub returns-in-Ok-clause-leaves : goal.returns-in-Ok-clause-leaves
returns-in-Ok-clause-leaves g c =
    inr (call_leaves g.D.Disk (RemovesIn c.args.one.now.from c.args.one.now.name) (RemovesOne c.args.one.now) c.args.tree.now.kernel c.remove_in.new.self.kernel (λ made z is. inl is) (c.remove_in.ensures.leaves (c.if-not-may_call.ensures.0 refl)))

pub returns-then-is_a_directory-clause-removes : goal.returns-then-is_a_directory-clause-removes
returns-then-is_a_directory-clause-removes g c =
    let one = c.args.one.now in
    let is = directory_is c.in-Err.fault (sym c.is_a_directory.ensures ∙ c.if-is_a_directory.true) in
    let same = refused_same g.D.Disk Never (λ files. IsUnremovedIn files one.from one.name) c.args.tree.now.kernel c.remove_in.new.self.kernel c.in-Err.fault IsADirectory is (c.in-Err.ensures.refused (c.requires.ready (c.if-not-may_call.ensures.0 refl))) in
    on_ok_weaker c.remove_empty.result (λ removed. inr (subst (λ (f : Files). RemovesDirectoryIn one.from one.name tt f (files_of (image_on g.D.Disk.image c.remove_empty.new.tree.kernel))) same removed)) c.remove_empty.ensures.removes

pub returns-then-is_a_directory-clause-undone : goal.returns-then-is_a_directory-clause-undone
returns-then-is_a_directory-clause-undone g c = λ ready.
    let one = c.args.one.now in
    let is = directory_is c.in-Err.fault (sym c.is_a_directory.ensures ∙ c.if-is_a_directory.true) in
    let same = refused_same g.D.Disk Never (λ files. IsUnremovedIn files one.from one.name) c.args.tree.now.kernel c.remove_in.new.self.kernel c.in-Err.fault IsADirectory is (c.in-Err.ensures.refused ready) in
    let found = refused_why g.D.Disk Never (λ files. IsUnremovedIn files one.from one.name) c.args.tree.now.kernel c.remove_in.new.self.kernel c.in-Err.fault IsADirectory is (c.in-Err.ensures.refused ready) in
    IfErr-weaker c.remove_empty.result _ _ (λ r why. inr (found, (c.remove_in.new.self.kernel, same, why)))
    (c.remove_empty.ensures.undone (refused_ready (Unit {0}) g.D.Disk c.remove_in.new.self.kernel c.remove_in.new.self.calls_left c.in-Err.fault IsADirectory is c.in-Err.ensures.done))

pub returns-then-is_a_directory-clause-leaves : goal.returns-then-is_a_directory-clause-leaves
returns-then-is_a_directory-clause-leaves g c =
    let disk = g.D.Disk in
    let one = c.args.one.now in
    let k = c.args.tree.now.kernel in
    let m = c.remove_in.new.self.kernel in
    let some = c.if-not-may_call.ensures.0 refl in
    let is = directory_is c.in-Err.fault (sym c.is_a_directory.ensures ∙ c.if-is_a_directory.true) in
    let same = refused_same disk Never (λ files. IsUnremovedIn files one.from one.name) k m c.in-Err.fault IsADirectory is (c.in-Err.ensures.refused (c.requires.ready some)) in
    inr (left_behind disk (RemovesOne one) k m c.remove_empty.new.tree.kernel same
    (call_leaves disk (RemovesIn one.from one.name) (RemovesOne one) k m (λ made z removed. inl removed) (c.remove_in.ensures.leaves some))
    (left_more disk (RemovesDirectoryIn one.from one.name tt) (RemovesOne one) m c.remove_empty.new.tree.kernel (λ z removed. inr removed) c.remove_empty.ensures.leaves))

pub returns-then-is_a_directory-clause-stays : goal.returns-then-is_a_directory-clause-stays
returns-then-is_a_directory-clause-stays g c = over_on g.D.Disk c.args.tree.now.kernel c.remove_in.new.self.kernel c.remove_empty.new.tree.kernel c.remove_in.ensures.stays c.remove_empty.ensures.stays

pub returns-else-is_a_directory-clause-undone : goal.returns-else-is_a_directory-clause-undone
returns-else-is_a_directory-clause-undone g c = λ ready. inl (sym c.is_a_directory.ensures ∙ c.if-is_a_directory.false, c.in-Err.ensures.refused ready)

pub returns-else-is_a_directory-clause-leaves : goal.returns-else-is_a_directory-clause-leaves
returns-else-is_a_directory-clause-leaves g c =
    inr (call_leaves g.D.Disk (RemovesIn c.args.one.now.from c.args.one.now.name) (RemovesOne c.args.one.now) c.args.tree.now.kernel c.remove_in.new.self.kernel (λ made z is. inl is) (c.remove_in.ensures.leaves (c.if-not-may_call.ensures.0 refl)))
