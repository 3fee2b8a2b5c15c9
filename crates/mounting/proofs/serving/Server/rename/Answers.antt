use Rattle.directories.specs.Entries.{padded}
use Rattle.names.specs.Undirecting.{RemovesDirectoryIn}
use Rattle.names.specs.Numbered.{IsUnseenIn}
use Rattle.mounting.specs.Causes.{IsNoNewName, IsNotOver, IsNotRenamed, IsRefused, LeadsTo, errno_of}
use Rattle.mounting.proofs.Hindering.{left_call, left_for, err_by, left_after}
use Rattle.std.proofs.Common.{◌∙◌, ◌≡◌, ℕ, List, Err, inl, inr, subst, arith, refl, sym, ◌⊎◌}
use Rattle.calls.specs.Calls.{image_on}
use Rattle.model.specs.Files.{Files, files_of}
use Rattle.mounting.specs.Changes.{RenamesFile, StaysIfRefused, StaySame}
use Rattle.names.specs.Ready.{AnyOf}
use Rattle.names.specs.Renaming.{Renames, IsUnrenamed}
use Rattle.names.specs.declared.asking.Found.{Found}
use Rattle.names.specs.declared.refusal.TreeFault.{TreeFault}
use Rattle.names.specs.Inside.{form_seen}
use Rattle.std.proofs.lemmas.Result.{on_ok_weaker, err_from_is_err_and}
use Rattle.mounting.proofs.Asking.{renamed_at, twice}
use Rattle.mounting.proofs.serving.Server.rename.Goals as goal

pub returns-in_err-source-clause-makes : goal.returns-in_err-source-clause-makes
returns-in_err-source-clause-makes g c =
    λ task o first within before. c.look_in.ensures.looks task o first before

pub returns-in_err-rename_in-in-Err-Refused-clause-makes : goal.returns-in_err-rename_in-in-Err-Refused-clause-makes
returns-in_err-rename_in-in-Err-Refused-clause-makes g c =
    λ task o first within before. c.rename_in.ensures.makes task o first
    (λ x z is. within x z (inl (twice (λ (a b : List ℕ). AnyOf (Renames c.args.from a c.args.to b) x z) _ _ _ _ c.in_ok-old.ensures.is c.in_ok-name.ensures.is is)))
    (c.look_in-2.ensures.looks task o first (c.look_in.ensures.looks task o first before))

pub returns-then-flags-eq-NEW_ALONE-clause-makes : goal.returns-then-flags-eq-NEW_ALONE-clause-makes
returns-then-flags-eq-NEW_ALONE-clause-makes g c =
    λ task o first within before. c.look_in-2.ensures.looks task o first (c.look_in.ensures.looks task o first before)

pub returns-then-source-found-clause-makes : goal.returns-then-source-found-clause-makes
returns-then-source-found-clause-makes g c =
    λ task o first within before. c.look_in-2.ensures.looks task o first (c.look_in.ensures.looks task o first before)

pub returns-in_ok-rename_in-in-Err-Refused-clause-makes : goal.returns-in_ok-rename_in-in-Err-Refused-clause-makes
returns-in_ok-rename_in-in-Err-Refused-clause-makes g c =
    λ task o first within before. c.rename_in.ensures.makes task o first
    (λ x z is. within x z (inl (twice (λ (a b : List ℕ). AnyOf (Renames c.args.from a c.args.to b) x z) _ _ _ _ c.in_ok-old.ensures.is c.in_ok-name.ensures.is is)))
    (c.look_in-2.ensures.looks task o first (c.look_in.ensures.looks task o first before))

pub returns-in_ok-rename_in-in-Err-Refused-clause-does : goal.returns-in_ok-rename_in-in-Err-Refused-clause-does
returns-in_ok-rename_in-in-Err-Refused-clause-does g c =
    let same : StaySame g.D.Disk c.look_in.new.tree.kernel c.look_in-2.new.tree.kernel =
    subst (λ (fault : TreeFault). StaysIfRefused {T = Found} g.D.Disk c.look_in.new.tree.kernel c.look_in-2.new.tree.kernel (Err fault)) c.in-Err-Refused.field-0-is c.in-Err-Refused.ensures.same in
    inl (twice (λ (a b : List ℕ). AnyOf (Renames c.args.from a c.args.to b) (files_of (image_on g.D.Disk.image c.args.tree.now.kernel)) (files_of (image_on g.D.Disk.image c.rename_in.new.tree.kernel))) _ _ _ _ c.in_ok-old.ensures.is c.in_ok-name.ensures.is
    (subst (λ (files : Files). AnyOf (Renames c.args.from c.in_ok-old.old c.args.to c.in_ok-name.name) files (files_of (image_on g.D.Disk.image c.rename_in.new.tree.kernel))) (same ∙ c.in_ok-source.ensures.does.same) (tt, c.in_ok-rename_in-in-Err-Refused.ensures.does)))

pub returns-in-Err-clause-makes : goal.returns-in-Err-clause-makes
returns-in-Err-clause-makes g c =
    λ task o first within before. c.look_in-2.ensures.looks task o first (c.look_in.ensures.looks task o first before)

pub returns-else-source-found-clause-makes : goal.returns-else-source-found-clause-makes
returns-else-source-found-clause-makes g c =
    λ task o first within before. c.rename_over.ensures.makes task o first
    (λ x z is. within x z (inr ((let few = c.if-flags-gt-NEW_ALONE.false in let not = c.if-flags-eq-NEW_ALONE.false in omega (arith, few, not)), twice (λ (a b : List ℕ). RenamesFile c.args.from a c.args.to b (form_seen g.D.Disk.image o) x z) _ _ _ _ c.in_ok-old.ensures.is c.in_ok-name.ensures.is is)))
    (c.look_in-2.ensures.looks task o first (c.look_in.ensures.looks task o first before))

pub returns-else-source-found-clause-does : goal.returns-else-source-found-clause-does
returns-else-source-found-clause-does g c =
    let none : c.args.flags ≡ 0 = (let few = c.if-flags-gt-NEW_ALONE.false in let not = c.if-flags-eq-NEW_ALONE.false in omega (arith, few, not)) in
    on_ok_weaker c.rename_over.result
    (λ done. inr (
      none,
      renamed_at c.args.from c.args.to (form_seen g.D.Disk.image c.args.tree.now.kernel) _ _ _ _ (files_of (image_on g.D.Disk.image c.look_in-2.new.tree.kernel)) (files_of (image_on g.D.Disk.image c.args.tree.now.kernel)) (files_of (image_on g.D.Disk.image c.rename_over.new.tree.kernel))
          c.in_ok-old.ensures.is c.in_ok-name.ensures.is (c.in-Ok.ensures.does.same ∙ c.in_ok-source.ensures.does.same) done,
    )) c.rename_over.ensures.does

pub returns-in_err-name-clause-hindered : goal.returns-in_err-name-clause-hindered
returns-in_err-name-clause-hindered g c =
    let p = err_from_is_err_and c.from_residual-in_err-name.result c.from_residual-in_err-name.ensures.1 in
    left_for g.D.Disk (IsNotRenamed c.args.flags c.args.from c.args.old.now c.args.to c.args.name.now) c.args.tree.now.kernel c.args.tree.now.calls_left c.from_residual-in_err-name.result p.0 p.1
    (inr (inl (inr (subst (λ e. IsNoNewName c.args.to c.args.name.now e) (sym p.2) c.in_err-name.ensures.hindered))))

pub returns-in_err-source-clause-hindered : goal.returns-in_err-source-clause-hindered
returns-in_err-source-clause-hindered g c =
    let p = err_from_is_err_and c.from_residual-in_err-source.result c.from_residual-in_err-source.ensures.1 in
    left_call g.D.Disk errno_of (IsUnseenIn c.args.from c.in_ok-old.old) (IsNotRenamed c.args.flags c.args.from c.args.old.now c.args.to c.args.name.now)
    (λ form x e is. inr (inr (inl (subst (λ (n : List ℕ). IsRefused (IsUnseenIn c.args.from n) form x e) c.in_ok-old.ensures.is is))))
    c.look_in.new.tree.kernel c.look_in.new.tree.calls_left c.from_residual-in_err-source.result p.0 c.in_err-source.field-0.0 p.1 p.2 c.in_err-source.ensures.hindered

pub returns-in_err-rename_in-in-Err-Refused-clause-hindered : goal.returns-in_err-rename_in-in-Err-Refused-clause-hindered
returns-in_err-rename_in-in-Err-Refused-clause-hindered g c =
    let p = err_from_is_err_and c.from_residual-in_err-rename_in-in-Err-Refused.result c.from_residual-in_err-rename_in-in-Err-Refused.ensures.1 in
    left_call g.D.Disk errno_of (λ files. IsUnrenamed files c.args.from c.in_ok-old.old c.args.to c.in_ok-name.name) (IsNotRenamed c.args.flags c.args.from c.args.old.now c.args.to c.args.name.now)
    (λ form x e is. inr (inr (inr (inr (inr (inr (inl (twice (λ (a b : List ℕ). IsRefused (λ files. IsUnrenamed files c.args.from a c.args.to b) form x e) _ _ _ _ c.in_ok-old.ensures.is c.in_ok-name.ensures.is is))))))))
    c.rename_in.new.tree.kernel c.rename_in.new.tree.calls_left c.from_residual-in_err-rename_in-in-Err-Refused.result p.0 c.in_err-rename_in-in-Err-Refused.field-0.0 p.1 p.2 c.in_err-rename_in-in-Err-Refused.ensures.hindered

pub returns-then-flags-eq-NEW_ALONE-clause-hindered : goal.returns-then-flags-eq-NEW_ALONE-clause-hindered
returns-then-flags-eq-NEW_ALONE-clause-hindered g c =
    let there = c.in-Ok.ensures.does in
    inl (inr (inr (inr (inl (
      refl,
      c.if-flags-eq-NEW_ALONE.true,
      (
        there.number,
        subst (λ (n : List ℕ). LeadsTo (files_of (image_on g.D.Disk.image c.look_in-2.new.tree.kernel)) c.args.to n there.number) c.in_ok-name.ensures.is
            (subst (λ (files : Files). LeadsTo files c.args.to c.in_ok-name.name there.number) (sym there.same) there.led),
      ),
    )))))

pub returns-else-source-found-clause-hindered : goal.returns-else-source-found-clause-hindered
returns-else-source-found-clause-hindered g c =
    err_by g.D.Disk (IsNotOver c.args.from c.in_ok-old.old c.args.to c.in_ok-name.name) (IsNotRenamed c.args.flags c.args.from c.args.old.now c.args.to c.args.name.now)
    (λ form x e is. inr (inr (inr (inr (twice (λ (a b : List ℕ). IsNotOver c.args.from a c.args.to b form x e) _ _ _ _ c.in_ok-old.ensures.is c.in_ok-name.ensures.is is)))))
    c.rename_over.new.tree.kernel c.rename_over.new.tree.calls_left c.rename_over.result c.rename_over.ensures.hindered

pub returns-else-source-found-clause-kept : goal.returns-else-source-found-clause-kept
returns-else-source-found-clause-kept g c =
    let disk = g.D.Disk in
    let k = c.args.tree.now.kernel in
    let m = c.look_in-2.new.tree.kernel in
    left_after disk (λ x z. (z ≡ x) ⊎ AnyOf (RemovesDirectoryIn c.args.to c.in_ok-name.name) x z) (λ x z. (z ≡ x) ⊎ AnyOf (RemovesDirectoryIn c.args.to (padded c.args.name.now)) x z) k m c.rename_over.new.tree.kernel c.rename_over.new.tree.calls_left c.rename_over.result
    (λ new left. subst (λ (x : Files). (new ≡ x) ⊎ AnyOf (RemovesDirectoryIn c.args.to (padded c.args.name.now)) x new) (c.in-Ok.ensures.does.same ∙ c.in_ok-source.ensures.does.same)
    (subst (λ (n : List ℕ). (new ≡ files_of (image_on disk.image m)) ⊎ AnyOf (RemovesDirectoryIn c.args.to n) (files_of (image_on disk.image m)) new) c.in_ok-name.ensures.is left))
    c.rename_over.ensures.kept
