use Rattle.calls.specs.Calls.{image_on}
use Rattle.mounting.proofs.FoundKinds.{is_directory, is_other}
use Rattle.model.specs.Files.{files_of, Files}
use Rattle.names.specs.Renaming.{IsUnrenamed}
use Rattle.names.specs.Undirecting.{IsUnemptiedIn, RemovesDirectoryIn}
use Rattle.mounting.specs.Causes.{IsNotOver, IsRefused, IsRefusedBy, LeadsTo, errno_of}
use Rattle.std.proofs.lemmas.Result.{err_from_is_err_and}
use Rattle.mounting.proofs.Hindering.{left_call, left_by, undone_there, left_same}
use Rattle.std.proofs.Common.{ℕ, List, inl, inr, subst, sym, refl, ◌≡◌, ◌⊎◌}
use Rattle.names.specs.Ready.{AnyOf}
use Rattle.names.specs.Replacing.{Replaces, IsUnreplaced}
use Rattle.mounting.proofs.serving.Server.rename_over.Goals as goal

pub returns-in_err-remove_directory_in-clause-makes : goal.returns-in_err-remove_directory_in-clause-makes
returns-in_err-remove_directory_in-clause-makes g c =
    λ task o first within before. c.remove_directory_in.ensures.makes task o first (λ x z is. within x z (inr (inl is))) before

pub returns-in_err-rename_in-clause-makes : goal.returns-in_err-rename_in-clause-makes
returns-in_err-rename_in-clause-makes g c =
    λ task o first within before. c.rename_in.ensures.makes task o first (λ x z is. within x z (inl is)) (c.remove_directory_in.ensures.makes task o first (λ x z is. within x z (inr (inl is))) before)

pub returns-then-found-eq-DIRECTORY-clause-makes : goal.returns-then-found-eq-DIRECTORY-clause-makes
returns-then-found-eq-DIRECTORY-clause-makes g c =
    λ task o first within before. c.rename_in.ensures.makes task o first (λ x z is. within x z (inl is)) (c.remove_directory_in.ensures.makes task o first (λ x z is. within x z (inr (inl is))) before)

pub returns-in_err-replace_in-clause-makes : goal.returns-in_err-replace_in-clause-makes
returns-in_err-replace_in-clause-makes g c =
    λ task o first within before. c.replace_in.ensures.makes task o first (λ x z is. within x z (inr (inr (c.args.found.number, (c.needs_aside-keeps.result, subst (λ (aside : List ℕ). AnyOf (Replaces c.args.from c.args.old.now c.args.to c.args.name.now aside c.needs_aside-keeps.result) x z) c.aside-aside.ensures is))))) before

pub returns-then-keeps-clause-makes : goal.returns-then-keeps-clause-makes
returns-then-keeps-clause-makes g c =
    λ task o first within before. c.replace_in.ensures.makes task o first (λ x z is. within x z (inr (inr (c.args.found.number, (c.needs_aside-keeps.result, subst (λ (aside : List ℕ). AnyOf (Replaces c.args.from c.args.old.now c.args.to c.args.name.now aside c.needs_aside-keeps.result) x z) c.aside-aside.ensures is))))) before

pub returns-else-keeps-clause-makes : goal.returns-else-keeps-clause-makes
returns-else-keeps-clause-makes g c =
    λ task o first within before. c.replace_in.ensures.makes task o first (λ x z is. within x z (inr (inr (c.args.found.number, (c.needs_aside-keeps.result, subst (λ (aside : List ℕ). AnyOf (Replaces c.args.from c.args.old.now c.args.to c.args.name.now aside c.needs_aside-keeps.result) x z) c.aside-aside.ensures is))))) before

pub returns-then-source-ne-DIRECTORY-clause-hindered : goal.returns-then-source-ne-DIRECTORY-clause-hindered
returns-then-source-ne-DIRECTORY-clause-hindered g c =
    inl (inl (inl (refl, is_other _ c.args.from c.args.old.now c.args.source c.if-source-ne-DIRECTORY.true c.requires.looks, is_directory _ c.args.to c.args.name.now c.args.found c.if-found-eq-DIRECTORY.true c.requires.there)))

pub returns-in_err-remove_directory_in-clause-hindered : goal.returns-in_err-remove_directory_in-clause-hindered
returns-in_err-remove_directory_in-clause-hindered g c =
    let p = err_from_is_err_and c.from_residual.result c.from_residual.ensures.1 in
    left_call g.D.Disk errno_of (λ files. IsUnemptiedIn files c.args.to c.args.name.now) (IsNotOver c.args.from c.args.old.now c.args.to c.args.name.now)
    (λ form x e is. inr (inl is))
    c.remove_directory_in.new.tree.kernel c.remove_directory_in.new.tree.calls_left c.from_residual.result p.0 c.in_err-remove_directory_in.field-0.0 p.1 p.2 c.in_err-remove_directory_in.ensures.hindered

pub returns-in_err-rename_in-clause-hindered : goal.returns-in_err-rename_in-clause-hindered
returns-in_err-rename_in-clause-hindered g c =
    let p = err_from_is_err_and c.from_residual-in_err-rename_in.result c.from_residual-in_err-rename_in.ensures.1 in
    left_call g.D.Disk errno_of (λ files. IsUnrenamed files c.args.from c.args.old.now c.args.to c.args.name.now) (IsNotOver c.args.from c.args.old.now c.args.to c.args.name.now)
    (λ form x e is. inr (inr (inl is)))
    c.rename_in.new.tree.kernel c.rename_in.new.tree.calls_left c.from_residual-in_err-rename_in.result p.0 c.in_err-rename_in.field-0.0 p.1 p.2 c.in_err-rename_in.ensures.hindered

pub returns-then-source-eq-DIRECTORY-clause-hindered : goal.returns-then-source-eq-DIRECTORY-clause-hindered
returns-then-source-eq-DIRECTORY-clause-hindered g c =
    inl (inl (inr (refl, is_directory _ c.args.from c.args.old.now c.args.source c.if-source-eq-DIRECTORY.true c.requires.looks, is_other _ c.args.to c.args.name.now c.args.found c.if-found-eq-DIRECTORY.false c.requires.there)))

pub returns-in_err-replace_in-clause-hindered : goal.returns-in_err-replace_in-clause-hindered
returns-in_err-replace_in-clause-hindered g c =
    let p = err_from_is_err_and c.from_residual-in_err-replace_in.result c.from_residual-in_err-replace_in.ensures.1 in
    let old = c.args.old.now in
    let name = c.args.name.now in
    let number = c.args.found.number in
    let keeps = c.needs_aside-keeps.result in
    let why = IsUnreplaced c.args.from old c.args.to name c.aside-aside.result keeps in
    let there = c.requires.there in
    left_by g.D.Disk (λ form x e. LeadsTo (files_of x) c.args.to name number × IsRefusedBy errno_of why form x e) (IsNotOver c.args.from c.args.old.now c.args.to c.args.name.now)
    (λ form x e is. inr (inr (inr (number, (keeps, (is.0, subst (λ (a : List ℕ). IsRefused (IsUnreplaced c.args.from old c.args.to name a keeps) form x e) c.aside-aside.ensures is.1))))))
    c.replace_in.new.tree.kernel c.replace_in.new.tree.calls_left c.from_residual-in_err-replace_in.result p.0 _ p.1 p.2
    (undone_there g.D.Disk (Unit {0}) errno_of why (λ files. LeadsTo files c.args.to name number) c.args.tree.now.kernel c.replace_in.new.tree.kernel c.replace_in.new.tree.calls_left c.in_err-replace_in.field-0.0
    (subst (λ (n : ℕ). LeadsTo (files_of (image_on g.D.Disk.image c.args.tree.now.kernel)) c.args.to name n) (sym there.found_is.is) there.led) c.in_err-replace_in.ensures.same c.in_err-replace_in.ensures.hindered)

pub returns-then-keeps-clause-does : goal.returns-then-keeps-clause-does
returns-then-keeps-clause-does g c =
    let there = c.requires.there in
    let files = files_of (image_on g.D.Disk.image c.args.tree.now.kernel) in
    let keeps = c.needs_aside-keeps.result in
    inr (inr (inl (
      c.args.found.number,
      (
        keeps,
        subst (λ (n : ℕ). LeadsTo files c.args.to c.args.name.now n) (sym there.found_is.is) there.led,
        subst (λ (aside : List ℕ). AnyOf (Replaces c.args.from c.args.old.now c.args.to c.args.name.now aside keeps) files (files_of (image_on g.D.Disk.image c.replace_in.new.tree.kernel))) c.aside-aside.ensures (tt, c.in_ok-replace_in.ensures.does),
      ),
    )))

pub returns-else-keeps-clause-does : goal.returns-else-keeps-clause-does
returns-else-keeps-clause-does g c =
    let there = c.requires.there in
    let files = files_of (image_on g.D.Disk.image c.args.tree.now.kernel) in
    let keeps = c.needs_aside-keeps.result in
    inr (inr (inl (
      c.args.found.number,
      (
        keeps,
        subst (λ (n : ℕ). LeadsTo files c.args.to c.args.name.now n) (sym there.found_is.is) there.led,
        subst (λ (aside : List ℕ). AnyOf (Replaces c.args.from c.args.old.now c.args.to c.args.name.now aside keeps) files (files_of (image_on g.D.Disk.image c.replace_in.new.tree.kernel))) c.aside-aside.ensures (tt, c.in_ok-replace_in.ensures.does),
      ),
    )))

pub returns-in_err-rename_in-clause-kept : goal.returns-in_err-rename_in-clause-kept
returns-in_err-rename_in-clause-kept g c =
    let p = err_from_is_err_and c.from_residual-in_err-rename_in.result c.from_residual-in_err-rename_in.ensures.1 in
    let files = files_of (image_on g.D.Disk.image c.args.tree.now.kernel) in
    left_same g.D.Disk (λ x z. (z ≡ x) ⊎ AnyOf (RemovesDirectoryIn c.args.to c.args.name.now) x z) c.args.tree.now.kernel c.rename_in.new.tree.kernel c.rename_in.new.tree.calls_left c.from_residual-in_err-rename_in.result p.0 p.1
    (λ some. inr (subst (λ (z : Files). AnyOf (RemovesDirectoryIn c.args.to c.args.name.now) files z) (sym (c.in_err-rename_in.ensures.kept some)) (tt, c.in_ok-remove_directory_in.ensures.does)))
