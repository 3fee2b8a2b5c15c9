use Rattle.directories.specs.declared.refusal.Refusal.{Refusal}
use Rattle.names.specs.Removing.{IsUnremovedIn}
use Rattle.mounting.specs.Causes.{IsNameKept, IsRefused, IsRefusedBy, LeadsTo, errno_of}
use Rattle.std.proofs.lemmas.Result.{err_from_is_err_and}
use Rattle.mounting.proofs.Hindering.{left_call, left_by, undone_there}
use Rattle.calls.specs.Calls.{image_on}
use Rattle.model.specs.Files.{Files, files_of}
use Rattle.std.proofs.Common.{ℕ, List, inl, inr, subst}
use Rattle.directories.specs.Trees.{root}
use Rattle.names.specs.Ready.{AnyOf}
use Rattle.names.specs.Renaming.{Renames, IsUnrenamed}
use Rattle.mounting.proofs.serving.Server.drop_name.Goals as goal

pub returns-in_err-rename_in-clause-makes : goal.returns-in_err-rename_in-clause-makes
returns-in_err-rename_in-clause-makes g c =
    λ task o first within before. c.rename_in.ensures.makes task o first (λ x z is. within x z (inr (c.args.found.now.number, subst (λ (aside : List ℕ). AnyOf (Renames c.args.from c.args.name.now root aside) x z) c.aside-aside.ensures is))) before

pub returns-then-needs_aside-clause-makes : goal.returns-then-needs_aside-clause-makes
returns-then-needs_aside-clause-makes g c =
    λ task o first within before. c.rename_in.ensures.makes task o first (λ x z is. within x z (inr (c.args.found.now.number, subst (λ (aside : List ℕ). AnyOf (Renames c.args.from c.args.name.now root aside) x z) c.aside-aside.ensures is))) before

pub returns-then-needs_aside-clause-does : goal.returns-then-needs_aside-clause-does
returns-then-needs_aside-clause-does g c =
    inr (subst (λ (aside : List ℕ). AnyOf (Renames c.args.from c.args.name.now root aside) (files_of (image_on g.D.Disk.image c.args.tree.now.kernel)) (files_of (image_on g.D.Disk.image c.rename_in.new.tree.kernel))) c.aside-aside.ensures (tt, c.in_ok-rename_in.ensures.does))

pub returns-in_err-remove_in-clause-makes : goal.returns-in_err-remove_in-clause-makes
returns-in_err-remove_in-clause-makes g c =
    λ task o first within before. c.remove_in.ensures.makes task o first (λ x z is. within x z (inl is)) before

pub returns-clause-makes : goal.returns-clause-makes
returns-clause-makes g c =
    λ task o first within before. c.remove_in.ensures.makes task o first (λ x z is. within x z (inl is)) before

pub returns-in_err-rename_in-clause-hindered : goal.returns-in_err-rename_in-clause-hindered
returns-in_err-rename_in-clause-hindered g c =
    let p = err_from_is_err_and c.from_residual.result c.from_residual.ensures.1 in
    let from = c.args.from in
    let name = c.args.name.now in
    let number = c.args.found.now.number in
    let why : Files → Refusal → Type 0 = λ files. IsUnrenamed files from name root c.aside-aside.result in
    left_by g.D.Disk (λ form x e. LeadsTo (files_of x) from name number × IsRefusedBy errno_of why form x e) (IsNameKept from name)
    (λ form x e is. inr (number, (is.0, subst (λ (a : List ℕ). IsRefused (λ files. IsUnrenamed files from name root a) form x e) c.aside-aside.ensures is.1)))
    c.rename_in.new.tree.kernel c.rename_in.new.tree.calls_left c.from_residual.result p.0 _ p.1 p.2
    (undone_there g.D.Disk (Unit {0}) errno_of why (λ files. LeadsTo files from name number) c.args.tree.now.kernel c.rename_in.new.tree.kernel c.rename_in.new.tree.calls_left c.in_err-rename_in.field-0.0 c.requires.leads c.in_err-rename_in.ensures.same c.in_err-rename_in.ensures.hindered)

pub returns-in_err-remove_in-clause-hindered : goal.returns-in_err-remove_in-clause-hindered
returns-in_err-remove_in-clause-hindered g c =
    let p = err_from_is_err_and c.from_residual-in_err-remove_in.result c.from_residual-in_err-remove_in.ensures.1 in
    left_call g.D.Disk errno_of (λ files. IsUnremovedIn files c.args.from c.args.name.now) (IsNameKept c.args.from c.args.name.now)
    (λ form x e is. inl is)
    c.remove_in.new.tree.kernel c.remove_in.new.tree.calls_left c.from_residual-in_err-remove_in.result p.0 c.in_err-remove_in.field-0.0 p.1 p.2 c.in_err-remove_in.ensures.hindered
