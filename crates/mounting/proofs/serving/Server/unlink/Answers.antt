use Rattle.mounting.proofs.FoundKinds.{is_directory_there, leads_there, unlinked}
use Rattle.names.specs.Numbered.{IsUnseenIn}
use Rattle.mounting.specs.Causes.{IsNameKept, IsNotUnlinked, IsRefused, LeadsToDirectory, errno_of}
use Rattle.mounting.proofs.Hindering.{left_call, err_by, left_after}
use Rattle.std.proofs.lemmas.Result.{on_ok_weaker, err_from_is_err_and}
use Rattle.calls.specs.Calls.{image_on}
use Rattle.model.specs.Files.{files_of}
use Rattle.std.proofs.Common.{ℕ, List, subst, inl, inr, refl, ◌≡◌, ◌∙◌}
use Rattle.mounting.specs.Changes.{Unlinks}
use Rattle.names.specs.Inside.{form_seen}
use Rattle.mounting.proofs.serving.Server.unlink.Goals as goal

pub returns-in_err-found-clause-makes : goal.returns-in_err-found-clause-makes
returns-in_err-found-clause-makes g c =
    λ task o first within before. c.look_in.ensures.looks task o first before

pub returns-then-found-eq-DIRECTORY-clause-makes : goal.returns-then-found-eq-DIRECTORY-clause-makes
returns-then-found-eq-DIRECTORY-clause-makes g c =
    λ task o first within before. c.look_in.ensures.looks task o first before

pub returns-clause-makes : goal.returns-clause-makes
returns-clause-makes g c =
    λ task o first within before. c.drop_name.ensures.makes task o first (λ x z is. within x z (subst (λ (name : List ℕ). Unlinks c.args.from name (form_seen g.D.Disk.image o) x z) c.in_ok-name.ensures.is is)) (c.look_in.ensures.looks task o first before)

pub returns-clause-does : goal.returns-clause-does
returns-clause-does g c =
    on_ok_weaker c.drop_name.result
    (λ done. unlinked _ _ (files_of (image_on g.D.Disk.image c.drop_name.new.tree.kernel)) c.args.from c.in_ok-name.name _ c.in_ok-found.found c.in_ok-name.ensures.is c.if-found-eq-DIRECTORY.false c.in_ok-found.ensures.does done) c.drop_name.ensures.does

pub returns-in_err-found-clause-hindered : goal.returns-in_err-found-clause-hindered
returns-in_err-found-clause-hindered g c =
    let p = err_from_is_err_and c.from_residual-in_err-found.result c.from_residual-in_err-found.ensures.1 in
    left_call g.D.Disk errno_of (IsUnseenIn c.args.from c.in_ok-name.name) (IsNotUnlinked c.args.from c.args.name.now)
    (λ form x e is. inr (inl (subst (λ (n : List ℕ). IsRefused (IsUnseenIn c.args.from n) form x e) c.in_ok-name.ensures.is is)))
    c.look_in.new.tree.kernel c.look_in.new.tree.calls_left c.from_residual-in_err-found.result p.0 c.in_err-found.field-0.0 p.1 p.2 c.in_err-found.ensures.hindered

pub returns-then-found-eq-DIRECTORY-clause-hindered : goal.returns-then-found-eq-DIRECTORY-clause-hindered
returns-then-found-eq-DIRECTORY-clause-hindered g c =
    inl (inr (inr (inl (
      refl,
      subst (λ (n : List ℕ). LeadsToDirectory (files_of (image_on g.D.Disk.image c.look_in.new.tree.kernel)) c.args.from n) c.in_ok-name.ensures.is
          (is_directory_there _ _ c.args.from c.in_ok-name.name c.in_ok-found.found c.if-found-eq-DIRECTORY.true c.in_ok-found.ensures.does),
    ))))

pub drop_name-requires-clause-leads : goal.drop_name-requires-clause-leads
drop_name-requires-clause-leads g c = leads_there _ _ c.args.from c.in_ok-name.name c.in_ok-found.found c.in_ok-found.ensures.does

pub returns-clause-hindered : goal.returns-clause-hindered
returns-clause-hindered g c =
    err_by g.D.Disk (IsNameKept c.args.from c.in_ok-name.name) (IsNotUnlinked c.args.from c.args.name.now)
    (λ form x e is. inr (inr (inr (subst (λ (n : List ℕ). IsNameKept c.args.from n form x e) c.in_ok-name.ensures.is is))))
    c.drop_name.new.tree.kernel c.drop_name.new.tree.calls_left c.drop_name.result c.drop_name.ensures.hindered

pub returns-clause-kept : goal.returns-clause-kept
returns-clause-kept g c =
    left_after g.D.Disk (λ x z. z ≡ x) (λ x z. z ≡ x) c.args.tree.now.kernel c.look_in.new.tree.kernel c.drop_name.new.tree.kernel c.drop_name.new.tree.calls_left c.drop_name.result (λ new same. same ∙ c.in_ok-found.ensures.does.same) c.drop_name.ensures.kept
