use Rattle.names.specs.Ready.{AnyOf}
use Rattle.names.specs.Undirecting.{RemovesDirectoryIn}
use Rattle.fuse.specs.Requests.{asked}
use Rattle.mounting.specs.Causes.{Hinders, IsNotRenamed}
use Rattle.std.proofs.lemmas.Result.{err_from_is_err_and}
use Rattle.mounting.proofs.Hindering.{left_by, left_after, left_told}
use Rattle.calls.specs.Files.{IsFull}
use Rattle.calls.specs.Calls.{image_on}
use Rattle.model.specs.Files.{files_of}
use Rattle.std.proofs.Common.{ℕ, subst, refl, inr, [], ◌≡◌, ◌⊎◌}
use Rattle.directories.specs.Entries.{padded}
use Rattle.mounting.specs.Changes.{AreSeen, RenamedAs, RenamesAs, Begins}
use Rattle.names.specs.Inside.{form_seen}
use Rattle.mounting.proofs.Asking.{asked_as, done_as, hinders_as, begins_as}
use Rattle.mounting.proofs.serving.Server.take_name.Goals as goal

pub returns-in_err-rename-in-Rename-clause-makes : goal.returns-in_err-rename-in-Rename-clause-makes
returns-in_err-rename-in-Rename-clause-makes g c =
    λ task o first within before. c.rename.ensures.makes task o first (λ x z is. within x z (asked_as (form_seen g.D.Disk.image o) c.args.node _ _ x z c.in-Rename.is (subst (λ (n : ℕ). RenamesAs c.in-Rename.flags c.args.node (padded c.in-Rename.old.now) n (padded c.in-Rename.name.now) (form_seen g.D.Disk.image o) x z) c.in-Ok.ensures.1 is))) before

pub returns-in-Unlink-clause-makes : goal.returns-in-Unlink-clause-makes
returns-in-Unlink-clause-makes g c =
    λ task o first within before. c.unlink.ensures.makes task o first (λ x z is. within x z (asked_as (form_seen g.D.Disk.image o) c.args.node _ _ x z c.in-Unlink.is is)) before

pub returns-in-RemoveDirectory-clause-makes : goal.returns-in-RemoveDirectory-clause-makes
returns-in-RemoveDirectory-clause-makes g c =
    λ task o first within before. c.remove_directory.ensures.makes task o first (λ x z is. within x z (asked_as (form_seen g.D.Disk.image o) c.args.node _ _ x z c.in-RemoveDirectory.is is)) before

pub returns-in_ok-rename-in-Rename-clause-makes : goal.returns-in_ok-rename-in-Rename-clause-makes
returns-in_ok-rename-in-Rename-clause-makes g c =
    λ task o first within before. c.rename.ensures.makes task o first (λ x z is. within x z (asked_as (form_seen g.D.Disk.image o) c.args.node _ _ x z c.in-Rename.is (subst (λ (n : ℕ). RenamesAs c.in-Rename.flags c.args.node (padded c.in-Rename.old.now) n (padded c.in-Rename.name.now) (form_seen g.D.Disk.image o) x z) c.in-Ok.ensures.1 is))) before

pub returns-in-Release-clause-makes : goal.returns-in-Release-clause-makes
returns-in-Release-clause-makes g c =
    λ task o first within before. c.release.ensures.makes task o first (λ x z is. within x z (asked_as (form_seen g.D.Disk.image o) c.args.node _ _ x z c.in-Release.is is)) before

pub returns-in_err-rename-in-Rename-clause-hindered : goal.returns-in_err-rename-in-Rename-clause-hindered
returns-in_err-rename-in-Rename-clause-hindered g c =
    let p = err_from_is_err_and c.from_residual.result c.from_residual.ensures.1 in
    left_by g.D.Disk (IsNotRenamed c.in-Rename.flags c.args.node c.in-Rename.old.now c.in-Ok.to c.in-Rename.name.now) (Hinders c.args.node (asked c.args.request.now))
    (λ form x e is. hinders_as form c.args.node _ _ x e c.in-Rename.is (inr (subst (λ (n : ℕ). IsNotRenamed c.in-Rename.flags c.args.node c.in-Rename.old.now n c.in-Rename.name.now form x e) c.in-Ok.ensures.1 is)))
    c.rename.new.tree.kernel c.rename.new.tree.calls_left c.from_residual.result p.0 c.in_err-rename-in-Rename.field-0.0 p.1 p.2 c.in_err-rename-in-Rename.ensures.hindered

pub returns-in_ok-rename-in-Rename-clause-does : goal.returns-in_ok-rename-in-Rename-clause-does
returns-in_ok-rename-in-Rename-clause-does g c =
    done_as (form_seen g.D.Disk.image c.rename.new.tree.kernel) (IsFull (image_on g.D.Disk.image c.rename.new.tree.kernel)) c.args.node [] _ _ (files_of (image_on g.D.Disk.image c.args.tree.now.kernel)) (files_of (image_on g.D.Disk.image c.rename.new.tree.kernel)) c.in-Rename.is (
      c.in_ok-rename-in-Rename.ensures.flags,
      subst (λ (n : ℕ). AreSeen c.args.node c.in-Rename.old.now n c.in-Rename.name.now) c.in-Ok.ensures.1 c.in_ok-rename-in-Rename.ensures.seen,
      subst (λ (n : ℕ). RenamedAs c.in-Rename.flags c.args.node (padded c.in-Rename.old.now) n (padded c.in-Rename.name.now) (form_seen g.D.Disk.image c.args.tree.now.kernel) (files_of (image_on g.D.Disk.image c.args.tree.now.kernel)) (files_of (image_on g.D.Disk.image c.rename.new.tree.kernel))) c.in-Ok.ensures.1 c.in_ok-rename-in-Rename.ensures.does,
      refl,
    )

pub returns-in_err-rename-in-Rename-clause-kept : goal.returns-in_err-rename-in-Rename-clause-kept
returns-in_err-rename-in-Rename-clause-kept g c =
    let p = err_from_is_err_and c.from_residual.result c.from_residual.ensures.1 in
    let name = padded c.in-Rename.name.now in
    left_told g.D.Disk (λ x z. (z ≡ x) ⊎ AnyOf (RemovesDirectoryIn c.in-Ok.to name) x z) (Begins c.args.node (asked c.args.request.now)) c.args.tree.now.kernel c.rename.new.tree.kernel c.rename.new.tree.calls_left c.from_residual.result p.0 c.in_err-rename-in-Rename.field-0.0 p.1 p.2
    (λ left. begins_as c.args.node _ _ (files_of (image_on g.D.Disk.image c.args.tree.now.kernel)) (files_of (image_on g.D.Disk.image c.rename.new.tree.kernel)) c.in-Rename.is
    (subst (λ (n : ℕ). (files_of (image_on g.D.Disk.image c.rename.new.tree.kernel) ≡ files_of (image_on g.D.Disk.image c.args.tree.now.kernel)) ⊎ AnyOf (RemovesDirectoryIn n name) (files_of (image_on g.D.Disk.image c.args.tree.now.kernel)) (files_of (image_on g.D.Disk.image c.rename.new.tree.kernel))) c.in-Ok.ensures.1 left))
    c.in_err-rename-in-Rename.ensures.kept

pub returns-in-Unlink-clause-kept : goal.returns-in-Unlink-clause-kept
returns-in-Unlink-clause-kept g c =
    let k = c.args.tree.now.kernel in
    left_after g.D.Disk (λ x z. z ≡ x) (Begins c.args.node (asked c.args.request.now)) k k c.unlink.new.tree.kernel c.unlink.new.tree.calls_left c.unlink.result (λ new same. begins_as c.args.node _ _ (files_of (image_on g.D.Disk.image k)) new c.in-Unlink.is same) c.unlink.ensures.kept

pub returns-in-RemoveDirectory-clause-kept : goal.returns-in-RemoveDirectory-clause-kept
returns-in-RemoveDirectory-clause-kept g c =
    let k = c.args.tree.now.kernel in
    left_after g.D.Disk (λ x z. z ≡ x) (Begins c.args.node (asked c.args.request.now)) k k c.remove_directory.new.tree.kernel c.remove_directory.new.tree.calls_left c.remove_directory.result (λ new same. begins_as c.args.node _ _ (files_of (image_on g.D.Disk.image k)) new c.in-RemoveDirectory.is same) c.remove_directory.ensures.kept
