use Rattle.calls.specs.Calls.{image_on}
use Rattle.model.specs.Files.{files_of}
use Rattle.names.specs.Ready.{AnyOf}
use Rattle.fuse.specs.Requests.{Release}
use Rattle.names.specs.Removing.{IsUnremovedIn, RemovesIn}
use Rattle.mounting.specs.Causes.{Hinders, IsRefused, errno_of}
use Rattle.std.proofs.lemmas.Result.{err_from_is_err_and}
use Rattle.mounting.proofs.Hindering.{left_call}
use Rattle.std.proofs.Common.{ℕ, List, subst, inr, refl}
use Rattle.directories.specs.Trees.{root}
use Rattle.mounting.specs.Changes.{RemovesName}
use Rattle.names.specs.Inside.{form_seen}
use Rattle.mounting.proofs.serving.Server.release.Goals as goal

pub returns-in_err-remove_in-clause-makes : goal.returns-in_err-remove_in-clause-makes
returns-in_err-remove_in-clause-makes g c =
    λ task o first within before. c.remove_in.ensures.makes task o first (λ x z is. within x z (subst (λ (aside : List ℕ). RemovesName root aside (form_seen g.D.Disk.image o) x z) c.aside-aside.ensures is)) before

pub returns-in_ok-remove_in-clause-makes : goal.returns-in_ok-remove_in-clause-makes
returns-in_ok-remove_in-clause-makes g c =
    λ task o first within before. c.remove_in.ensures.makes task o first (λ x z is. within x z (subst (λ (aside : List ℕ). RemovesName root aside (form_seen g.D.Disk.image o) x z) c.aside-aside.ensures is)) before

pub returns-in_err-remove_in-clause-hindered : goal.returns-in_err-remove_in-clause-hindered
returns-in_err-remove_in-clause-hindered g c =
    let p = err_from_is_err_and c.from_residual.result c.from_residual.ensures.1 in
    left_call g.D.Disk errno_of (λ files. IsUnremovedIn files root c.aside-aside.result) (Hinders c.args.node Release)
    (λ form x e is. subst (λ (a : List ℕ). IsRefused (λ files. IsUnremovedIn files root a) form x e) c.aside-aside.ensures is)
    c.remove_in.new.tree.kernel c.remove_in.new.tree.calls_left c.from_residual.result p.0 c.in_err-remove_in.field-0.0 p.1 p.2 c.in_err-remove_in.ensures.hindered

pub returns-in_ok-remove_in-clause-does : goal.returns-in_ok-remove_in-clause-does
returns-in_ok-remove_in-clause-does g c = (
  inr (subst (λ (a : List ℕ). AnyOf (RemovesIn root a) (files_of (image_on g.D.Disk.image c.args.tree.now.kernel)) (files_of (image_on g.D.Disk.image c.remove_in.new.tree.kernel))) c.aside-aside.ensures (tt, c.in_ok-remove_in.ensures.does)),
  refl,
)
