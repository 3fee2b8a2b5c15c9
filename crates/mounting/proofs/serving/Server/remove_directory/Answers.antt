use Rattle.names.specs.Undirecting.{IsUnemptiedIn}
use Rattle.names.specs.Numbered.{IsUnseenIn}
use Rattle.mounting.specs.Causes.{IsDirectoryKept, IsRefused, errno_of}
use Rattle.std.proofs.lemmas.Result.{err_from_is_err_and}
use Rattle.mounting.proofs.Hindering.{left_call}
use Rattle.std.proofs.Common.{ℕ, List, subst, inl, inr}
use Rattle.mounting.specs.Changes.{RemovesEmpty}
use Rattle.names.specs.Inside.{form_seen}
use Rattle.mounting.proofs.serving.Server.remove_directory.Goals as goal

pub returns-in_err-found-clause-makes : goal.returns-in_err-found-clause-makes
returns-in_err-found-clause-makes g c =
    λ task o first within before. c.look_in.ensures.looks task o first before

pub returns-in_err-remove_directory_in-clause-makes : goal.returns-in_err-remove_directory_in-clause-makes
returns-in_err-remove_directory_in-clause-makes g c =
    λ task o first within before. c.remove_directory_in.ensures.makes task o first (λ x z is. within x z (subst (λ (name : List ℕ). RemovesEmpty c.args.from name (form_seen g.D.Disk.image o) x z) c.in_ok-name.ensures.is is)) (c.look_in.ensures.looks task o first before)

pub returns-clause-makes : goal.returns-clause-makes
returns-clause-makes g c =
    λ task o first within before. c.remove_directory_in.ensures.makes task o first (λ x z is. within x z (subst (λ (name : List ℕ). RemovesEmpty c.args.from name (form_seen g.D.Disk.image o) x z) c.in_ok-name.ensures.is is)) (c.look_in.ensures.looks task o first before)

pub returns-in_err-found-clause-hindered : goal.returns-in_err-found-clause-hindered
returns-in_err-found-clause-hindered g c =
    let p = err_from_is_err_and c.from_residual-in_err-found.result c.from_residual-in_err-found.ensures.1 in
    left_call g.D.Disk errno_of (IsUnseenIn c.args.from c.in_ok-name.name) (IsDirectoryKept c.args.from c.args.name.now)
    (λ form x e is. inr (inl (subst (λ (n : List ℕ). IsRefused (IsUnseenIn c.args.from n) form x e) c.in_ok-name.ensures.is is)))
    c.look_in.new.tree.kernel c.look_in.new.tree.calls_left c.from_residual-in_err-found.result p.0 c.in_err-found.field-0.0 p.1 p.2 c.in_err-found.ensures.hindered

pub returns-in_err-remove_directory_in-clause-hindered : goal.returns-in_err-remove_directory_in-clause-hindered
returns-in_err-remove_directory_in-clause-hindered g c =
    let p = err_from_is_err_and c.from_residual-in_err-remove_directory_in.result c.from_residual-in_err-remove_directory_in.ensures.1 in
    left_call g.D.Disk errno_of (λ files. IsUnemptiedIn files c.args.from c.in_ok-name.name) (IsDirectoryKept c.args.from c.args.name.now)
    (λ form x e is. inr (inr (subst (λ (n : List ℕ). IsRefused (λ files. IsUnemptiedIn files c.args.from n) form x e) c.in_ok-name.ensures.is is)))
    c.remove_directory_in.new.tree.kernel c.remove_directory_in.new.tree.calls_left c.from_residual-in_err-remove_directory_in.result p.0 c.in_err-remove_directory_in.field-0.0 p.1 p.2 c.in_err-remove_directory_in.ensures.hindered
