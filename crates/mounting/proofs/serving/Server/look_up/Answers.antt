use Rattle.mounting.proofs.Telling.{told_named}
use Rattle.fuse.specs.Requests.{Lookup}
use Rattle.names.specs.Numbered.{IsUnseenIn}
use Rattle.mounting.specs.Causes.{Hinders, IsRefused, errno_of}
use Rattle.std.proofs.lemmas.Result.{err_from_is_err_and, on_ok_weaker}
use Rattle.mounting.proofs.Hindering.{left_call}
use Rattle.std.proofs.Common.{inr, subst, List, ℕ}
use Rattle.mounting.proofs.serving.Server.look_up.Goals as goal

pub returns-in_err-found-clause-hindered : goal.returns-in_err-found-clause-hindered
returns-in_err-found-clause-hindered g c =
    let p = err_from_is_err_and c.from_residual-in_err-found.result c.from_residual-in_err-found.ensures.1 in
    left_call g.D.Disk errno_of (IsUnseenIn c.args.node c.in_ok-name.name) (Hinders c.args.node (Lookup c.args.name.now))
    (λ form x e is. inr (subst (λ (n : List ℕ). IsRefused (IsUnseenIn c.args.node n) form x e) c.in_ok-name.ensures.is is))
    c.look_in.new.tree.kernel c.look_in.new.tree.calls_left c.from_residual-in_err-found.result p.0 c.in_err-found.field-0.0 p.1 p.2 c.in_err-found.ensures.hindered

pub returns-clause-tells : goal.returns-clause-tells
returns-clause-tells g c =
    on_ok_weaker c.tell_entry.result
    (λ adds. told_named _ _ c.args.node _ _ _ _ c.in_ok-found.found c.in_ok-name.ensures.is c.in_ok-found.ensures.does adds) c.tell_entry.ensures.tells
