use Rattle.mounting.specs.Causes.{IsUnresized, errno_of}
use Rattle.mounting.proofs.Hindering.{left_call}
use Rattle.std.proofs.Common.{◌∙◌, ℕ, ◌<◌, inl, inr, subst, sym, arith}
use Rattle.std.proofs.lemmas.Result.{on_ok_weaker, err_from_is_err_and}
use Rattle.mounting.specs.Changes.{EndsAt, Lengthens}
use Rattle.names.specs.Inside.{form_seen}
use Rattle.names.specs.Numbered.{CutsAt, IsNoFileOrDirectory}
use Rattle.names.specs.Ready.{AnyOf}
use Rattle.mounting.proofs.FileEnds.{cut_ends, found_ends}
use Rattle.mounting.proofs.files.resize.Goals as goal

pub returns-in_err-found-clause-makes : goal.returns-in_err-found-clause-makes
returns-in_err-found-clause-makes g c =
    λ task o first within before. c.look_at.ensures.looks task o first before

pub returns-then-size-found-clause-makes : goal.returns-then-size-found-clause-makes
returns-then-size-found-clause-makes g c =
    λ task o first within before. c.fill.ensures.makes task o first (λ x z is. within x z (inr (subst (λ (n : ℕ). Lengthens c.args.number n (form_seen g.D.Disk.image o) x z) c.in-Ok.ensures.1 is))) (c.look_at.ensures.looks task o first before)

pub returns-then-size-found-2-clause-makes : goal.returns-then-size-found-2-clause-makes
returns-then-size-found-2-clause-makes g c =
    λ task o first within before. c.look_at.ensures.looks task o first before

pub returns-in_err-_cut-clause-makes : goal.returns-in_err-_cut-clause-makes
returns-in_err-_cut-clause-makes g c =
    λ task o first within before. c.cut_at.ensures.makes task o first (λ x z is. within x z (inl (subst (λ (n : ℕ). AnyOf (CutsAt c.args.number n) x z) c.in-Ok.ensures.1 is))) (c.look_at.ensures.looks task o first before)

pub returns-clause-makes : goal.returns-clause-makes
returns-clause-makes g c =
    λ task o first within before. c.cut_at.ensures.makes task o first (λ x z is. within x z (inl (subst (λ (n : ℕ). AnyOf (CutsAt c.args.number n) x z) c.in-Ok.ensures.1 is))) (c.look_at.ensures.looks task o first before)

pub fill-requires-clause-end : goal.fill-requires-clause-end
fill-requires-clause-end g c = found_ends _ _ c.args.number c.in_ok-found.found c.in_ok-found.ensures.does

pub returns-then-size-found-clause-end : goal.returns-then-size-found-clause-end
returns-then-size-found-clause-end g c =
    on_ok_weaker c.fill.result (λ ends. subst (λ (n : ℕ). EndsAt g.D.Disk c.args.number c.fill.new.tree.kernel n) c.in-Ok.ensures.1 ends) c.fill.ensures.end

pub returns-then-size-found-2-clause-end : goal.returns-then-size-found-2-clause-end
returns-then-size-found-2-clause-end g c = found_ends _ _ c.args.number c.in_ok-found.found c.in_ok-found.ensures.does ∙ sym c.if-size-found-2.true ∙ c.in-Ok.ensures.1

pub returns-clause-end : goal.returns-clause-end
returns-clause-end g c =
    let low : c.in-Ok.size < c.in_ok-found.found.size = let not = c.if-size-found.false in let apart = c.if-size-found-2.false in omega (arith, not, apart) in
    subst (λ (n : ℕ). EndsAt g.D.Disk c.args.number c.cut_at.new.tree.kernel n) c.in-Ok.ensures.1
    (cut_ends _ _ c.args.number c.in-Ok.size c.in_ok-found.found c.in_ok-_cut._cut (found_ends _ _ c.args.number c.in_ok-found.found c.in_ok-found.ensures.does) low c.in_ok-_cut.ensures.does)

pub returns-in_err-_cut-clause-hindered : goal.returns-in_err-_cut-clause-hindered
returns-in_err-_cut-clause-hindered g c =
    let p = err_from_is_err_and c.from_residual-in_err-_cut.result c.from_residual-in_err-_cut.ensures.1 in
    left_call g.D.Disk errno_of (IsNoFileOrDirectory c.args.number) (IsUnresized c.args.number c.args.size)
    (λ form x e is. inr (inl is))
    c.cut_at.new.tree.kernel c.cut_at.new.tree.calls_left c.from_residual-in_err-_cut.result p.0 c.in_err-_cut.field-0.0 p.1 p.2 c.in_err-_cut.ensures.hindered
