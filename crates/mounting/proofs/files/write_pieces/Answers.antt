use Rattle.names.specs.Numbered.{IsNoFileOrDirectory}
use Rattle.mounting.specs.Causes.{AreUnwritten, WroteBehind, errno_of, unwritten_errno}
use Rattle.std.proofs.lemmas.Result.{err_from_is_err_and}
use Rattle.mounting.proofs.Hindering.{left_call}
use Rattle.std.proofs.Common.{◌≡◌, ◌∙◌, ℕ, ◌+◌, ◌-◌, length, ap, subst, arith, inl, inr}
use Rattle.std.specs.Prelude.{Result}
use Rattle.mounting.specs.Changes.{bytes_on, wrote_count, StandsAt}
use Rattle.names.specs.declared.writing.Unwritten.{Unwritten}
use Rattle.mounting.proofs.files.write_pieces.Goals as goal

pub returns-in_err-write_piece-clause-makes : goal.returns-in_err-write_piece-clause-makes
returns-in_err-write_piece-clause-makes g c = λ task o first within before. (c.write_piece.ensures.makes task o first within (c.loop-piece.invariant.makes task o first within before))

pub returns-in-Ok-eq0-clause-makes : goal.returns-in-Ok-eq0-clause-makes
returns-in-Ok-eq0-clause-makes g c = λ task o first within before. (c.write_piece.ensures.makes task o first within (c.loop-piece.invariant.makes task o first within before))

pub returns-then-left-bytes-clause-makes : goal.returns-then-left-bytes-clause-makes
returns-then-left-bytes-clause-makes g c = λ task o first within before. (c.write_piece.ensures.makes task o first within (c.loop-piece.invariant.makes task o first within before))

pub returns-in-Err-clause-makes : goal.returns-in-Err-clause-makes
returns-in-Err-clause-makes g c = λ task o first within before. (c.write_piece.ensures.makes task o first within (c.loop-piece.invariant.makes task o first within before))

pub loop-piece-preserved : goal.loop-piece-preserved
loop-piece-preserved g c =
    let so_far = c.loop-piece.invariant.some in
    let stands : StandsAt (bytes_on g.D.Disk c.args.number c.write_piece.new.tree.kernel) c.args.offset c.args.bytes.now (length c.args.bytes.now - c.loop-piece.left + c.in-Ok.count) =
    subst (λ (wrote : Result ℕ Unwritten). StandsAt (bytes_on g.D.Disk c.args.number c.write_piece.new.tree.kernel) c.args.offset c.args.bytes.now (length c.args.bytes.now - c.loop-piece.left + wrote_count wrote)) c.in-Ok.is c.in_ok-write_piece.ensures.stands in
    let few = stands.few in
    let least = c.min-left.ensures in
    let on : length c.args.bytes.now - c.loop-piece.left + c.in-Ok.count ≡ length c.args.bytes.now - (c.loop-piece.left - c.min-left.result) = omega (arith, so_far, few, least) in
    record {
      ready = c.write_piece.ensures.ready;
      makes = λ task o first within before. c.write_piece.ensures.makes task o first within (c.loop-piece.invariant.makes task o first within before);
      some = omega (arith, so_far);
      done = let before = c.loop-piece.invariant.done in let least_one = c.in-Ok.count-test in omega (arith, before, few, least, so_far, least_one);
      stands = subst (λ (n : ℕ). StandsAt (bytes_on g.D.Disk c.args.number c.write_piece.new.tree.kernel) c.args.offset c.args.bytes.now n) on stands;
    }

pub returns-in_err-write_piece-clause-hindered : goal.returns-in_err-write_piece-clause-hindered
returns-in_err-write_piece-clause-hindered g c =
    let p = err_from_is_err_and c.from_residual.result c.from_residual.ensures.1 in
    left_call g.D.Disk errno_of (IsNoFileOrDirectory c.args.number) (AreUnwritten c.args.number c.args.offset c.args.bytes.now)
    (λ form x e is. inl is)
    c.write_piece.new.tree.kernel c.write_piece.new.tree.calls_left c.from_residual.result p.0 c.in_err-write_piece.field-0.0 p.1 p.2 c.in_err-write_piece.ensures.hindered

pub returns-then-left-bytes-clause-hindered : goal.returns-then-left-bytes-clause-hindered
returns-then-left-bytes-clause-hindered g c =
    let m = c.write_piece.new.tree.kernel in
    let part = subst (λ (r : Result ℕ Unwritten). WroteBehind g.D.Disk c.args.number c.args.offset c.args.bytes.now (length c.args.bytes.now - c.loop-piece.left) m r) c.in-Err.is c.in_ok-write_piece.ensures.part in
    inl (inr (c.into.ensures ∙ ap unwritten_errno part.0, part.1))

pub returns-in-Err-clause-short : goal.returns-in-Err-clause-short
returns-in-Err-clause-short g c = λ some.
    let m = c.write_piece.new.tree.kernel in
    let part = subst (λ (r : Result ℕ Unwritten). WroteBehind g.D.Disk c.args.number c.args.offset c.args.bytes.now (length c.args.bytes.now - c.loop-piece.left) m r) c.in-Err.is c.in_ok-write_piece.ensures.part in
    (λ all. absurd (c.if-left-bytes.false all), inr part.1)

pub returns-clause-short : goal.returns-clause-short
returns-clause-short g c = λ some.
    let done = c.loop-piece.invariant.done in
    let none : c.loop-piece.left ≡ 0 = omega (arith, done, c.loop-piece-test.false, c.loop-piece.auto._piece-end) in
    absurd (omega (arith, some, none))
