use Rattle.mounting.proofs.Hindering.{if_ok_both, wrote_behind}
use Rattle.std.proofs.Common.{ℕ, ◌+◌, ◌-◌, take, drop, subst, arith}
use Rattle.std.proofs.lemmas.Result.{IfOk-weaker}
use Rattle.mounting.proofs.ReadParts.{stands_by}
use Rattle.names.specs.Inside.{form_seen}
use Rattle.names.specs.Numbered.{WritesSomeOf}
use Rattle.names.specs.Ready.{AnyOf}
use Rattle.mounting.proofs.files.write_piece.Goals as goal

pub returns-clause-makes : goal.returns-clause-makes
returns-clause-makes g c =
    λ task o first within before. c.write_at.ensures.makes task o first
    (λ x z is. within x z (c.args.done, (c.args.done + c.min.result - c.args.done, subst (λ (at : ℕ). AnyOf (WritesSomeOf (form_seen g.D.Disk.image o) c.args.number at (take (c.args.done + c.min.result - c.args.done) (drop c.args.done c.args.bytes.now))) x z) c.in-Ok.ensures.1 is.1))) before

pub returns-clause-stands : goal.returns-clause-stands
returns-clause-stands g c =
    IfOk-weaker c.write_at.result _ _ (λ wrote writes. stands_by _ _ _ c.args.number c.in-Ok.at c.args.offset c.args.done (c.args.done + c.min.result - c.args.done) c.args.bytes.now wrote c.in-Ok.ensures.1 c.requires.stands writes) c.write_at.ensures.does

pub returns-clause-part : goal.returns-clause-part
returns-clause-part g c =
    let least = c.min.ensures in
    if_ok_both c.write_at.result
    (λ wrote writes part. wrote_behind g.D.Disk c.args.number c.args.offset c.in-Ok.at c.args.done (c.args.done + c.min.result - c.args.done) c.args.bytes.now c.args.tree.now.kernel c.write_at.new.tree.kernel wrote c.in-Ok.ensures.1 (λ few. omega (arith, few, least))
    (omega (arith, least)) c.requires.stands writes part)
    c.write_at.ensures.does c.write_at.ensures.part
