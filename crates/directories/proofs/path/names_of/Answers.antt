use Rattle.std.proofs.Common.{◌≡◌, ◌≢◌, get_or, Err, subst, sym, rules, arith}
use Rattle.std.specs.Prelude.{IfErr}
use Rattle.std.proofs.lemmas.Grind.{common_steps}
use Rattle.directories.specs.Paths.{IsPathCause}
use Rattle.directories.proofs.Parts.{parted_on, parted_at, parted_all, refused_at, refused_last}
use Rattle.directories.proofs.path.names_of.Goals.{then-byte-eq-SLASH+in_ok-push_part, else-byte-eq-SLASH}
use Rattle.directories.proofs.path.names_of.Goals as goal

pub returns-in_err-push_part-clause-refused : goal.returns-in_err-push_part-clause-refused
returns-in_err-push_part-clause-refused c =
    let is : c.from_residual.result ≡ Err c.in_err-push_part.field-0.0 = search rules in
    let slash : get_or c.args.path.now c.loop-i.i 0 ≡ 47 = first_of (search rules, grind (arith, common_steps)) in
    subst (λ r. IfErr r (IsPathCause c.args.path.now)) (sym is)
    (refused_at c.args.path.now c.loop-i.names.items c.loop-i.start c.loop-i.i c.in_err-push_part.field-0.0 (omega arith) slash c.loop-i.invariant c.in_err-push_part.ensures.refused)

pub loop-i-preserved : goal.loop-i-preserved
loop-i-preserved c =
    elim c.if-byte-eq-SLASH.branch [
      | then-byte-eq-SLASH+in_ok-push_part w ↦
          let slash : get_or c.args.path.now c.loop-i.i 0 ≡ 47 = w.if-byte-eq-SLASH.true in
          rw (w.names-is, w.start-is)
          (parted_at c.args.path.now c.loop-i.names.items w.push_part.new.names.items c.loop-i.start c.loop-i.i (omega arith) slash w.in_ok-push_part.ensures.adds c.loop-i.invariant)
      | else-byte-eq-SLASH w ↦
          let other : get_or c.args.path.now c.loop-i.i 0 ≢ 47 = w.if-byte-eq-SLASH.false in
          rw (w.names-is, w.start-is) (parted_on c.args.path.now c.loop-i.names.items c.loop-i.start c.loop-i.i (omega arith) other c.loop-i.invariant)
    ]

pub returns-in_err-push_part-2-clause-refused : goal.returns-in_err-push_part-2-clause-refused
returns-in_err-push_part-2-clause-refused c =
    let is : c.from_residual-in_err-push_part-2.result ≡ Err c.in_err-push_part-2.field-0.0 = search rules in
    subst (λ r. IfErr r (IsPathCause c.args.path.now)) (sym is)
    (refused_last c.args.path.now c.loop-i.names.items c.loop-i.start c.loop-i.i c.in_err-push_part-2.field-0.0 (omega arith) c.loop-i.invariant c.in_err-push_part-2.ensures.refused)

pub returns-clause-names : goal.returns-clause-names
returns-clause-names c =
    parted_all c.args.path.now c.loop-i.names.items c.push_part-2.new.names.items c.loop-i.start c.loop-i.i (omega arith) c.in_ok-push_part-2.ensures.adds c.loop-i.invariant
