use Rattle.std.proofs.Common.{◌≡◌, ◌≢◌, ◌∙◌, ℕ, Some, refl, sym, ap, subst, arith}
use Rattle.std.specs.Prelude.{unwrap_or}
use Rattle.std.proofs.lemmas.Result.{err_from_is_err_and}
use Rattle.model.specs.Common.{logged_count}
use Rattle.conversion.specs.Common.{Image}
use Rattle.conversion.specs.declared.fault.ConversionFault.TheVariants.{Logged}
use Rattle.conversion.proofs.FitLemmas.{chosen_by, log_refused, none_refused, not_older, planned, room_by, short_refused, size_refused}
use Rattle.conversion.proofs.plan.read_plan.Goals as goal

pub returns-then-size-lt2-clause-refused : goal.returns-then-size-lt2-clause-refused
returns-then-size-lt2-clause-refused g c =
    (short_refused (g.D.Disk.image c.args.old.now) c.args.to c.args.asked (omega (arith, c.if-size-lt2.true, c.size.ensures)), refl)

pub returns-in_err-sup-clause-refused : goal.returns-in_err-sup-clause-refused
returns-in_err-sup-clause-refused g c =
    let d = g.D.Disk in
    let p = err_from_is_err_and c.from_residual.result c.from_residual.ensures.1 in
    rw (p.1, p.2)
    (not_older (d.image c.args.old.now) c.args.to c.args.asked (d.fault_count c.args.old.now) (d.fault_count c.read_older.new.old) c.in_err-sup.field-0.0
    (omega (arith, c.if-size-lt2.false, c.size.ensures)) c.in_err-sup.ensures.refused)

pub returns-then-logged-ne0-clause-refused : goal.returns-then-logged-ne0-clause-refused
returns-then-logged-ne0-clause-refused g c =
    let x = g.D.Disk.image c.args.old.now in
    let older = c.in_ok-sup.ensures.older in
    let logged = c.in_ok-logged.logged in
    let count : logged ≡ logged_count x = subst (λ (y : Image). logged ≡ logged_count y) c.read_older.ensures.reads.image c.in_ok-logged.ensures.count in
    let some : logged_count x ≢ 0 = λ e. absurd (omega (arith, c.if-logged-ne0.true, count, e)) in (
      log_refused x c.args.to c.args.asked (omega (arith, c.if-size-lt2.false, c.size.ensures)) older.magic older.lawful some
          ∙ ap (λ (n : ℕ). Some (Logged n)) (sym count),
      c.in_ok-logged.ensures.faults ∙ c.in_ok-sup.ensures.faults,
    )

pub returns-then-not-is_room-clause-refused : goal.returns-then-not-is_room-clause-refused
returns-then-not-is_room-clause-refused g c =
    let x = g.D.Disk.image c.args.old.now in
    let older = c.in_ok-sup.ensures.older in
    let logged = c.in_ok-logged.logged in
    let count : logged ≡ logged_count x = subst (λ (y : Image). logged ≡ logged_count y) c.read_older.ensures.reads.image c.in_ok-logged.ensures.count in
    let chosen = c.unwrap_or-size.ensures ∙ ap (unwrap_or c.args.asked) c.least_size.ensures in
    let room = room_by x c.args.to c.args.asked c.in_ok-sup.sup c.unwrap_or-size.result c.is_room.result older.same chosen c.is_room.ensures in (
      size_refused x c.args.to c.args.asked (omega (arith, c.if-size-lt2.false, c.size.ensures)) older.magic older.lawful
          (omega (arith, c.if-logged-ne0.false, count)) (room ∙ c.if-not-is_room.true),
      c.in_ok-logged.ensures.faults ∙ c.in_ok-sup.ensures.faults,
    )

pub returns-clause-plan : goal.returns-clause-plan
returns-clause-plan g c =
    let x = g.D.Disk.image c.args.old.now in
    let older = c.in_ok-sup.ensures.older in
    let logged = c.in_ok-logged.logged in
    let count : logged ≡ logged_count x = subst (λ (y : Image). logged ≡ logged_count y) c.read_older.ensures.reads.image c.in_ok-logged.ensures.count in
    let chosen = c.unwrap_or-size.ensures ∙ ap (unwrap_or c.args.asked) c.least_size.ensures in
    let room = room_by x c.args.to c.args.asked c.in_ok-sup.sup c.unwrap_or-size.result c.is_room.result older.same chosen c.is_room.ensures in
    let none = none_refused x c.args.to c.args.asked (omega (arith, c.if-size-lt2.false, c.size.ensures)) older.magic older.lawful
    (omega (arith, c.if-logged-ne0.false, count)) (room ∙ c.if-not-is_room.false) in
    planned x c.args.to c.args.asked _ c.requires.log none older.same refl
    (chosen_by x c.args.to c.args.asked c.in_ok-sup.sup c.unwrap_or-size.result older.same chosen)
