use Rattle.std.proofs.Common.{◌≡◌, ◌∙◌, ◌<◌, Some, ap, arith, length, subst}
use Rattle.std.specs.Prelude.{slice_get}
use Rattle.std.proofs.lemmas.Result.{err_from_is_err_and}
use Rattle.blocks.specs.Disk.{Image}
use Rattle.model.specs.Layout.{super_in}
use Rattle.model.specs.Log.{homes_in, logged_in}
use Rattle.model.specs.Lemmas.Super.{long_where_sound, verdict_none}
use Rattle.offline.proofs.OpeningLemmas.{form_read, form_told, header_read, super_read}
use Rattle.offline.proofs.recovered.Recovered.open_checked.Goals as goal

pub read-requires : goal.read-requires
read-requires g c = omega (arith, long_where_sound (g.D.Disk.image c.args.disk.now) c.requires.sound)

pub read-requires-2 : goal.read-requires-2
read-requires-2 g c =
    let x = g.D.Disk.image c.args.disk.now in
    let same : g.D.Disk.image c.read.new.self ≡ x = c.in_ok-read.ensures.image in
    omega (arith, long_where_sound x c.requires.sound, ap (λ (y : Image). length y) same)

pub returns-clause-ok : goal.returns-clause-ok
returns-clause-ok g c =
    let x = g.D.Disk.image c.args.disk.now in
    let first = c.in_ok-read.ensures.ok in
    let second = subst (λ (y : Image). slice_get y 2 ≡ Some c.read-2.new.into) c.in_ok-read.ensures.image c.in_ok-read-2.ensures.ok in
    let same = c.as_slice-3.ensures.value in
    record {
      sound = c.requires.sound;
      recovered = record {
        geometry = (verdict_none x c.requires.sound).0;
        sup = super_read x c.read.new.into c.read-sup.result first (c.read-sup.ensures ∙ ap super_in c.as_slice.ensures.value);
        form = form_read x c.read.new.into c.form-form.result first (c.form-form.ensures ∙ ap form_told c.as_slice-2.ensures.value);
        header = header_read x c.read-2.new.into c.read-header.result c.requires.sound second (c.read-header.ensures.count ∙ ap logged_in same) (c.read-header.ensures.homes ∙ ap homes_in same) c.read-header.ensures.few;
      };
    }

pub returns-in_err-read-clause-fault : goal.returns-in_err-read-clause-fault
returns-in_err-read-clause-fault g c =
    let p = err_from_is_err_and c.from_residual.result c.from_residual.ensures.1 in
    let is = c.in_err-read.ensures.fault in
    let within : c.in_err-read.field-0.0.0 < length (g.D.Disk.image c.args.disk.now) = omega (arith, long_where_sound (g.D.Disk.image c.args.disk.now) c.requires.sound, is) in
    rw (p.1, p.2) within

pub returns-in_err-read-2-clause-fault : goal.returns-in_err-read-2-clause-fault
returns-in_err-read-2-clause-fault g c =
    let p = err_from_is_err_and c.from_residual-in_err-read-2.result c.from_residual-in_err-read-2.ensures.1 in
    let is = c.in_err-read-2.ensures.fault in
    let within : c.in_err-read-2.field-0.0.0 < length (g.D.Disk.image c.args.disk.now) = omega (arith, long_where_sound (g.D.Disk.image c.args.disk.now) c.requires.sound, is) in
    rw (p.1, p.2) within
