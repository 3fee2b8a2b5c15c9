use Rattle.std.proofs.Common.{refl, rules, sym, subst, arith}
use Rattle.std.specs.Prelude.{◌≡◌}
use Rattle.blocks.specs.Disk.{AddsNone}
use Rattle.opening.specs.Lemmas.Keeping.{not_opened_leaves}
use Rattle.transfer.specs.Putting.{IsUnput}
use Rattle.transfer.specs.Stopped.{StopsPut}
use Rattle.transfer.proofs.OpenedLemmas.{put_leaves, put_so, put_untold, read_leaves, recovered_leaves, synced_leaves, told_so, unopened_then, unwhole_so, whole_run}
use Rattle.transfer.proofs.whole.put_few.Goals as goal

-- it was judged that they are not put
pub returns-in-Err : goal.returns-in-Err
returns-in-Err g c = record {
  put = tt;
  refused = told_so g.D.Disk c.args.inum c.args.bytes.now c.args.sync c.args.disk c.judge.new.disk _ refl c.in-Err.refusal c.in-Err.ensures.refused;
  leaves = λ sound. read_leaves g.D.Disk c.args.inum c.args.bytes.now c.args.disk c.judge.new.disk sound c.in-Err.ensures.refused.reads;
  name = search rules;
}

-- no kernel was opened
pub returns-in-Err-open_pair : goal.returns-in-Err-open_pair
returns-in-Err-open_pair g c = record {
  put = tt;
  refused = (unopened_then g.D.Disk c.args.inum c.args.bytes.now c.args.sync c.args.disk c.judge.new.disk c.in-Ok.ensures.fit c.in-Err-open_pair.disk c.in-Err-open_pair.fault c.in-Err-open_pair.ensures.refused, refl);
  leaves = let d = g.D.Disk in let e = c.in-Err-open_pair.disk in λ sound. recovered_leaves d c.args.inum c.args.bytes.now c.args.disk c.judge.new.disk sound c.in-Ok.ensures.fit.reads e (not_opened_leaves d 2 c.judge.new.disk e c.in-Err-open_pair.fault c.in-Err-open_pair.ensures.refused);
  name = search rules;
}

-- they were put, and then told or not
pub returns-in-Ok-put : goal.returns-in-Ok-put
returns-in-Ok-put g c = record {
  put = let d = g.D.Disk in let contents = g.O.Write.contents in put_so d c.args.inum c.args.bytes.now c.args.sync c.args.disk c.judge.new.disk c.in-Ok.ensures.fit _ c.in-Ok-open_pair.kernel c.in-Ok-open_pair.ensures.opened c.in-Ok.twice c.in-Ok.ensures.twice c.put_once-put.new.kernel c.into_disk-disk.result c.tell-told.new.disk c.into_disk-disk.ensures c.in-Ok-put.number (c.in-Ok-put.ensures.put c.in-Ok.twice) c.tell-told.result (contents c.args.out.now) (contents c.tell-told.new.out) c.tell-told.ensures.syncs c.tell-told.ensures.printed;
  refused = let d = g.D.Disk in put_untold d c.args.inum c.args.bytes.now c.args.sync c.args.disk c.judge.new.disk c.in-Ok.ensures.fit _ c.in-Ok-open_pair.kernel c.in-Ok-open_pair.ensures.opened c.in-Ok.twice c.in-Ok.ensures.twice c.put_once-put.new.kernel c.into_disk-disk.result c.tell-told.new.disk c.into_disk-disk.ensures c.in-Ok-put.number (c.in-Ok-put.ensures.put c.in-Ok.twice) c.tell-told.result _ c.tell-told.ensures.refused;
  leaves = let d = g.D.Disk in λ sound. synced_leaves d c.args.inum c.args.bytes.now c.args.disk c.judge.new.disk sound c.in-Ok.ensures.fit.reads _ c.in-Ok-open_pair.kernel c.put_once-put.new.kernel c.in-Ok-open_pair.ensures.opened (whole_run d c.args.inum c.args.bytes.now c.args.disk c.judge.new.disk sound c.in-Ok.ensures.fit.reads _ c.in-Ok-open_pair.kernel c.put_once-put.new.kernel c.in-Ok-open_pair.ensures.opened c.put_once-put.ensures.stays) c.tell-told.new.disk (subst (λ e. AddsNone (d.moment e) (d.moment c.tell-told.new.disk) (d.leaves e) (d.leaves c.tell-told.new.disk)) c.into_disk-disk.ensures c.tell-told.ensures.time);
  name = search rules;
}

-- calls did not put them all
pub returns-in-Err-put : goal.returns-in-Err-put
returns-in-Err-put g c = record {
  put = tt;
  refused = let d = g.D.Disk in let none = c.args.out.now ≡ c.args.out.now in subst (λ e. IsUnput d c.args.inum c.args.bytes.now c.args.sync c.args.disk e none c.in-Err-put.refusal) (sym c.abandon.ensures.disk) (unwhole_so d c.args.inum c.args.bytes.now c.args.sync c.args.disk c.judge.new.disk c.in-Ok.ensures.fit _ c.in-Ok-open_pair.kernel c.in-Ok-open_pair.ensures.opened c.in-Ok.twice c.in-Ok.ensures.twice c.put_once-put.new.kernel none c.requires.few c.in-Ok-open_pair.ensures.opened c.put_once-put.ensures.stays.reached refl c.in-Err-put.refusal c.in-Err-put.ensures.refused);
  leaves = let d = g.D.Disk in λ sound. subst (λ e. StopsPut d c.args.inum c.args.bytes.now c.args.disk e) (sym c.abandon.ensures.disk) (put_leaves d c.args.inum c.args.bytes.now c.args.disk c.judge.new.disk sound c.in-Ok.ensures.fit.reads _ c.in-Ok-open_pair.kernel c.put_once-put.new.kernel c.in-Ok-open_pair.ensures.opened (whole_run d c.args.inum c.args.bytes.now c.args.disk c.judge.new.disk sound c.in-Ok.ensures.fit.reads _ c.in-Ok-open_pair.kernel c.put_once-put.new.kernel c.in-Ok-open_pair.ensures.opened c.put_once-put.ensures.stays));
  name = search rules;
}
