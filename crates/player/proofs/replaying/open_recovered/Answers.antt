use Rattle.std.proofs.Common.{◌∙◌, ap, inr, subst}
use Rattle.blocks.specs.Disk.{counted}
use Rattle.model.specs.Log.{logged_count}
use Rattle.wal.specs.Lemmas.Stops.{if_synced}
use Rattle.wal.specs.Recovery.{RecoversAs, writes_to_recover}
use Rattle.opening.specs.Lemmas.Stopping.{leaves_again}
use Rattle.opening.specs.Recoveries.{IsRecovered}
use Rattle.player.specs.Disks.{faulty}
use Rattle.player.proofs.Openings.{none_counted, opened_again, over_name, over_only}
use Rattle.player.proofs.replaying.open_recovered.Goals as goal

pub returns-in-Err-clause-refused : goal.returns-in-Err-clause-refused
returns-in-Err-clause-refused g c = record {
  cause = c.in-Err.ensures.refused;
  name = c.recover_image.ensures.name;
  leaves = c.recover_image.ensures.stops;
}

pub returns-in-Err-open_player-clause-refused : goal.returns-in-Err-open_player-clause-refused
returns-in-Err-open_player-clause-refused g c =
    let e = c.in-Err-open_player.disk in
    let fault = c.in-Err-open_player.fault in
    let mid = c.recover_image.new.disk in
    let r = c.in_default.ensures.ok in
    record {
      cause = inr (mid, subst (λ n. IsRecovered g.D.Disk n c.args.disk mid) r.count r, c.in-Err-open_player.ensures.refused);
      name = over_name g.D.Disk c.args.processes c.args.stop mid e fault c.in-Err-open_player.ensures.refused ∙ c.recover_image.ensures.name;
      leaves = if_synced g.D.Disk c.args.disk e (RecoversAs (g.D.Disk.image c.args.disk)) (leaves_again g.D.Disk c.args.disk mid e r.sound r.image c.in_default.ensures.settled c.in_default.ensures.synced
          (over_only g.D.Disk c.args.processes c.args.stop mid e fault c.in-Err-open_player.ensures.refused).any_moment);
    }

pub returns-in-Ok-clause-ready : goal.returns-in-Ok-clause-ready
returns-in-Ok-clause-ready g c =
    let mid = c.recover_image.new.disk in
    let r = c.in_default.ensures.ok in
    let made = c.in-Ok.ensures in
    record {
      sound = r.sound;
      opened = opened_again (faulty g.D.Disk).image (g.D.Disk.image c.args.disk) (g.D.Disk.image mid) c.args.tasks.items c.args.processes c.in-Ok.player r.image made.opened;
      writes = made.writes ∙ none_counted (g.D.Disk.write_count mid) (logged_count (g.D.Disk.image mid)) r.none ∙ r.writes ∙ ap (λ n. counted (g.D.Disk.write_count c.args.disk) (writes_to_recover n)) r.count;
      armed = made.armed r.none;
      name = made.name ∙ c.recover_image.ensures.name;
      leaves = leaves_again g.D.Disk c.args.disk mid c.in-Ok.player.kernel.store.volume.device.inner r.sound r.image c.in_default.ensures.settled c.in_default.ensures.synced made.leaves.any_moment;
    }
