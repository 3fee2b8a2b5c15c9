use Rattle.std.proofs.Common.{refl}
use Rattle.wal.specs.Common.{answer_synced, now_stays}
use Rattle.wal.proofs.CommitStepLemmas.{synced, commits_to, made_counts, no_sync_fault}
use Rattle.wal.proofs.log.Log.sync_part.Goals as goal

pub returns-in-Ok : goal.returns-in-Ok
returns-in-Ok g c =
    let d = g.D.Disk in
    let old = c.args.disk.now in
    let new = c.sync.new.self in
    let l = c.args.self.now in
    let done = c.in-Ok.ensures in
    let answer = c.pass.ensures.answer in
    record {
      sync = record {
        step = commits_to (answer_synced c.args.part l.opened) c.pass.result _ _ (no_sync_fault c.args.part l.opened) answer
            (synced c.args.part (d.image old) c.args.cache.now l (d.image new) c.pass.new.self (d.leaves new (d.moment new)) c.requires.syncing c.requires.joint done.image c.pass.ensures.log done.ok);
        name = done.name;
        image = done.image;
        time = done.time;
        fewer = now_stays d.moment d.leaves old new (g.met.D.Disk.counts_now new) done.time;
        writes = done.writes;
        faults = made_counts (answer_synced c.args.part l.opened) c.pass.result _ _ _ (no_sync_fault c.args.part l.opened) answer done.faults;
        syncs = made_counts (answer_synced c.args.part l.opened) c.pass.result _ _ _ (no_sync_fault c.args.part l.opened) answer done.syncs;
      };
    }

pub returns-in-Err : goal.returns-in-Err
returns-in-Err g c =
    let d = g.D.Disk in
    let new = c.sync.new.self in
    let failed = c.in-Err.ensures in
    record {
      sync = record {
        step = record { cache = refl; log = refl };
        name = failed.name;
        image = failed.image;
        time = failed.time;
        fewer = now_stays d.moment d.leaves c.args.disk.now new (g.met.D.Disk.counts_now new) failed.time;
        writes = failed.writes;
        faults = (tt, failed.faults);
        syncs = (failed.syncs, failed.faults);
      };
    }
