use Rattle.std.proofs.Common.{sym, ◌∙◌, ap, subst}
use Rattle.wal.specs.Common.{answer_at, Faulted, header_block, Image, is_writing, IsPinned, LogState, stepped_at, written_cache}
use Rattle.wal.proofs.CommitBytesLemmas.{is_pinned, log_header, place_inside}
use Rattle.wal.proofs.CommitStepLemmas.{stepped, faulted, commits_to, made_counts, no_fault, crash_step, crash_lands}
use Rattle.wal.proofs.FloatLemmas.{Lands}
use Rattle.wal.proofs.log.Log.write_part.Given.{Over}
use Rattle.wal.proofs.log.Log.write_part.Goals.{After-write_next}
use Rattle.wal.proofs.log.Log.write_part.Goals as goal

-- what a crash leaves once a block was written, or not
lands : (g : Over) (c : After-write_next g) → (z : Image) → g.D.Disk.leaves c.write_next.new.disk (g.D.Disk.moment c.write_next.new.disk) z
    → Lands c.args.self.now.commit c.args.self.now (header_block c.args.self.now.homes) (g.D.Disk.image c.args.disk.now) c.args.cache.now z
lands g c =
    crash_lands _ (g.D.Disk.image c.args.disk.now) c.args.cache.now c.args.self.now _ _ c.requires.joint c.requires.writing (log_header c.args.self.now.commit c.args.self.now c.requires.joint.log) c.requires.floats
    c.write_next.ensures.writes.crash

pub write_next-requires : goal.write_next-requires
write_next-requires g c = record {
  inside = place_inside (g.D.Disk.image c.args.disk.now) c.args.cache.now c.args.self.now c.requires.joint;
  pinned = is_pinned (g.D.Disk.image c.args.disk.now) c.args.cache.now c.args.self.now c.requires.joint;
}

pub go_on-requires : goal.go_on-requires
go_on-requires g c = record {
  writing = ap (λ (m : LogState). is_writing m.commit) c.in-Ok.ensures.log ∙ c.requires.writing;
  pinned = subst (λ (m : LogState). IsPinned m.commit m.homes c.args.cache.now) (sym c.in-Ok.ensures.log) (is_pinned (g.D.Disk.image c.args.disk.now) c.args.cache.now c.args.self.now c.requires.joint);
}

pub returns-in-Ok : goal.returns-in-Ok
returns-in-Ok g c =
    let d = g.D.Disk in
    let old = c.args.disk.now in
    let new = c.write_next.new.disk in
    let l = c.args.self.now in
    let h = header_block l.homes in
    let same = c.in-Ok.ensures.log in
    let made = c.in-Ok.ensures.writes in
    let holds = d.holding (d.name old) in
    let kind = c.holds.ensures ∙ ap d.holding made.name in
    let answer = c.go_on.ensures.answer ∙ ap (λ (m : LogState). answer_at c.holds.result m.commit m.opened) same ∙ ap (λ b. answer_at b l.commit l.opened) kind in
    let lands = lands g (goal.at.returns-in-Ok g c).After-write_next in
    record {
      write = record {
        step = commits_to (answer_at holds l.commit l.opened) c.go_on.result _ _ (no_fault holds l.commit l.opened) answer
            (stepped holds h (d.image old) c.args.cache.now l (d.image new) c.go_on.new.cache c.go_on.new.self (d.leaves old (d.moment old)) (d.leaves new (d.moment new)) c.requires.joint c.requires.writing (log_header l.commit l c.requires.joint.log)
            c.requires.floats made.crash (λ plain. g.met.D.Disk.only_now new (ap d.holding made.name ∙ plain))
            made.ok (c.go_on.ensures.cache ∙ ap (λ (m : LogState). written_cache m.commit m.homes c.args.cache.now) same)
            (c.go_on.ensures.log ∙ ap (λ (m : LogState). stepped_at c.holds.result m.commit m) same ∙ ap (λ b. stepped_at b l.commit l) kind));
        name = made.name;
        time = made.time;
        crash = crash_step h (d.image old) c.args.cache.now l _ _ c.requires.joint made.crash;
        recovers = λ z left. (lands z left).keeps;
        lawful = λ z left. (lands z left).lawful;
        writes = made_counts (answer_at holds l.commit l.opened) c.go_on.result _ _ _ (no_fault holds l.commit l.opened) answer made.writes;
        faults = made_counts (answer_at holds l.commit l.opened) c.go_on.result _ _ _ (no_fault holds l.commit l.opened) answer made.faults;
        syncs = made.syncs;
      };
    }

pub returns-in-Err : goal.returns-in-Err
returns-in-Err g c =
    let x = g.D.Disk.image c.args.disk.now in
    let y = g.D.Disk.image c.write_next.new.disk in
    let l = c.args.self.now in
    let buffers = c.args.cache.now in
    let failed = c.in-Err.ensures.writes in
    let lands = lands g (goal.at.returns-in-Err g c).After-write_next in
    record {
      write = record {
        step = subst (λ (m : LogState). Faulted (header_block l.homes) x buffers l y buffers m) (sym c.in-Err.ensures.log)
            (faulted (header_block l.homes) x buffers l y c.requires.joint failed.err);
        name = failed.name;
        time = failed.time;
        crash = crash_step (header_block l.homes) x buffers l _ _ c.requires.joint failed.crash;
        recovers = λ z left. (lands z left).keeps;
        lawful = λ z left. (lands z left).lawful;
        writes = (failed.writes, failed.faults);
        faults = (c.in-Err.ensures.fault, failed.faults);
        syncs = failed.syncs;
      };
    }
