use Rattle.std.proofs.Common.{Err, rules, ◌≡◌, ◌≢◌, ◌≤◌, ◌+◌, ℕ, length, sym, ◌∙◌, ap, subst, arith, add-one}
use Rattle.wal.specs.Common.{cond-false, counted, HasCopied, homes_of, Image, logged_count, ne_eqb, none_cleared, now_stays, one_more, OnNoMemory, recovered_empty, RefusesToRecover, StopsAlike, super_facts, syncs_to_restore, syncs_to_settle}
use Rattle.layout.specs.declared.header.Header.{Header}
use Rattle.wal.proofs.CopyLemmas.{cleared}
use Rattle.wal.proofs.RecoveryLemmas.{homes_counted, none_as, none_late, refuses_late, rests_reading, stops_read, stops_copying, stops_clearing, syncs_none, syncs_some}
use Rattle.wal.proofs.recovery.restore.Given.{Over}
use Rattle.wal.proofs.recovery.restore.Goals.{After-clear_header}
use Rattle.wal.proofs.recovery.restore.Goals as goal

-- the blocks were copied home
module _ (g : Over) (c : After-clear_header g) where
  long : 33 ≤ length (g.D.Disk.image c.args.disk.now)
  long =
      let lawful = super_facts c.args.sup.now (length (g.D.Disk.image c.args.disk.now)) c.requires.fields in
      omega (arith, lawful.room, lawful.size)

  homes : c.as_slice.result.now ≡ homes_of (g.D.Disk.image c.args.disk.now)
  homes = c.as_slice.ensures.value ∙ c.in_ok-header.ensures.ok.homes

  some : logged_count (g.D.Disk.image c.args.disk.now) ≢ 0
  some none = c.if-header-eq0.false (c.in_ok-header.ensures.ok.count ∙ none)

  copied : HasCopied (length (homes_of (g.D.Disk.image c.args.disk.now))) (g.D.Disk.image c.args.disk.now) (g.D.Disk.image c.bring_home.new.disk)
  copied =
      subst (λ (n : ℕ). HasCopied n (g.D.Disk.image c.args.disk.now) (g.D.Disk.image c.bring_home.new.disk)) (ap length homes)
      (subst (λ (z : Image). HasCopied (length c.as_slice.result.now) z (g.D.Disk.image c.bring_home.new.disk)) c.in_ok-header.ensures.reads.image c.in_ok-bring_home.ensures.ok.copies.copied)

  stops : StopsAlike g.D.Disk c.args.disk.now c.clear_header.new.disk
  stops =
      stops_clearing g.D.Disk c.args.disk.now c.read_header.new.disk c.bring_home.new.disk c.clear_header.new.disk c.requires.settled
      long c.in_ok-header.ensures.ok.lawful some c.in_ok-header.ensures.reads copied c.in_ok-bring_home.ensures.stops c.clear_header.ensures.stops
      (λ free. c.clear_header.ensures.fails.plain (ap g.D.Disk.holding (c.in_ok-bring_home.ensures.fails.name ∙ c.in_ok-header.ensures.reads.name) ∙ free))

pub returns-in_err-header-clause-stops : goal.returns-in_err-header-clause-stops
returns-in_err-header-clause-stops g c = stops_read g.D.Disk c.args.disk.now c.read_header.new.disk c.requires.settled c.read_header.ensures.reads

pub returns-then-header-eq0-clause-stops : goal.returns-then-header-eq0-clause-stops
returns-then-header-eq0-clause-stops g c = stops_read g.D.Disk c.args.disk.now c.read_header.new.disk c.requires.settled c.read_header.ensures.reads

pub returns-then-header-eq0-clause-ok : goal.returns-then-header-eq0-clause-ok
returns-then-header-eq0-clause-ok g c =
    let d = g.D.Disk in
    let log = c.in_ok-header.ensures.ok in
    let reads = c.in_ok-header.ensures.reads in
    let n = c.in_ok-header.header.n in
    record {
      lawful = log.lawful;
      count = sym c.if-header-eq0.true ∙ log.count;
      image = reads.image ∙ sym (recovered_empty (d.image c.args.disk.now) (sym log.count ∙ c.if-header-eq0.true));
      none = ap logged_count reads.image ∙ sym log.count ∙ c.if-header-eq0.true;
      writes = reads.writes;
      faults = log.faults;
      unwritten = λ none. rests_reading d c.args.disk.now c.read_header.new.disk reads;
      settles = record {
        settled = λ z left. c.requires.settled z (now_stays d.moment d.leaves c.args.disk.now c.read_header.new.disk (g.met.D.Disk.counts_now c.read_header.new.disk) reads.time z left) ∙ sym reads.image;
        syncs = reads.syncs ∙ syncs_none d (d.holding (d.name c.args.disk.now)) (d.sync_count c.args.disk.now);
      };
    }

pub returns-in_err-bring_home-clause-stops : goal.returns-in_err-bring_home-clause-stops
returns-in_err-bring_home-clause-stops g c =
    stops_copying g.D.Disk c.args.disk.now c.read_header.new.disk c.bring_home.new.disk c.requires.settled c.read_header.ensures.reads c.in_err-bring_home.ensures.stops

pub returns-in_err-clear_header-clause-stops : goal.returns-in_err-clear_header-clause-stops
returns-in_err-clear_header-clause-stops g c = stops g (goal.at.returns-in_err-clear_header-clause-stops g c).After-clear_header

pub returns-clause-ok : goal.returns-clause-ok
returns-clause-ok g c =
    let d = g.D.Disk in
    let at = (goal.at.returns-clause-ok g c).After-clear_header in
    let x = d.image c.args.disk.now in
    let log = c.in_ok-header.ensures.ok in
    let reads = c.in_ok-header.ensures.reads in
    let copies = c.in_ok-bring_home.ensures.ok.copies in
    let n = c.in_ok-header.header.n in
    let long = long g at in
    let copied = copied g at in
    let whole = g.met.D.Disk.is_image c.args.disk.now 2 (omega (arith, long)) in
    let count : length c.as_slice.result.now ≡ n = ap length (homes g at) ∙ homes_counted x log.lawful whole ∙ sym log.count in
    let clear = c.in_ok-clear_header.ensures.ok in
    let holds = d.holding (d.name c.args.disk.now) in
    let read = d.sync_count c.read_header.new.disk in
    record {
      lawful = log.lawful;
      count = log.count;
      image = clear.image ∙ cleared x (d.image c.bring_home.new.disk) (omega (arith, long)) (some g at) copied;
      none = ap logged_count clear.image ∙ none_cleared (d.image c.bring_home.new.disk) (omega (arith, long, copied.size));
      writes = clear.writes ∙ ap one_more (copies.writes ∙ ap (counted (d.write_count c.read_header.new.disk)) count ∙ ap (λ (w : ℕ). counted w n) reads.writes)
          ∙ sym (ap (counted (d.write_count c.args.disk.now)) (cond-false _ 0 (n + 1) (ne_eqb n 0 c.if-header-eq0.false) ∙ add-one n));
      faults = clear.faults ∙ copies.faults ∙ log.faults;
      unwritten = λ none. absurd (c.if-header-eq0.false none);
      settles = record {
        settled = clear.settles.settled;
        syncs = clear.settles.syncs ∙ ap (λ b. counted (d.sync_count c.bring_home.new.disk) (syncs_to_settle b)) (ap d.holding (c.in_ok-bring_home.ensures.fails.name ∙ reads.name))
            ∙ ap (λ s. counted s (syncs_to_settle holds)) (c.in_ok-bring_home.ensures.ok.settles.syncs ∙ ap (λ b. counted read (syncs_to_settle b)) (ap d.holding reads.name))
            ∙ syncs_some d holds n read c.if-header-eq0.false ∙ ap (λ s. counted s (syncs_to_restore holds n)) reads.syncs;
      };
    }

pub returns-clause-stops : goal.returns-clause-stops
returns-clause-stops g c = stops g (goal.at.returns-clause-stops g c).After-clear_header

pub returns-in_err-header-clause-memory : goal.returns-in_err-header-clause-memory
returns-in_err-header-clause-memory g c =
    let is : c.from_residual.result ≡ Err c.in_err-header.field-0.0 = search rules in
    subst (λ r. OnNoMemory r ⊥) (sym is) (none_as Header ℕ _ c.in_err-header.ensures.memory)

pub returns-in_err-bring_home-clause-refused : goal.returns-in_err-bring_home-clause-refused
returns-in_err-bring_home-clause-refused g c =
    let is : c.from_residual-in_err-bring_home.result ≡ Err c.in_err-bring_home.field-0.0 = search rules in
    subst (λ r. RefusesToRecover g.D.Disk c.args.disk.now c.bring_home.new.disk r) (sym is)
    (refuses_late g.D.Disk c.args.disk.now c.read_header.new.disk c.bring_home.new.disk _ c.in_ok-header.ensures.ok.faults (ap g.D.Disk.holding c.in_ok-header.ensures.reads.name) c.in_err-bring_home.ensures.fails.kinds c.in_err-bring_home.ensures.fails.once)

pub returns-in_err-bring_home-clause-memory : goal.returns-in_err-bring_home-clause-memory
returns-in_err-bring_home-clause-memory g c =
    let is : c.from_residual-in_err-bring_home.result ≡ Err c.in_err-bring_home.field-0.0 = search rules in
    subst (λ r. OnNoMemory r ⊥) (sym is) (none_late g.D.Disk ℕ c.read_header.new.disk _ c.in_err-bring_home.ensures.fails.kinds)

pub returns-in_err-clear_header-clause-refused : goal.returns-in_err-clear_header-clause-refused
returns-in_err-clear_header-clause-refused g c =
    let is : c.from_residual-in_err-clear_header.result ≡ Err c.in_err-clear_header.field-0.0 = search rules in
    subst (λ r. RefusesToRecover g.D.Disk c.args.disk.now c.clear_header.new.disk r) (sym is)
    (refuses_late g.D.Disk c.args.disk.now c.bring_home.new.disk c.clear_header.new.disk _ (c.in_ok-bring_home.ensures.ok.copies.faults ∙ c.in_ok-header.ensures.ok.faults) (ap g.D.Disk.holding (c.in_ok-bring_home.ensures.fails.name ∙ c.in_ok-header.ensures.reads.name)) c.in_err-clear_header.ensures.fails.kinds c.in_err-clear_header.ensures.fails.once)

pub returns-in_err-clear_header-clause-memory : goal.returns-in_err-clear_header-clause-memory
returns-in_err-clear_header-clause-memory g c =
    let is : c.from_residual-in_err-clear_header.result ≡ Err c.in_err-clear_header.field-0.0 = search rules in
    subst (λ r. OnNoMemory r ⊥) (sym is) (none_late g.D.Disk ℕ c.bring_home.new.disk _ c.in_err-clear_header.ensures.fails.kinds)
