use Rattle.std.proofs.Common.{◌∙◌, ap, length, subst, sym}
use Rattle.wal.specs.Common.{counted, HasCopied, syncs_to_settle}
use Rattle.wal.proofs.recovery.bring_home.Goals as goal

pub returns-clause-ok : goal.returns-clause-ok
returns-clause-ok g c =
    let d = g.D.Disk in
    let old = c.args.disk.now in
    let copies = c.in_ok-copy_home.ensures.ok in
    let rests = c.settle.ensures.rests in
    let settles = c.in_ok-settle.ensures.ok in
    record {
      copies = record {
        copied = subst (HasCopied (length c.args.homes.now) (d.image old)) (sym rests.image) copies.copied;
        writes = rests.writes ∙ copies.writes;
        faults = c.in_ok-settle.ensures.faults ∙ copies.faults;
      };
      settles = record {
        settled = settles.settled;
        syncs = settles.syncs ∙ ap (λ h. counted (d.sync_count c.copy_home.new.disk) (syncs_to_settle h)) (ap d.holding c.in_ok-copy_home.ensures.name)
            ∙ ap (λ s. counted s (syncs_to_settle (d.holding (d.name old)))) c.in_ok-copy_home.ensures.syncs;
      };
    }
