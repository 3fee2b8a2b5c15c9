use Rattle.std.proofs.Common.{◌∙◌, ap, inr, length, subst, sym}
use Rattle.std.proofs.lemmas.List.{length-replicate}
use Rattle.blocks.specs.declared.faulty.Trap.{Trap}
use Rattle.clients.specs.Feeders.{HaveSourceRings}
use Rattle.rings.specs.Callers.{intake_names}
use Rattle.player.specs.Disks.{faulty}
use Rattle.player.proofs.Openings.{opened_name, opened_only, opened_over}
use Rattle.player.proofs.Seats.{new_seated}
use Rattle.player.proofs.turns.open_player.Goals as goal

pub returns-in-Ok-open-clause-opened : goal.returns-in-Ok-open-clause-opened
returns-in-Ok-open-clause-opened g c =
    let made = c.in-Ok.made in
    opened_over (faulty g.D.Disk) c.new-disk.result made.0 c.new.result (g.D.Disk.image c.args.disk) c.args.tasks.items c.args.processes
    (record { kernel = c.in-Ok-open.kernel; board = c.args.board; watch = c.args.hands.watch; feeders = made.1 }) (ap g.D.Disk.image c.new-disk.ensures.inner) c.in-Ok-open.ensures.opened c.in-Ok.ensures.feeders c.requires.watch.1

pub returns-in-Ok-open-clause-name : goal.returns-in-Ok-open-clause-name
returns-in-Ok-open-clause-name g c = opened_name g.D.Disk c.args.disk c.new-disk.result c.in-Ok.made.0 c.new.result c.args.processes c.in-Ok-open.kernel c.new-disk.ensures.inner c.in-Ok-open.ensures.opened

pub returns-in-Ok-open-clause-leaves : goal.returns-in-Ok-open-clause-leaves
returns-in-Ok-open-clause-leaves g c = opened_only g.D.Disk c.args.disk c.new-disk.result c.in-Ok.made.0 c.new.result c.args.processes c.in-Ok-open.kernel c.new-disk.ensures.inner c.in-Ok-open.ensures.opened

pub returns-in-Err-open-clause-refused : goal.returns-in-Err-open-clause-refused
returns-in-Err-open-clause-refused g c =
    inr (record {
      over = c.new-disk.result;
      now = c.in-Err-open.disk;
      kind = ap (λ (t : Trap). t.kind) c.new-disk.ensures.trap;
      nth = ap (λ (t : Trap). t.nth) c.new-disk.ensures.trap;
      below = c.new-disk.ensures.inner;
      below_now = sym c.into_inner.ensures;
      refuses = c.in-Err-open.ensures.refused;
    })

pub returns-in-Ok-open-clause-seated : goal.returns-in-Ok-open-clause-seated
returns-in-Ok-open-clause-seated g c =
    let made = c.in-Ok.made in
    let opened = c.in-Ok-open.ensures.opened in
    let feeders = c.in-Ok.ensures.feeders in
    record {
      watched = c.requires.watch.0;
      ringed = subst (λ i. HaveSourceRings (intake_names i) made.1.items) (sym opened.intake) (new_seated (intake_names made.0) c.args.tasks.items c.args.processes made.1.items feeders);
      many = feeders.count ∙ sym (ap (λ w. length w.processes) opened.world ∙ length-replicate c.args.processes _);
    }
