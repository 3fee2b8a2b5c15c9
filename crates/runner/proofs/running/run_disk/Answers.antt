use Rattle.std.proofs.Common.{◌≡◌, ◌∙◌, None, true, refl, sym, subst}
use Rattle.std.specs.Prelude.{IfSome}
use Rattle.std.proofs.lemmas.Result.{IfErr-weaker, on_ok_weaker}
use Rattle.model.specs.Layout.{inode_count_of}
use Rattle.rings.specs.Callers.{intake_names}
use Rattle.clients.specs.Clients.{AreSameClients}
use Rattle.runner.proofs.Served.{ends_so, have_rings, is_served, keeps_tasks, many_are, not_begun, not_run, not_run_so}
use Rattle.runner.proofs.running.run_disk.Goals as goal

pub call-called-requires-clause-watches : goal.call-called-requires-clause-watches
call-called-requires-clause-watches g c κs inside = λ k d low. (c.in-Ok-new.ensures.watches.1 k d low).0

pub close-requires-clause-many : goal.close-requires-clause-many
close-requires-clause-many g c =
    let called = c.call-called in
    let same = subst (λ o. IfSome o (λ after. AreSameClients c.in-Ok.made.1.items after.0.items)) c.in-Some.is called.ensures.same in
    let are = same (intake_names c.in-Ok.made.0) c.args.tasks.items c.args.processes c.in-Ok.ensures.clients in
    are.count ∙ sym (many_are g.D.Disk c.args.disk c.in-Ok.made.0 c.in-Ok-open.kernel.herald c.args.processes c.in-Ok-open.kernel called.result.1 c.in-Ok-open.ensures.opened called.ensures.origin)

pub close-requires-clause-rings : goal.close-requires-clause-rings
close-requires-clause-rings g c =
    let called = c.call-called in
    let same = subst (λ o. IfSome o (λ after. AreSameClients c.in-Ok.made.1.items after.0.items)) c.in-Some.is called.ensures.same in
    let are = same (intake_names c.in-Ok.made.0) c.args.tasks.items c.args.processes c.in-Ok.ensures.clients in
    have_rings g.D.Disk c.args.disk c.in-Ok.made.0 c.in-Ok-open.kernel.herald c.args.processes c.in-Ok-open.kernel called.result.1 c.in-Ok-open.ensures.opened called.ensures.origin c.args.tasks.items c.in-Some.clients.items are

pub returns-in-Err-open-clause-refused : goal.returns-in-Err-open-clause-refused
returns-in-Err-open-clause-refused g c = (not_begun g.D.Disk c.args.disk c.in-Err-open.disk c.args.processes c.in-Err-open.fault c.in-Err-open.ensures.refused, refl)

pub returns-in-Some-clause-ran : goal.returns-in-Some-clause-ran
returns-in-Some-clause-ran g c =
    let called = c.call-called in
    let same = subst (λ o. IfSome o (λ after. AreSameClients c.in-Ok.made.1.items after.0.items)) c.in-Some.is called.ensures.same in
    let are = same (intake_names c.in-Ok.made.0) c.args.tasks.items c.args.processes c.in-Ok.ensures.clients in
    let law = g.met.D.Disk g.world.𝓛 g.world.𝓜 g.world.𝓡 ((λ s x. x), (λ x. x), (λ x. x), λ x. x) in
    on_ok_weaker c.close.result.0
    (λ ends. record {
      last = called.result.1;
      served = is_served g.D.Disk law.has_now c.args.disk c.in-Ok.made.0 c.in-Ok-open.kernel.herald c.args.processes c.in-Ok-open.kernel called.result.1 c.in-Ok-open.ensures.opened called.ensures.origin _ _ called.ensures.known c.close.result.1 c.close.ensures.disk;
      own = keeps_tasks g.D.Disk called.result.1 (intake_names c.in-Ok.made.0) c.args.tasks.items c.args.processes c.in-Some.clients.items are c.close.ensures.own;
      ends = ends_so (inode_count_of (g.D.Disk.image called.result.1.opening)) called.result.1 (intake_names c.in-Ok.made.0) c.args.tasks.items c.args.processes c.in-Some.clients.items None true (g.O.Write.contents c.args.out.now) (g.O.Write.contents c.close.new.out) are ends;
    })
    c.close.ensures.ended

pub returns-in-Some-clause-refused : goal.returns-in-Some-clause-refused
returns-in-Some-clause-refused g c =
    let called = c.call-called in
    let same = subst (λ o. IfSome o (λ after. AreSameClients c.in-Ok.made.1.items after.0.items)) c.in-Some.is called.ensures.same in
    let are = same (intake_names c.in-Ok.made.0) c.args.tasks.items c.args.processes c.in-Ok.ensures.clients in
    let law = g.met.D.Disk g.world.𝓛 g.world.𝓜 g.world.𝓡 ((λ s x. x), (λ x. x), (λ x. x), λ x. x) in
    let served = is_served g.D.Disk law.has_now c.args.disk c.in-Ok.made.0 c.in-Ok-open.kernel.herald c.args.processes c.in-Ok-open.kernel called.result.1 c.in-Ok-open.ensures.opened called.ensures.origin _ _ called.ensures.known c.close.result.1 c.close.ensures.disk in
    IfErr-weaker c.close.result.0 _ _
    (not_run g.D.Disk c.args.disk c.close.result.1 c.args.tasks.items c.args.processes (g.O.Write.contents c.args.out.now) (g.O.Write.contents c.close.new.out) (c.close.new.out ≡ c.args.out.now) called.result.1 (intake_names c.in-Ok.made.0) c.in-Some.clients.items served are (keeps_tasks g.D.Disk called.result.1 (intake_names c.in-Ok.made.0) c.args.tasks.items c.args.processes c.in-Some.clients.items are c.close.ensures.own) c.in-Some.is_refused)
    c.close.ensures.refused

pub returns-clause-refused : goal.returns-clause-refused
returns-clause-refused g c =
    let called = c.call-called in
    let law = g.met.D.Disk g.world.𝓛 g.world.𝓜 g.world.𝓡 ((λ s x. x), (λ x. x), (λ x. x), λ x. x) in (
      record {
        last = called.result.1;
        served = is_served g.D.Disk law.has_now c.args.disk c.in-Ok.made.0 c.in-Ok-open.kernel.herald c.args.processes c.in-Ok-open.kernel called.result.1 c.in-Ok-open.ensures.opened called.ensures.origin _ _ called.ensures.known c.into_disk.result c.into_disk.ensures;
      },
      refl,
    )

pub returns-in-Some-clause-session : goal.returns-in-Some-clause-session
returns-in-Some-clause-session g c =
    let called = c.call-called in
    let same = subst (λ o. IfSome o (λ after. AreSameClients c.in-Ok.made.1.items after.0.items)) c.in-Some.is called.ensures.same in
    let are = same (intake_names c.in-Ok.made.0) c.args.tasks.items c.args.processes c.in-Ok.ensures.clients in
    on_ok_weaker c.close.result.0
    (λ ends. record {
      last = called.result.1;
      comes = record {
        intake = c.in-Ok.made.0;
        herald = c.in-Ok-open.kernel.herald;
        first = c.in-Ok-open.kernel;
        opened = c.in-Ok-open.ensures.opened;
        known = called.ensures.before;
        turns = called.ensures.turns;
        left = c.close.ensures.disk;
      };
      ends = ends_so (inode_count_of (g.D.Disk.image called.result.1.opening)) called.result.1 (intake_names c.in-Ok.made.0) c.args.tasks.items c.args.processes c.in-Some.clients.items None true (g.O.Write.contents c.args.out.now) (g.O.Write.contents c.close.new.out) are ends;
    })
    c.close.ensures.ended

pub returns-in-Some-clause-part : goal.returns-in-Some-clause-part
returns-in-Some-clause-part g c =
    let called = c.call-called in
    let same = subst (λ o. IfSome o (λ after. AreSameClients c.in-Ok.made.1.items after.0.items)) c.in-Some.is called.ensures.same in
    let are = same (intake_names c.in-Ok.made.0) c.args.tasks.items c.args.processes c.in-Ok.ensures.clients in
    IfErr-weaker c.close.result.0 _ _
    (not_run_so g.D.Disk c.args.disk c.close.result.1 c.args.tasks.items c.args.processes (g.O.Write.contents c.args.out.now) (g.O.Write.contents c.close.new.out) called.result.1 (intake_names c.in-Ok.made.0) c.in-Some.clients.items
    (record {
      intake = c.in-Ok.made.0;
      herald = c.in-Ok-open.kernel.herald;
      first = c.in-Ok-open.kernel;
      opened = c.in-Ok-open.ensures.opened;
      known = called.ensures.before;
      turns = called.ensures.turns;
      left = c.close.ensures.disk;
    }) are c.in-Some.is_refused)
    c.close.ensures.refused

pub returns-clause-part : goal.returns-clause-part
returns-clause-part g c =
    let called = c.call-called in (
      called.result.1,
      record {
        intake = c.in-Ok.made.0;
        herald = c.in-Ok-open.kernel.herald;
        first = c.in-Ok-open.kernel;
        opened = c.in-Ok-open.ensures.opened;
        known = called.ensures.before;
        turns = called.ensures.turns;
        left = c.into_disk.ensures;
      },
    )
