use Rattle.calls.proofs.Calls.{appends, of_copy, writes}
use Rattle.calls.proofs.Stopping.{leaves_appended}
use Rattle.calls.specs.Lemmas.Reaching.{reached_none}
use Rattle.calls.proofs.transactions.changing.append_one.Goals as goal

pub unreachable-requires : goal.unreachable-requires
unreachable-requires g c =
    let calls = of_copy _ _ _ c.args.i c.args.off c.in-Ok.content c.args.bytes.now _ c.in-Ok.ensures c.in_ok-count.ensures.makes in
    let (count, is, has) = writes _ _ _ c.args.i c.args.off c.args.bytes.now _ c.requires.room calls in
    c.in_default-2.not-Wrote count is

pub returns-clause-appends : goal.returns-clause-appends
returns-clause-appends g c =
    let calls = of_copy _ _ _ c.args.i c.args.off c.in-Ok.content c.args.bytes.now _ c.in-Ok.ensures c.in_ok-count.ensures.makes in
    appends _ _ _ c.args.i c.args.off c.in-Wrote.count c.args.bytes.now _ c.requires.room calls c.in-Wrote.is

pub returns-in_err-count-clause-leaves : goal.returns-in_err-count-clause-leaves
returns-in_err-count-clause-leaves g c =
    leaves_appended g.D.Disk (g.D.Disk.image c.args.kernel.now.store.volume.device) c.args.i c.args.off c.in-Ok.content c.args.bytes.now c.in-Ok.ensures c.requires.room c.make_one.result _ _ c.make_one.ensures.leaves

pub returns-clause-leaves : goal.returns-clause-leaves
returns-clause-leaves g c =
    leaves_appended g.D.Disk (g.D.Disk.image c.args.kernel.now.store.volume.device) c.args.i c.args.off c.in-Ok.content c.args.bytes.now c.in-Ok.ensures c.requires.room c.make_one.result _ _ c.make_one.ensures.leaves

-- no copy was made
pub returns-in_default-clause-reached : goal.returns-in_default-clause-reached
returns-in_default-clause-reached g c = reached_none g.D.Disk c.args.kernel.now
