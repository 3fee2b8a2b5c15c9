use Rattle.calls.proofs.Calls.{empties}
use Rattle.calls.proofs.Stopping.{leaves_emptied}
use Rattle.calls.proofs.changes.empty.Goals as goal

pub unreachable-requires : goal.unreachable-requires
unreachable-requires g c =
    c.in_default.not-Done (empties _ _ _ c.args.i _ c.requires.there c.in_ok-call.ensures.calls).0

pub returns-clause-empties : goal.returns-clause-empties
returns-clause-empties g c = (empties _ _ _ c.args.i _ c.requires.there c.in_ok-call.ensures.calls).1

pub returns-in_err-call-clause-leaves : goal.returns-in_err-call-clause-leaves
returns-in_err-call-clause-leaves g c =
    leaves_emptied g.D.Disk (g.D.Disk.image c.args.kernel.now.store.volume.device) c.args.i c.requires.there c.call.result _ _ c.call.ensures.leaves

pub returns-clause-leaves : goal.returns-clause-leaves
returns-clause-leaves g c =
    leaves_emptied g.D.Disk (g.D.Disk.image c.args.kernel.now.store.volume.device) c.args.i c.requires.there c.call.result _ _ c.call.ensures.leaves
