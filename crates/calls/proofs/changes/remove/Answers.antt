use Rattle.calls.proofs.Calls.{removes}
use Rattle.calls.proofs.Stopping.{leaves_removed}
use Rattle.calls.proofs.changes.remove.Goals as goal

pub unreachable-requires : goal.unreachable-requires
unreachable-requires g c =
    c.in_default.not-Done (removes _ _ _ c.args.i _ c.requires.there c.in_ok-call.ensures.calls).0

pub returns-clause-removes : goal.returns-clause-removes
returns-clause-removes g c = (removes _ _ _ c.args.i _ c.requires.there c.in_ok-call.ensures.calls).1

pub returns-in_err-call-clause-leaves : goal.returns-in_err-call-clause-leaves
returns-in_err-call-clause-leaves g c =
    leaves_removed g.D.Disk (g.D.Disk.image c.args.kernel.now.store.volume.device) c.args.i c.requires.there c.call.result _ _ c.call.ensures.leaves

pub returns-clause-leaves : goal.returns-clause-leaves
returns-clause-leaves g c =
    leaves_removed g.D.Disk (g.D.Disk.image c.args.kernel.now.store.volume.device) c.args.i c.requires.there c.call.result _ _ c.call.ensures.leaves
