use Rattle.calls.proofs.Calls.{removes}
use Rattle.calls.proofs.Stopping.{leaves_removed}
use Rattle.calls.proofs.transactions.changing.remove.Goals as goal

pub unreachable-requires : goal.unreachable-requires
unreachable-requires g c =
    c.in_default.not-Done (removes _ _ _ c.args.i _ c.requires.there c.in_ok-make_one.ensures.makes).0

pub returns-clause-removes : goal.returns-clause-removes
returns-clause-removes g c = (removes _ _ _ c.args.i _ c.requires.there c.in_ok-make_one.ensures.makes).1

pub returns-in_err-make_one-clause-leaves : goal.returns-in_err-make_one-clause-leaves
returns-in_err-make_one-clause-leaves g c =
    leaves_removed g.D.Disk (g.D.Disk.image c.args.kernel.now.store.volume.device) c.args.i c.requires.there c.make_one.result _ _ c.make_one.ensures.leaves

pub returns-clause-leaves : goal.returns-clause-leaves
returns-clause-leaves g c =
    leaves_removed g.D.Disk (g.D.Disk.image c.args.kernel.now.store.volume.device) c.args.i c.requires.there c.make_one.result _ _ c.make_one.ensures.leaves
