use Rattle.calls.proofs.Calls.{empties}
use Rattle.calls.proofs.Stopping.{leaves_emptied}
use Rattle.calls.proofs.transactions.changing.empty.Goals as goal

pub unreachable-requires : goal.unreachable-requires
unreachable-requires g c =
    c.in_default.not-Done (empties _ _ _ c.args.i _ c.requires.there c.in_ok-make_one.ensures.makes).0

pub returns-clause-empties : goal.returns-clause-empties
returns-clause-empties g c = (empties _ _ _ c.args.i _ c.requires.there c.in_ok-make_one.ensures.makes).1

pub returns-in_err-make_one-clause-leaves : goal.returns-in_err-make_one-clause-leaves
returns-in_err-make_one-clause-leaves g c =
    leaves_emptied g.D.Disk (g.D.Disk.image c.args.kernel.now.store.volume.device) c.args.i c.requires.there c.make_one.result _ _ c.make_one.ensures.leaves

pub returns-clause-leaves : goal.returns-clause-leaves
returns-clause-leaves g c =
    leaves_emptied g.D.Disk (g.D.Disk.image c.args.kernel.now.store.volume.device) c.args.i c.requires.there c.make_one.result _ _ c.make_one.ensures.leaves
