use Rattle.calls.proofs.Calls.{made_file, made_none, made_or_none}
use Rattle.calls.proofs.Stopping.{leaves_made}
use Rattle.calls.proofs.transactions.changing.create.Goals as goal

pub unreachable-requires : goal.unreachable-requires
unreachable-requires g c =
    made_or_none _ _ _ c.args.kind _ c.requires.kind c.in_ok-number.ensures.makes c.in_default.not-Made c.in_default.not-NoInode

pub returns-in-Made-clause-creates : goal.returns-in-Made-clause-creates
returns-in-Made-clause-creates g c =
    made_file _ _ _ c.args.kind _ _ c.requires.kind c.in_ok-number.ensures.makes c.in-Made.is

pub returns-in-NoInode-clause-creates : goal.returns-in-NoInode-clause-creates
returns-in-NoInode-clause-creates g c =
    made_none _ _ _ c.args.kind _ c.requires.kind c.in_ok-number.ensures.makes c.in-NoInode.is

pub returns-in_err-number-clause-leaves : goal.returns-in_err-number-clause-leaves
returns-in_err-number-clause-leaves g c =
    leaves_made g.D.Disk (g.D.Disk.image c.args.kernel.now.store.volume.device) c.args.kind c.requires.kind c.make_one.result _ _ c.make_one.ensures.leaves

pub returns-in-Made-clause-leaves : goal.returns-in-Made-clause-leaves
returns-in-Made-clause-leaves g c =
    leaves_made g.D.Disk (g.D.Disk.image c.args.kernel.now.store.volume.device) c.args.kind c.requires.kind c.make_one.result _ _ c.make_one.ensures.leaves

pub returns-in-NoInode-clause-leaves : goal.returns-in-NoInode-clause-leaves
returns-in-NoInode-clause-leaves g c =
    leaves_made g.D.Disk (g.D.Disk.image c.args.kernel.now.store.volume.device) c.args.kind c.requires.kind c.make_one.result _ _ c.make_one.ensures.leaves
