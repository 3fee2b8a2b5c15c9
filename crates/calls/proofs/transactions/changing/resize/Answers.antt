use Rattle.model.specs.declared.types.operations.Attribute.TheVariants.{Size}
use Rattle.calls.proofs.Calls.{sets}
use Rattle.calls.proofs.Stopping.{leaves_set}
use Rattle.calls.proofs.transactions.changing.resize.Goals as goal

pub unreachable-requires : goal.unreachable-requires
unreachable-requires g c =
    c.in_default.not-Done (sets _ _ _ c.args.i (Size c.args.size) _ c.requires.within c.in_ok-make_one.ensures.makes).0

pub returns-clause-resizes : goal.returns-clause-resizes
returns-clause-resizes g c = (sets _ _ _ c.args.i (Size c.args.size) _ c.requires.within c.in_ok-make_one.ensures.makes).1

pub returns-in_err-make_one-clause-leaves : goal.returns-in_err-make_one-clause-leaves
returns-in_err-make_one-clause-leaves g c =
    leaves_set g.D.Disk (g.D.Disk.image c.args.kernel.now.store.volume.device) c.args.i (Size c.args.size) c.requires.within c.make_one.result _ _ c.make_one.ensures.leaves

pub returns-clause-leaves : goal.returns-clause-leaves
returns-clause-leaves g c =
    leaves_set g.D.Disk (g.D.Disk.image c.args.kernel.now.store.volume.device) c.args.i (Size c.args.size) c.requires.within c.make_one.result _ _ c.make_one.ensures.leaves
