use Rattle.model.specs.declared.types.operations.Attribute.TheVariants.{Size}
use Rattle.calls.proofs.Calls.{sets}
use Rattle.calls.proofs.Stopping.{leaves_set}
use Rattle.calls.proofs.changes.resize.Goals as goal

pub unreachable-requires : goal.unreachable-requires
unreachable-requires g c =
    c.in_default.not-Done (sets _ _ _ c.args.i (Size c.args.size) _ c.requires.within c.in_ok-call.ensures.calls).0

pub returns-clause-resizes : goal.returns-clause-resizes
returns-clause-resizes g c = (sets _ _ _ c.args.i (Size c.args.size) _ c.requires.within c.in_ok-call.ensures.calls).1

pub returns-in_err-call-clause-leaves : goal.returns-in_err-call-clause-leaves
returns-in_err-call-clause-leaves g c =
    leaves_set g.D.Disk (g.D.Disk.image c.args.kernel.now.store.volume.device) c.args.i (Size c.args.size) c.requires.within c.call.result _ _ c.call.ensures.leaves

pub returns-clause-leaves : goal.returns-clause-leaves
returns-clause-leaves g c =
    leaves_set g.D.Disk (g.D.Disk.image c.args.kernel.now.store.volume.device) c.args.i (Size c.args.size) c.requires.within c.call.result _ _ c.call.ensures.leaves
