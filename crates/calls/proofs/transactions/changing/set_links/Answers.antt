use Rattle.model.specs.declared.types.operations.Attribute.TheVariants.{Links}
use Rattle.calls.proofs.Calls.{sets}
use Rattle.calls.proofs.Stopping.{leaves_set}
use Rattle.calls.specs.Lemmas.After.{can_links}
use Rattle.calls.proofs.transactions.changing.set_links.Goals as goal

pub unreachable-requires : goal.unreachable-requires
unreachable-requires g c =
    c.in_default.not-Done (sets _ _ _ c.args.i (Links c.args.count) _ (can_links _ _ c.requires.there) c.in_ok-make_one.ensures.makes).0

pub returns-clause-relinks : goal.returns-clause-relinks
returns-clause-relinks g c = (sets _ _ _ c.args.i (Links c.args.count) _ (can_links _ _ c.requires.there) c.in_ok-make_one.ensures.makes).1

pub returns-in_err-make_one-clause-leaves : goal.returns-in_err-make_one-clause-leaves
returns-in_err-make_one-clause-leaves g c =
    leaves_set g.D.Disk (g.D.Disk.image c.args.kernel.now.store.volume.device) c.args.i (Links c.args.count) (can_links _ _ c.requires.there) c.make_one.result _ _ c.make_one.ensures.leaves

pub returns-clause-leaves : goal.returns-clause-leaves
returns-clause-leaves g c =
    leaves_set g.D.Disk (g.D.Disk.image c.args.kernel.now.store.volume.device) c.args.i (Links c.args.count) (can_links _ _ c.requires.there) c.make_one.result _ _ c.make_one.ensures.leaves
