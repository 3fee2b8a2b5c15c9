use Rattle.std.proofs.Common.{◌∙◌, sym, ap, subst}
use Rattle.blockmap.specs.Common.{MapAt}
use Rattle.blockmap.specs.BmapAlloc.{MapState, MapSteps}
use Rattle.blockmap.proofs.bmap_alloc.BmapAlloc.step.Goals as goal

pub returns-in-Behind-clause-steps : goal.returns-in-Behind-clause-steps
returns-in-Behind-clause-steps g c =
    subst (λ (a : MapAt). MapSteps g.D.Disk a c.args.volume.now c.args.pid c.args.self.now c.args.inode.now c.take_behind.result c.take_behind.new.self c.args.inode.now c.take_behind.new.volume)
    (ap (MapAt.Behind c.in-Behind.node c.in-Behind.slot) c.of-was-in-Behind.ensures ∙ sym c.in-Behind.is ∙ ap (λ (m : MapState). m.at) c.self.view_is) (c.take_behind.ensures.steps c.args.inode.now)
