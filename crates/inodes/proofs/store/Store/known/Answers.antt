use Rattle.std.proofs.Common.{rules, subst}
use Rattle.std.specs.Prelude.{IfNone}
use Rattle.inodes.specs.Common.{StoreState}
use Rattle.inodes.specs.Waiting.{AloneGetsBuffers, NobodyWaitsForEver}
use Rattle.inodes.proofs.GoesOn.{unless_failed}
use Rattle.inodes.proofs.store.Store.known.Goals as goal

pub returns-clause-goes : goal.returns-clause-goes
returns-clause-goes g c =
    let s : StoreState _ = record {
      volume = c.self.inside.volume;
      tasks = c.self.inside.tasks;
      table = c.self.inside.inodes;
    } in
    subst (λ (o : StoreState _). IfNone o.volume.fault (NobodyWaitsForEver o)) c.self.view_is
    (unless_failed g.D.Disk.image s c.self.invariant (search rules)).0

pub returns-clause-alone : goal.returns-clause-alone
returns-clause-alone g c =
    let s : StoreState _ = record {
      volume = c.self.inside.volume;
      tasks = c.self.inside.tasks;
      table = c.self.inside.inodes;
    } in
    subst (λ (o : StoreState _). IfNone o.volume.fault (AloneGetsBuffers o)) c.self.view_is
    (unless_failed g.D.Disk.image s c.self.invariant (search rules)).1
