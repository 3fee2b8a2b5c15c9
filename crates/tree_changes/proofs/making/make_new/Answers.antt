use Rattle.std.proofs.Common.{inr, refl}
use Rattle.names.specs.Lemmas.Midst.{leaves_any}
use Rattle.names.specs.Making.{MakesDirectoryIn}
use Rattle.tree_changes.proofs.making.make_new.Goals as goal

pub returns-in-Ok-clause-leaves : goal.returns-in-Ok-clause-leaves
returns-in-Ok-clause-leaves g c =
    inr (leaves_any g.D.Disk (MakesDirectoryIn c.args.from c.args.name.now) c.args.tree.now.kernel c.make_directory_in.new.self.kernel (c.make_directory_in.ensures.leaves (c.if-not-may_call.ensures.0 refl)))

pub returns-in-Err-clause-leaves : goal.returns-in-Err-clause-leaves
returns-in-Err-clause-leaves g c =
    inr (leaves_any g.D.Disk (MakesDirectoryIn c.args.from c.args.name.now) c.args.tree.now.kernel c.make_directory_in.new.self.kernel (c.make_directory_in.ensures.leaves (c.if-not-may_call.ensures.0 refl)))
