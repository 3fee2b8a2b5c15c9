use Rattle.std.proofs.Common.{inr, refl}
use Rattle.directories.specs.Paths.{names_of}
use Rattle.names.specs.Lemmas.Midst.{leaves_any}
use Rattle.names.specs.Making.{MakesDirectoryAt}
use Rattle.tree_changes.proofs.filling.make_at.Goals as goal

pub returns-in-Ok-clause-leaves : goal.returns-in-Ok-clause-leaves
returns-in-Ok-clause-leaves g c =
    inr (leaves_any g.D.Disk (MakesDirectoryAt (names_of c.args.path.now)) c.args.tree.now.kernel c.make_directory.new.self.kernel (c.make_directory.ensures.leaves (c.if-not-may_call.ensures.0 refl)))

pub returns-in-Err-clause-leaves : goal.returns-in-Err-clause-leaves
returns-in-Err-clause-leaves g c =
    inr (leaves_any g.D.Disk (MakesDirectoryAt (names_of c.args.path.now)) c.args.tree.now.kernel c.make_directory.new.self.kernel (c.make_directory.ensures.leaves (c.if-not-may_call.ensures.0 refl)))
