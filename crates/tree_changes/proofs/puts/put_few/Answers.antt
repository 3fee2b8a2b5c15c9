use Rattle.names.specs.Lemmas.Midst.{leaves_any}
use Rattle.directories.specs.Paths.{names_of}
use Rattle.names.specs.Putting.{PutsAt}
use Rattle.tree_changes.proofs.puts.put_few.Goals as goal

pub returns-in-Ok-Ok-clause-leaves : goal.returns-in-Ok-Ok-clause-leaves
returns-in-Ok-Ok-clause-leaves g c = λ some. leaves_any g.D.Disk (PutsAt c.args.bytes.now (names_of c.args.path.now)) c.args.tree.now.kernel c.put.new.self.kernel (c.put.ensures.leaves some)

pub returns-in-Ok-Err-clause-leaves : goal.returns-in-Ok-Err-clause-leaves
returns-in-Ok-Err-clause-leaves g c = λ some. leaves_any g.D.Disk (PutsAt c.args.bytes.now (names_of c.args.path.now)) c.args.tree.now.kernel c.put.new.self.kernel (c.put.ensures.leaves some)

pub returns-in-Err-clause-leaves : goal.returns-in-Err-clause-leaves
returns-in-Err-clause-leaves g c = λ some. leaves_any g.D.Disk (PutsAt c.args.bytes.now (names_of c.args.path.now)) c.args.tree.now.kernel c.put.new.self.kernel (c.put.ensures.leaves some)
