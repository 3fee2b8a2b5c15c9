use Rattle.names.proofs.Behind.{none_at}
use Rattle.names.proofs.tree.Tree.changed.Goals as goal

pub returns-in-Ok-clause-none : goal.returns-in-Ok-clause-none
returns-in-Ok-clause-none g c = λ zero. none_at c.args.path.now c.args.self.now c.changed_at.new.self c.changed_at.result (c.changed_at.ensures.none zero)
