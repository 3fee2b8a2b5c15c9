use Rattle.names.proofs.Going.{proceeds_on}
use Rattle.names.proofs.numbered.LookInChange.apply.Goals as goal

pub returns-in-Ok-clause-goes : goal.returns-in-Ok-clause-goes
returns-in-Ok-clause-goes g c =
    proceeds_on g.D.Disk c.args.tree.now.kernel c.step.new.self.kernel c.seen.new.self.kernel c.seen.result c.args.tree.now.calls_left c.step.new.self.calls_left
    c.seen.new.self.calls_left c.requires.way c.in_ok-number.ensures.goes.on c.step.ensures.goes.stays c.seen.ensures.goes
