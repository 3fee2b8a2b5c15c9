use Rattle.names.proofs.Going.{proceeds_on}
use Rattle.names.proofs.numbered_changes.EmptyAtChange.apply.Goals as goal

pub returns-in-Ok-clause-goes : goal.returns-in-Ok-clause-goes
returns-in-Ok-clause-goes g c =
    proceeds_on g.D.Disk c.args.tree.now.kernel c.seen.new.self.kernel c.emptied.new.self.kernel c.emptied.result c.args.tree.now.calls_left c.seen.new.self.calls_left
    c.emptied.new.self.calls_left c.requires.way c.in_ok-_found.ensures.goes.on c.seen.ensures.goes.stays c.emptied.ensures.goes
