use Rattle.inodes.proofs.readi.Readi.step.Goals as goal

pub returns-in-Block-default-None : goal.returns-in-Block-default-None
returns-in-Block-default-None g c = c.seek.ensures c.args.into.now
