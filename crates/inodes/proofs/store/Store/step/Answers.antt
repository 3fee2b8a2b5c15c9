-- each step is one of the operation that the task carries out
use Rattle.inodes.proofs.store.Store.step.Goals as goal

pub returns-in-Creating : goal.returns-in-Creating
returns-in-Creating g c = record { step = c.search.ensures.step c.args.op.now c.requires.op }

pub returns-in-Reading : goal.returns-in-Reading
returns-in-Reading g c = record { step = c.read.ensures.step c.args.op.now c.requires.op }

pub returns-in-Delivering : goal.returns-in-Delivering
returns-in-Delivering g c = record { step = c.deliver.ensures.step c.args.op.now c.requires.op }

pub returns-in-Leaving : goal.returns-in-Leaving
returns-in-Leaving g c = record { step = c.leave.ensures.step c.args.op.now c.requires.op }

pub returns-in-Truncating : goal.returns-in-Truncating
returns-in-Truncating g c = record { step = c.truncate.ensures.step c.args.op.now c.requires.op }

pub returns-in-Setting : goal.returns-in-Setting
returns-in-Setting g c = record { step = c.set_attribute.ensures.step c.args.op.now c.requires.op }
