use Rattle.std.proofs.Common.{rules}
use Rattle.inodes.proofs.writei.Writei.go_on.Goals as goal

pub returns : goal.returns
returns g c = record {
  answer = c.step.result;
  now = c.step.new.self;
  inode = c.step.new.inode;
  steps = search rules;
  there = search rules;
  gives = search rules;
  next = search rules;
}
