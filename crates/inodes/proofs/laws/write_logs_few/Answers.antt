use Rattle.inodes.proofs.Writing.{logs_few}
use Rattle.inodes.proofs.laws.write_logs_few.Goals as goal

pub returns : goal.returns
returns c = logs_few
