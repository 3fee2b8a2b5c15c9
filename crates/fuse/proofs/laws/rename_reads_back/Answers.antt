use Rattle.fuse.proofs.RequestsBack.{rename_back}
use Rattle.fuse.proofs.laws.rename_reads_back.Goals as goal

pub returns : goal.returns
returns c = rename_back
