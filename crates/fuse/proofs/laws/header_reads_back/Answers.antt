use Rattle.fuse.proofs.RequestsBack.{header_back}
use Rattle.fuse.proofs.laws.header_reads_back.Goals as goal

pub returns : goal.returns
returns c = header_back
