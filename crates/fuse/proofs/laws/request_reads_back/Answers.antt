use Rattle.fuse.proofs.RequestsBack.{request_back}
use Rattle.fuse.proofs.laws.request_reads_back.Goals as goal

pub returns : goal.returns
returns c = request_back
