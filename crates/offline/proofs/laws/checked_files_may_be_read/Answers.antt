use Rattle.offline.proofs.FilesLemmas.{checked_files_may_be_read}
use Rattle.offline.proofs.laws.checked_files_may_be_read.Goals as goal

pub returns : goal.returns
returns c = checked_files_may_be_read
