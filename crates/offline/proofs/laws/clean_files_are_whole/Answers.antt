use Rattle.offline.proofs.FilesLemmas.{clean_files_are_whole}
use Rattle.offline.proofs.laws.clean_files_are_whole.Goals as goal

pub returns : goal.returns
returns c = clean_files_are_whole
